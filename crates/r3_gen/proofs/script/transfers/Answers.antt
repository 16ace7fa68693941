use Rattle.std.proofs.Common.{rules, refl, arith, ◌<◌, ◌++◌}
use Rattle.r3_gen.proofs.Generating.{going-first, going-on, going-stops}
use Rattle.r3_gen.proofs.script.transfers.Goals as goal

pub starts-init : goal.starts-init
starts-init g c = record {
  going = going-first g.D.Desk.size g.D.Desk.image g.D.Desk.may_leave g.D.Desk.moment g.D.Desk.reach g.D.Desk.said g.D.Desk.asked c.args.desk.now c.args.session.now.exec c.args.number c.args.count;
  whole = c.requires.whole;
  program = refl;
  disk = refl;
  said = refl;
  say_faults = refl;
}

pub one_transfer-requires-clause-served : goal.one_transfer-requires-clause-served
one_transfer-requires-clause-served g c =
    let going = c.starts.invariant.going in
    let r = c.requires.served in
    (r.0, r.1, r.2, r.3 ++ going.done, going.serves r.0 r.1 r.2 r.3 r.4)

pub returns-in-Err-clause-stops : goal.returns-in-Err-clause-stops
returns-in-Err-clause-stops g c =
    let less : c.starts.i < c.args.count = omega arith in
    going-stops g.D.Desk.size g.D.Desk.image g.D.Desk.may_leave g.D.Desk.moment g.D.Desk.reach g.D.Desk.said g.D.Desk.asked c.args.desk.now c.starts.desk c.one_transfer.new.desk c.args.session.now.exec c.starts.session.exec c.one_transfer.new.session.exec
    c.args.number c.args.count c.starts.i c.starts.draws.kept less c.starts.invariant.going c.in-Err.ensures.stops

pub starts-preserved : goal.starts-preserved
starts-preserved g c =
    let less : c.starts.i < c.args.count = omega arith in
    record {
      going = going-on g.D.Desk.size g.D.Desk.image g.D.Desk.may_leave g.D.Desk.moment g.D.Desk.reach g.D.Desk.said g.D.Desk.asked c.args.desk.now c.starts.desk c.one_transfer.new.desk c.args.session.now.exec c.starts.session.exec c.one_transfer.new.session.exec
          c.args.number c.args.count c.starts.i c.starts.draws.kept _ less c.one_transfer.ensures.draws c.starts.invariant.going c.in-Ok.ensures.serves;
      whole = search rules;
      program = search rules;
      disk = search rules;
      said = search rules;
      say_faults = search rules;
    }
