use Rattle.std.proofs.Common.{◌+◌, drop, refl, ◌∙◌, arith}
use Rattle.r3_recover.specs.Recovering.{Recovers}
use Rattle.r3_recover.proofs.Taking.{with-first, with-none}
use Rattle.r3_recover.proofs.recovering.recover_each.Goals as goal

pub recover_next-requires : goal.recover_next-requires
recover_next-requires g c =
    let x = c.requires in (
      x.0,
      x.1,
      drop (c.ids.id-index + 1) c.args.ids.now,
      with-first (λ left. Recovers g.D.Desk.size g.D.Desk.image g.D.Desk.may_leave g.D.Desk.moment g.D.Desk.reach g.D.Desk.said g.D.Desk.asked g.D.Desk.syncs x.0 c.ids.desk c.ids.exec x.1 left)
          c.args.ids.now c.ids.id-index c.id-item.result c.ids-test.true c.id-item.is (c.ids.invariant.goes x.0 x.1 x.2),
    )

pub ids-init : goal.ids-init
ids-init g c = record {
  goes = λ from h p. p;
  program = refl;
  syncs = refl;
  disk = refl;
  ask = refl;
  said = refl;
  asked = refl;
  say = refl;
}

pub ids-preserved : goal.ids-preserved
ids-preserved g c =
    let inv = c.ids.invariant in
    record {
      goes = λ from h p.
          c.in-Ok.ensures.goes from h (drop (c.ids.id-index + 1) c.args.ids.now)
          (with-first (λ left. Recovers g.D.Desk.size g.D.Desk.image g.D.Desk.may_leave g.D.Desk.moment g.D.Desk.reach g.D.Desk.said g.D.Desk.asked g.D.Desk.syncs from c.ids.desk c.ids.exec h left)
          c.args.ids.now c.ids.id-index c.id-item.result c.ids-test.true c.id-item.is (inv.goes from h p));
      program = c.in-Ok.ensures.program ∙ inv.program;
      syncs = c.in-Ok.ensures.syncs ∙ inv.syncs;
      disk = c.in-Ok.ensures.no_fault (λ none. cc) ∙ inv.disk;
      ask = c.in-Ok.ensures.ask_faults ∙ inv.ask;
      said = c.in-Ok.ensures.said ∙ inv.said;
      asked = c.in-Ok.ensures.asked ∙ inv.asked;
      say = c.in-Ok.ensures.say_faults ∙ inv.say;
    }

pub returns-in-Err-clause-crash : goal.returns-in-Err-clause-crash
returns-in-Err-clause-crash g c = λ from h p.
    c.recover_next.ensures.crash from h (drop (c.ids.id-index + 1) c.args.ids.now)
    (with-first (λ left. Recovers g.D.Desk.size g.D.Desk.image g.D.Desk.may_leave g.D.Desk.moment g.D.Desk.reach g.D.Desk.said g.D.Desk.asked g.D.Desk.syncs from c.ids.desk c.ids.exec h left)
    c.args.ids.now c.ids.id-index c.id-item.result c.ids-test.true c.id-item.is (c.ids.invariant.goes from h p))

pub returns-in-Err-clause-reads : goal.returns-in-Err-clause-reads
returns-in-Err-clause-reads g c = λ from h p.
    c.recover_next.ensures.reads from h (drop (c.ids.id-index + 1) c.args.ids.now)
    (with-first (λ left. Recovers g.D.Desk.size g.D.Desk.image g.D.Desk.may_leave g.D.Desk.moment g.D.Desk.reach g.D.Desk.said g.D.Desk.asked g.D.Desk.syncs from c.ids.desk c.ids.exec h left)
    c.args.ids.now c.ids.id-index c.id-item.result c.ids-test.true c.id-item.is (c.ids.invariant.goes from h p))

pub returns-clause-goes : goal.returns-clause-goes
returns-clause-goes g c = λ from h p.
    with-none (λ left. Recovers g.D.Desk.size g.D.Desk.image g.D.Desk.may_leave g.D.Desk.moment g.D.Desk.reach g.D.Desk.said g.D.Desk.asked g.D.Desk.syncs from c.ids.desk c.ids.exec h left)
    c.args.ids.now c.ids.id-index (omega (arith, c.ids-test.false)) (c.ids.invariant.goes from h p)

pub returns-clause-crash : goal.returns-clause-crash
returns-clause-crash g c = λ from h p. (c.ids.invariant.goes from h p).left

pub returns-clause-reads : goal.returns-clause-reads
returns-clause-reads g c = λ from h p. (c.ids.invariant.goes from h p).read
