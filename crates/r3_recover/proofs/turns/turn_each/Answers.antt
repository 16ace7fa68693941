use Rattle.std.proofs.Common.{◌≡◌, true, false, ◌∷◌, ◌+◌, ◌*◌, ◌-◌, drop, refl, sym, subst, ◌∙◌, arith}
use Rattle.r3_model.specs.Functions.{language_of}
use Rattle.r3_recover.specs.Drained.{EndsEarly}
use Rattle.r3_recover.specs.Rounds.{Point, Turns}
use Rattle.r3_exec.proofs.Syncs.{no_more}
use Rattle.r3_recover.proofs.Leaving.{few-by, few-more}
use Rattle.r3_recover.proofs.Failing.{counts-none, counts-raised, counts-then}
use Rattle.r3_recover.proofs.Taking.{raised-then, with-first, with-none}
use Rattle.r3_recover.proofs.Turning.{point-cut}
use Rattle.r3_recover.proofs.turns.turn_each.Goals as goal

pub turn_next-requires : goal.turn_next-requires
turn_next-requires g c =
    let x = c.requires in
    record {
      left = omega arith;
      point = (
        x.0,
        x.1,
        x.2,
        x.3,
        drop (c.ids.id-index + 1) c.args.ids.now,
        with-first (λ left. Point g.D.Desk.size g.D.Desk.image g.D.Desk.may_leave g.D.Desk.moment g.D.Desk.reach g.D.Desk.said g.D.Desk.asked g.D.Desk.syncs x.0 c.ids.desk c.ids.exec x.1 x.2 x.3 (Turns left) c.ids.round.left c.ids.round.changed)
            c.args.ids.now c.ids.id-index c.id-item.result c.ids-test.true c.id-item.is (c.ids.invariant.goes x.0 x.1 x.2 x.3 x.4),
      );
    }

pub ids-init : goal.ids-init
ids-init g c = record {
  goes = λ from st k turns p. p;
  fewer = omega arith;
  counted = λ is not. absurd (let e : true ≡ false = sym is ∙ not in cc);
  program = refl;
  few = no_more _ _ refl _;
  disk = refl;
  ask = counts-none g.D.Desk.asked g.D.Desk.ask_faults c.args.desk.now c.args.desk.now refl refl;
  said = refl;
  say = refl;
}

pub ids-preserved : goal.ids-preserved
ids-preserved g c =
    let inv = c.ids.invariant in
    record {
      goes = λ from st k turns p.
          c.in-Ok.ensures.goes from st k turns (drop (c.ids.id-index + 1) c.args.ids.now)
          (with-first (λ left. Point g.D.Desk.size g.D.Desk.image g.D.Desk.may_leave g.D.Desk.moment g.D.Desk.reach g.D.Desk.said g.D.Desk.asked g.D.Desk.syncs from c.ids.desk c.ids.exec st k turns (Turns left) c.ids.round.left c.ids.round.changed)
          c.args.ids.now c.ids.id-index c.id-item.result c.ids-test.true c.id-item.is (inv.goes from st k turns p));
      fewer = omega (arith, c.in-Ok.ensures.fewer, inv.fewer);
      counted = λ is not. omega (arith, c.in-Ok.ensures.counted, inv.fewer);
      program = c.in-Ok.ensures.program ∙ inv.program;
      few = few-by (g.D.Desk.syncs c.args.desk.now) (g.D.Desk.syncs c.ids.desk) (g.D.Desk.syncs c.turn_next.new.desk) (2 * (c.args.round.now.left - c.ids.round.left)) 2 _
          inv.few c.in-Ok.ensures.few_syncs (omega (arith, inv.fewer, c.in-Ok.ensures.counted));
      disk = c.in-Ok.ensures.no_fault (λ none. cc) ∙ inv.disk;
      ask = counts-then g.D.Desk.asked g.D.Desk.ask_faults c.args.desk.now c.ids.desk c.turn_next.new.desk inv.ask c.in-Ok.ensures.unanswered;
      said = c.in-Ok.ensures.said ∙ inv.said;
      say = c.in-Ok.ensures.say_faults ∙ inv.say;
    }

pub returns-then-round-eq0-clause-goes : goal.returns-then-round-eq0-clause-goes
returns-then-round-eq0-clause-goes g c = λ from st k turns p.
    let here = with-first (λ left. Point g.D.Desk.size g.D.Desk.image g.D.Desk.may_leave g.D.Desk.moment g.D.Desk.reach g.D.Desk.said g.D.Desk.asked g.D.Desk.syncs from c.ids.desk c.ids.exec st k turns (Turns left) c.ids.round.left c.ids.round.changed)
    c.args.ids.now c.ids.id-index c.id-item.result c.ids-test.true c.id-item.is (c.ids.invariant.goes from st k turns p) in (
      λ is. absurd (let e : false ≡ true = is in cc),
      λ is. point-cut g.D.Desk.size g.D.Desk.image g.D.Desk.may_leave g.D.Desk.moment g.D.Desk.reach g.D.Desk.said g.D.Desk.asked g.D.Desk.syncs
          from c.ids.desk c.ids.exec st k turns c.ids.round.left (Turns (c.id-item.result ∷ drop (c.ids.id-index + 1) c.args.ids.now)) c.ids.round.changed
          here (c.reads_as_settled.ensures.read c.ids.desk c.ids.exec.store) tt (omega arith),
    )

pub returns-in-Err-clause-goes : goal.returns-in-Err-clause-goes
returns-in-Err-clause-goes g c = λ from st k turns p.
    let here = with-first (λ left. Point g.D.Desk.size g.D.Desk.image g.D.Desk.may_leave g.D.Desk.moment g.D.Desk.reach g.D.Desk.said g.D.Desk.asked g.D.Desk.syncs from c.ids.desk c.ids.exec st k turns (Turns left) c.ids.round.left c.ids.round.changed)
    c.args.ids.now c.ids.id-index c.id-item.result c.ids-test.true c.id-item.is (c.ids.invariant.goes from st k turns p) in
    subst (λ is. EndsEarly g.D.Desk.image g.D.Desk.moment g.D.Desk.reach g.D.Desk.said g.D.Desk.asked g.D.Desk.syncs (language_of is) from c.turn_next.new.desk st k turns) c.ids.invariant.program
    (c.in-Err.ensures.goes from st k turns (drop (c.ids.id-index + 1) c.args.ids.now) here)

pub returns-clause-goes : goal.returns-clause-goes
returns-clause-goes g c = λ from st k turns p. (
  λ is. with-none (λ left. Point g.D.Desk.size g.D.Desk.image g.D.Desk.may_leave g.D.Desk.moment g.D.Desk.reach g.D.Desk.said g.D.Desk.asked g.D.Desk.syncs from c.ids.desk c.ids.exec st k turns (Turns left) c.ids.round.left c.ids.round.changed)
      c.args.ids.now c.ids.id-index (omega (arith, c.ids-test.false)) (c.ids.invariant.goes from st k turns p),
  λ is. absurd (let e : true ≡ false = is in cc),
)

pub returns-in-Err-clause-ask_faults : goal.returns-in-Err-clause-ask_faults
returns-in-Err-clause-ask_faults g c =
    let n = counts-raised g.D.Desk.asked g.D.Desk.ask_faults c.args.desk.now c.ids.desk c.ids.invariant.ask in
    raised-then n.0 c.in-Err.ensures.ask_faults.0 _ _ _ n.1 c.in-Err.ensures.ask_faults.1

pub returns-then-round-eq0-clause-ask_faults : goal.returns-then-round-eq0-clause-ask_faults
returns-then-round-eq0-clause-ask_faults g c = counts-raised g.D.Desk.asked g.D.Desk.ask_faults c.args.desk.now c.ids.desk c.ids.invariant.ask

pub returns-clause-ask_faults : goal.returns-clause-ask_faults
returns-clause-ask_faults g c = counts-raised g.D.Desk.asked g.D.Desk.ask_faults c.args.desk.now c.ids.desk c.ids.invariant.ask

pub returns-then-round-eq0-clause-few_syncs : goal.returns-then-round-eq0-clause-few_syncs
returns-then-round-eq0-clause-few_syncs g c =
    few-more (g.D.Desk.syncs c.args.desk.now) (g.D.Desk.syncs c.ids.desk) (2 * (c.args.round.now.left - c.ids.round.left)) (2 * c.args.round.now.left) c.ids.invariant.few (omega arith)

pub returns-in-Err-clause-few_syncs : goal.returns-in-Err-clause-few_syncs
returns-in-Err-clause-few_syncs g c =
    let inv = c.ids.invariant in
    few-by (g.D.Desk.syncs c.args.desk.now) (g.D.Desk.syncs c.ids.desk) (g.D.Desk.syncs c.turn_next.new.desk) (2 * (c.args.round.now.left - c.ids.round.left)) 2 (2 * c.args.round.now.left)
    inv.few c.in-Err.ensures.few_syncs (omega (arith, inv.fewer))

pub returns-clause-few_syncs : goal.returns-clause-few_syncs
returns-clause-few_syncs g c =
    few-more (g.D.Desk.syncs c.args.desk.now) (g.D.Desk.syncs c.ids.desk) (2 * (c.args.round.now.left - c.ids.round.left)) (2 * c.args.round.now.left) c.ids.invariant.few (omega arith)
