use Rattle.std.proofs.Common.{◌*◌, ◌-◌, Ok, false, List, ◌∙◌, refl, sym, subst, ap, arith}
use Rattle.r3_model.specs.Functions.{language_of}
use Rattle.r3_model.specs.Language.{Text}
use Rattle.r3_recover.specs.Drained.{EndsEarly}
use Rattle.r3_recover.specs.Rounds.{Point, Queues}
use Rattle.r3_exec.proofs.Syncs.{no_more}
use Rattle.r3_recover.proofs.Leaving.{few-by}
use Rattle.r3_recover.proofs.Phases.{queue_names}
use Rattle.r3_recover.proofs.Starts.{ends-first}
use Rattle.r3_recover.proofs.Failing.{counts-none, counts-raised, counts-then}
use Rattle.r3_recover.proofs.Taking.{raised-then}
use Rattle.r3_recover.proofs.Turning.{point-first}
use Rattle.r3_recover.proofs.draining.drain.Goals as goal

pub returns-in-Err-clause-early : goal.returns-in-Err-clause-early
returns-in-Err-clause-early g c = λ st k runs.
    ends-first g.D.Desk.image g.D.Desk.may_leave g.D.Desk.moment g.D.Desk.reach g.D.Desk.said g.D.Desk.asked g.D.Desk.syncs _ c.args.desk.now st k c.args.turns
    (g.met.D.Desk.counts_now c.args.desk.now) (g.met.D.Desk.only_now c.args.desk.now) runs.holds.within
    (λ image left. c.reads_as_settled.ensures.crash c.args.desk.now c.args.exec.now.store st.history k image runs.holds left)
    (λ image told. c.reads_as_settled.ensures.read c.args.desk.now c.args.exec.now.store st.history k image runs.holds told)

pub rounds-init : goal.rounds-init
rounds-init g c = record {
  goes = λ st k runs.
      point-first g.D.Desk.size g.D.Desk.image g.D.Desk.may_leave g.D.Desk.moment g.D.Desk.reach g.D.Desk.said g.D.Desk.asked g.D.Desk.syncs c.args.desk.now c.args.exec.now st k c.args.turns c.in-Ok.queues.items c.in-Ok.ensures
      (g.met.D.Desk.counts_now c.args.desk.now) (g.met.D.Desk.only_now c.args.desk.now) runs
      (λ image left. c.reads_as_settled.ensures.crash c.args.desk.now c.args.exec.now.store st.history k image runs.holds left);
  program = refl;
  within = omega arith;
  few = no_more _ _ refl _;
  disk = refl;
  ask = counts-none g.D.Desk.asked g.D.Desk.ask_faults c.args.desk.now c.args.desk.now refl refl;
  said = refl;
  say = refl;
}

pub go_round-requires : goal.go_round-requires
go_round-requires g c =
    let x = c.requires in
    let inv = c.rounds.invariant in
    record {
      queues = c.deref.ensures.value ∙ c.in-Ok.ensures ∙ ap (λ is. queue_names (language_of is)) (sym inv.program);
      point = (
        c.args.desk.now,
        x.0,
        x.1,
        subst (λ (names : List Text). Point g.D.Desk.size g.D.Desk.image g.D.Desk.may_leave g.D.Desk.moment g.D.Desk.reach g.D.Desk.said g.D.Desk.asked g.D.Desk.syncs c.args.desk.now c.rounds.desk c.rounds.exec x.0 x.1 c.args.turns (Queues names) c.rounds.left false) (sym c.deref.ensures.value) (inv.goes x.0 x.1 x.2),
      );
    }

pub returns-in-Ok-Some-clause-does : goal.returns-in-Ok-Some-clause-does
returns-in-Ok-Some-clause-does g c = λ st k runs.
    let here = subst (λ (names : List Text). Point g.D.Desk.size g.D.Desk.image g.D.Desk.may_leave g.D.Desk.moment g.D.Desk.reach g.D.Desk.said g.D.Desk.asked g.D.Desk.syncs c.args.desk.now c.rounds.desk c.rounds.exec st k c.args.turns (Queues names) c.rounds.left false) (sym c.deref.ensures.value) (c.rounds.invariant.goes st k runs) in
    rw c.in-Ok-Some.field-0-is at (c.in-Ok-Some.ensures.goes c.args.desk.now st k here)

pub returns-in-Ok-Some-clause-ask_faults : goal.returns-in-Ok-Some-clause-ask_faults
returns-in-Ok-Some-clause-ask_faults g c =
    let n = counts-raised g.D.Desk.asked g.D.Desk.ask_faults c.args.desk.now c.rounds.desk c.rounds.invariant.ask in
    raised-then n.0 c.go_round.ensures.ask_faults.0 _ _ _ n.1 c.go_round.ensures.ask_faults.1

pub returns-in-Ok-Some-clause-unanswered : goal.returns-in-Ok-Some-clause-unanswered
returns-in-Ok-Some-clause-unanswered g c =
    counts-then g.D.Desk.asked g.D.Desk.ask_faults c.args.desk.now c.rounds.desk c.go_round.new.desk c.rounds.invariant.ask c.in-Ok-Some.ensures.unanswered

pub returns-in-Err-go_round-clause-early : goal.returns-in-Err-go_round-clause-early
returns-in-Err-go_round-clause-early g c = λ st k runs.
    let here = subst (λ (names : List Text). Point g.D.Desk.size g.D.Desk.image g.D.Desk.may_leave g.D.Desk.moment g.D.Desk.reach g.D.Desk.said g.D.Desk.asked g.D.Desk.syncs c.args.desk.now c.rounds.desk c.rounds.exec st k c.args.turns (Queues names) c.rounds.left false) (sym c.deref.ensures.value) (c.rounds.invariant.goes st k runs) in
    subst (λ is. EndsEarly g.D.Desk.image g.D.Desk.moment g.D.Desk.reach g.D.Desk.said g.D.Desk.asked g.D.Desk.syncs (language_of is) c.args.desk.now c.go_round.new.desk st k c.args.turns) c.rounds.invariant.program
    (c.in-Err-go_round.ensures.goes c.args.desk.now st k here)

pub returns-in-Err-go_round-clause-ask_faults : goal.returns-in-Err-go_round-clause-ask_faults
returns-in-Err-go_round-clause-ask_faults g c =
    let n = counts-raised g.D.Desk.asked g.D.Desk.ask_faults c.args.desk.now c.rounds.desk c.rounds.invariant.ask in
    raised-then n.0 c.go_round.ensures.ask_faults.0 _ _ _ n.1 c.go_round.ensures.ask_faults.1

pub rounds-preserved : goal.rounds-preserved
rounds-preserved g c =
    let inv = c.rounds.invariant in
    record {
      goes = λ st k runs.
          let here = subst (λ (names : List Text). Point g.D.Desk.size g.D.Desk.image g.D.Desk.may_leave g.D.Desk.moment g.D.Desk.reach g.D.Desk.said g.D.Desk.asked g.D.Desk.syncs c.args.desk.now c.rounds.desk c.rounds.exec st k c.args.turns (Queues names) c.rounds.left false) (sym c.deref.ensures.value) (inv.goes st k runs) in
          subst (λ (names : List Text). Point g.D.Desk.size g.D.Desk.image g.D.Desk.may_leave g.D.Desk.moment g.D.Desk.reach g.D.Desk.said g.D.Desk.asked g.D.Desk.syncs c.args.desk.now c.go_round.new.desk c.go_round.new.exec st k c.args.turns (Queues names) c.go_round.new.left false) c.deref.ensures.value
          (rw c.in-Ok-None.field-0-is at (c.in-Ok-None.ensures.goes c.args.desk.now st k here));
      program = c.go_round.ensures.program ∙ inv.program;
      within = omega (arith, inv.within, c.in-Ok-None.ensures.fewer (ap (λ o. Ok o) c.in-Ok-None.field-0-is));
      few = few-by (g.D.Desk.syncs c.args.desk.now) (g.D.Desk.syncs c.rounds.desk) (g.D.Desk.syncs c.go_round.new.desk) (2 * (c.args.turns - c.rounds.left)) (2 * (c.rounds.left - c.go_round.new.left)) _
          inv.few c.in-Ok-None.ensures.counted_syncs (omega (arith, inv.within, c.in-Ok-None.ensures.fewer (ap (λ o. Ok o) c.in-Ok-None.field-0-is)));
      disk = c.in-Ok-None.ensures.no_fault (λ none. cc) ∙ inv.disk;
      ask = counts-then g.D.Desk.asked g.D.Desk.ask_faults c.args.desk.now c.rounds.desk c.go_round.new.desk inv.ask c.in-Ok-None.ensures.unanswered;
      said = c.go_round.ensures.said ∙ inv.said;
      say = c.go_round.ensures.say_faults ∙ inv.say;
    }

pub rounds-smaller : goal.rounds-smaller
rounds-smaller g c = c.in-Ok-None.ensures.fewer (ap (λ o. Ok o) c.in-Ok-None.field-0-is)

pub returns-in-Err-clause-few_syncs : goal.returns-in-Err-clause-few_syncs
returns-in-Err-clause-few_syncs g c = no_more (g.D.Desk.syncs c.args.desk.now) (g.D.Desk.syncs c.args.desk.now) refl (2 * c.args.turns)

pub returns-in-Ok-Some-clause-few_syncs : goal.returns-in-Ok-Some-clause-few_syncs
returns-in-Ok-Some-clause-few_syncs g c =
    let inv = c.rounds.invariant in
    few-by (g.D.Desk.syncs c.args.desk.now) (g.D.Desk.syncs c.rounds.desk) (g.D.Desk.syncs c.go_round.new.desk) (2 * (c.args.turns - c.rounds.left)) (2 * c.rounds.left) (2 * c.args.turns)
    inv.few c.go_round.ensures.few_syncs (omega (arith, inv.within))

pub returns-in-Err-go_round-clause-few_syncs : goal.returns-in-Err-go_round-clause-few_syncs
returns-in-Err-go_round-clause-few_syncs g c =
    let inv = c.rounds.invariant in
    few-by (g.D.Desk.syncs c.args.desk.now) (g.D.Desk.syncs c.rounds.desk) (g.D.Desk.syncs c.go_round.new.desk) (2 * (c.args.turns - c.rounds.left)) (2 * c.rounds.left) (2 * c.args.turns)
    inv.few c.go_round.ensures.few_syncs (omega (arith, inv.within))
