use Rattle.std.proofs.Common.{◌*◌, ◌-◌, List, refl, sym, subst, arith}
use Rattle.r3_model.specs.Functions.{language_of}
use Rattle.r3_model.specs.Language.{Text}
use Rattle.r3_exec.specs.Runs.{language}
use Rattle.r3_exec.specs.Does.{SyncsWithin}
use Rattle.r3_exec.proofs.Syncs.{no_more}
use Rattle.r3_recover.proofs.Leaving.{few-by}
use Rattle.r3_recover.proofs.Phases.{queue_names}
use Rattle.r3_recover.specs.Drained.{CountsFaults}
use Rattle.r3_recover.proofs.Failing.{counts-none, counts-then}
use Rattle.r3_recover.proofs.Taking.{raised-then}
use Rattle.r3_recover.proofs.Turning.{GoesRound, on-ok, one-taken}
use Rattle.r3_recover.proofs.draining.go_round.Goals as goal

pub dequeue_each-requires : goal.dequeue_each-requires
dequeue_each-requires g c =
    let x = c.requires.point in
    (x.0, x.1, x.2, c.args.turns, x.3)

pub give_turns-end-requires : goal.give_turns-end-requires
give_turns-end-requires g c =
    let x = c.requires.point in
    (x.0, x.1, x.2, (c.in-Ok-true.ensures.goes x.0 x.1 x.2 c.args.turns x.3).0 c.in-Ok-true.field-0-test)

pub returns-in-Ok-false-clause-goes : goal.returns-in-Ok-false-clause-goes
returns-in-Ok-false-clause-goes g c = λ from st k p. (c.in-Ok-false.ensures.goes from st k c.args.turns p).1 c.in-Ok-false.field-0-test

pub returns-in-Err-clause-goes : goal.returns-in-Err-clause-goes
returns-in-Err-clause-goes g c = λ from st k p. c.in-Err.ensures.goes from st k c.args.turns p

pub returns-in-Ok-false-clause-ask_faults : goal.returns-in-Ok-false-clause-ask_faults
returns-in-Ok-false-clause-ask_faults g c = (0, c.dequeue_each.ensures.ask_faults)

pub returns-in-Err-clause-ask_faults : goal.returns-in-Err-clause-ask_faults
returns-in-Err-clause-ask_faults g c = (0, c.dequeue_each.ensures.ask_faults)

pub returns-clause-ask_faults : goal.returns-clause-ask_faults
returns-clause-ask_faults g c = raised-then 0 c.give_turns-end.ensures.ask_faults.0 _ _ _ c.dequeue_each.ensures.ask_faults c.give_turns-end.ensures.ask_faults.1

pub returns-in-Ok-false-clause-unanswered : goal.returns-in-Ok-false-clause-unanswered
returns-in-Ok-false-clause-unanswered g c =
    counts-none g.D.Desk.asked g.D.Desk.ask_faults c.args.desk.now c.dequeue_each.new.desk c.dequeue_each.ensures.asked c.dequeue_each.ensures.ask_faults

pub returns-clause-unanswered : goal.returns-clause-unanswered
returns-clause-unanswered g c =
    let asked = g.D.Desk.asked in
    let faults = g.D.Desk.ask_faults in
    let old = c.args.desk.now in
    let mid = c.dequeue_each.new.desk in
    let new = c.give_turns-end.new.desk in
    on-ok c.give_turns-end.result (CountsFaults asked faults mid new) (CountsFaults asked faults old new)
    (λ x. counts-then asked faults old mid new (counts-none asked faults old mid c.dequeue_each.ensures.asked c.dequeue_each.ensures.ask_faults) x)
    c.give_turns-end.ensures.unanswered

pub returns-clause-fewer : goal.returns-clause-fewer
returns-clause-fewer g c = λ is.
    one-taken c.dequeue_each.new.round.changed c.args.left.now c.dequeue_each.new.round.left c.give_turns-end.new.round.left
    (λ more. c.in-Ok-true.ensures.counted more refl) c.dequeue_each.ensures.fewer c.give_turns-end.ensures.fewer (λ none. c.give_turns-end.ensures.counted is none)

pub returns-clause-goes : goal.returns-clause-goes
returns-clause-goes g c = λ from st k p.
    let here = (c.in-Ok-true.ensures.goes from st k c.args.turns p).0 c.in-Ok-true.field-0-test in
    subst (λ (names : List Text). GoesRound g.D.Desk.size g.D.Desk.image g.D.Desk.may_leave g.D.Desk.moment g.D.Desk.reach g.D.Desk.said g.D.Desk.asked g.D.Desk.syncs from c.give_turns-end.new.desk c.give_turns-end.new.exec st k c.args.turns names (language c.args.exec.now) c.give_turns-end.new.round.left c.give_turns-end.result) (sym c.requires.queues)
    (subst (λ is. GoesRound g.D.Desk.size g.D.Desk.image g.D.Desk.may_leave g.D.Desk.moment g.D.Desk.reach g.D.Desk.said g.D.Desk.asked g.D.Desk.syncs from c.give_turns-end.new.desk c.give_turns-end.new.exec st k c.args.turns (queue_names (language_of is)) (language_of is) c.give_turns-end.new.round.left c.give_turns-end.result) c.dequeue_each.ensures.program
    (c.give_turns-end.ensures.goes from st k here))

pub returns-in-Ok-false-clause-few_syncs : goal.returns-in-Ok-false-clause-few_syncs
returns-in-Ok-false-clause-few_syncs g c = no_more (g.D.Desk.syncs c.args.desk.now) (g.D.Desk.syncs c.dequeue_each.new.desk) c.dequeue_each.ensures.syncs _

pub returns-in-Ok-false-clause-counted_syncs : goal.returns-in-Ok-false-clause-counted_syncs
returns-in-Ok-false-clause-counted_syncs g c = no_more (g.D.Desk.syncs c.args.desk.now) (g.D.Desk.syncs c.dequeue_each.new.desk) c.dequeue_each.ensures.syncs _

pub returns-in-Err-clause-few_syncs : goal.returns-in-Err-clause-few_syncs
returns-in-Err-clause-few_syncs g c = no_more (g.D.Desk.syncs c.args.desk.now) (g.D.Desk.syncs c.dequeue_each.new.desk) c.dequeue_each.ensures.syncs _

pub returns-clause-few_syncs : goal.returns-clause-few_syncs
returns-clause-few_syncs g c =
    few-by (g.D.Desk.syncs c.args.desk.now) (g.D.Desk.syncs c.dequeue_each.new.desk) (g.D.Desk.syncs c.give_turns-end.new.desk) 0 (2 * c.dequeue_each.new.round.left) (2 * c.args.left.now)
    (no_more _ _ c.dequeue_each.ensures.syncs 0) c.give_turns-end.ensures.few_syncs (omega (arith, c.dequeue_each.ensures.fewer))

pub returns-clause-counted_syncs : goal.returns-clause-counted_syncs
returns-clause-counted_syncs g c =
    let old = c.args.left.now in
    let mid = c.dequeue_each.new.round.left in
    let new = c.give_turns-end.new.round.left in
    on-ok c.give_turns-end.result
    (SyncsWithin (g.D.Desk.syncs c.dequeue_each.new.desk) (g.D.Desk.syncs c.give_turns-end.new.desk) (2 * (mid - new)))
    (SyncsWithin (g.D.Desk.syncs c.args.desk.now) (g.D.Desk.syncs c.give_turns-end.new.desk) (2 * (old - new)))
    (λ few. few-by (g.D.Desk.syncs c.args.desk.now) (g.D.Desk.syncs c.dequeue_each.new.desk) (g.D.Desk.syncs c.give_turns-end.new.desk) 0 (2 * (mid - new)) (2 * (old - new))
    (no_more _ _ c.dequeue_each.ensures.syncs 0) few (omega (arith, c.dequeue_each.ensures.fewer, c.give_turns-end.ensures.fewer)))
    c.give_turns-end.ensures.counted_syncs
