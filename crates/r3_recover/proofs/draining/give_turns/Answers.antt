use Rattle.std.proofs.Common.{◌*◌, Bool, false, [], ◌∙◌, refl, subst, arith}
use Rattle.r3_model.specs.Functions.{language_of}
use Rattle.r3_exec.proofs.Syncs.{no_more}
use Rattle.r3_recover.specs.Rounds.{Point, Queues, Turns}
use Rattle.r3_recover.proofs.Phases.{queue_names}
use Rattle.r3_recover.proofs.Turning.{point-idle, point-over, point-round, point-stops, point-turns}
use Rattle.r3_recover.proofs.draining.give_turns.Goals as goal

pub turn_each-requires : goal.turn_each-requires
turn_each-requires g c =
    let x = c.requires in (
      x.0,
      x.1,
      x.2,
      c.args.turns,
      point-turns g.D.Desk.size g.D.Desk.image g.D.Desk.may_leave g.D.Desk.moment g.D.Desk.reach g.D.Desk.said g.D.Desk.asked g.D.Desk.syncs c.rows_follow.ensures.tell c.pending_tell.ensures
          x.0 c.args.desk.now c.args.exec.now x.1 x.2 c.args.turns c.args.round.now.left c.args.round.now.changed c.deref.result.now x.3 (c.deref.ensures.value ∙ c.in-Ok.ensures x.3.after x.3.runs.stands),
    )

pub returns-in-Err-clause-goes : goal.returns-in-Err-clause-goes
returns-in-Err-clause-goes g c = λ from st k p.
    point-stops g.D.Desk.size g.D.Desk.image g.D.Desk.may_leave g.D.Desk.moment g.D.Desk.reach g.D.Desk.said g.D.Desk.asked g.D.Desk.syncs from c.args.desk.now c.args.exec.now st k c.args.turns c.args.round.now.left (Queues []) c.args.round.now.changed
    p (c.reads_as_settled.ensures.read c.args.desk.now c.args.exec.now.store)

pub returns-in-Ok-false-clause-goes : goal.returns-in-Ok-false-clause-goes
returns-in-Ok-false-clause-goes g c = λ from st k p.
    let here = point-turns g.D.Desk.size g.D.Desk.image g.D.Desk.may_leave g.D.Desk.moment g.D.Desk.reach g.D.Desk.said g.D.Desk.asked g.D.Desk.syncs c.rows_follow.ensures.tell c.pending_tell.ensures
    from c.args.desk.now c.args.exec.now st k c.args.turns c.args.round.now.left c.args.round.now.changed c.deref.result.now p (c.deref.ensures.value ∙ c.in-Ok.ensures p.after p.runs.stands) in
    (c.in-Ok-false.ensures.goes from st k c.args.turns here).1 c.in-Ok-false.field-0-test

pub returns-in-Err-turn_each-clause-goes : goal.returns-in-Err-turn_each-clause-goes
returns-in-Err-turn_each-clause-goes g c = λ from st k p.
    let here = point-turns g.D.Desk.size g.D.Desk.image g.D.Desk.may_leave g.D.Desk.moment g.D.Desk.reach g.D.Desk.said g.D.Desk.asked g.D.Desk.syncs c.rows_follow.ensures.tell c.pending_tell.ensures
    from c.args.desk.now c.args.exec.now st k c.args.turns c.args.round.now.left c.args.round.now.changed c.deref.result.now p (c.deref.ensures.value ∙ c.in-Ok.ensures p.after p.runs.stands) in
    c.in-Err-turn_each.ensures.goes from st k c.args.turns here

pub returns-then-not-round-clause-goes : goal.returns-then-not-round-clause-goes
returns-then-not-round-clause-goes g c = λ from st k p.
    let here = point-turns g.D.Desk.size g.D.Desk.image g.D.Desk.may_leave g.D.Desk.moment g.D.Desk.reach g.D.Desk.said g.D.Desk.asked g.D.Desk.syncs c.rows_follow.ensures.tell c.pending_tell.ensures
    from c.args.desk.now c.args.exec.now st k c.args.turns c.args.round.now.left c.args.round.now.changed c.deref.result.now p (c.deref.ensures.value ∙ c.in-Ok.ensures p.after p.runs.stands) in
    let p2 = (c.in-Ok-true.ensures.goes from st k c.args.turns here).0 c.in-Ok-true.field-0-test in
    point-idle g.D.Desk.size g.D.Desk.image g.D.Desk.may_leave g.D.Desk.moment g.D.Desk.reach g.D.Desk.said g.D.Desk.asked g.D.Desk.syncs from c.turn_each.new.desk c.turn_each.new.exec st k c.args.turns c.turn_each.new.round.left
    (subst (λ (b : Bool). Point g.D.Desk.size g.D.Desk.image g.D.Desk.may_leave g.D.Desk.moment g.D.Desk.reach g.D.Desk.said g.D.Desk.asked g.D.Desk.syncs from c.turn_each.new.desk c.turn_each.new.exec st k c.args.turns (Turns []) c.turn_each.new.round.left b) c.if-not-round.true p2)
    (c.reads_as_settled.ensures.read c.turn_each.new.desk c.turn_each.new.exec.store)

pub returns-then-round-eq0-clause-goes : goal.returns-then-round-eq0-clause-goes
returns-then-round-eq0-clause-goes g c = λ from st k p.
    let here = point-turns g.D.Desk.size g.D.Desk.image g.D.Desk.may_leave g.D.Desk.moment g.D.Desk.reach g.D.Desk.said g.D.Desk.asked g.D.Desk.syncs c.rows_follow.ensures.tell c.pending_tell.ensures
    from c.args.desk.now c.args.exec.now st k c.args.turns c.args.round.now.left c.args.round.now.changed c.deref.result.now p (c.deref.ensures.value ∙ c.in-Ok.ensures p.after p.runs.stands) in
    let p2 = (c.in-Ok-true.ensures.goes from st k c.args.turns here).0 c.in-Ok-true.field-0-test in
    point-over g.D.Desk.size g.D.Desk.image g.D.Desk.may_leave g.D.Desk.moment g.D.Desk.reach g.D.Desk.said g.D.Desk.asked g.D.Desk.syncs from c.turn_each.new.desk c.turn_each.new.exec st k c.args.turns c.turn_each.new.round.left
    (subst (λ (b : Bool). Point g.D.Desk.size g.D.Desk.image g.D.Desk.may_leave g.D.Desk.moment g.D.Desk.reach g.D.Desk.said g.D.Desk.asked g.D.Desk.syncs from c.turn_each.new.desk c.turn_each.new.exec st k c.args.turns (Turns []) c.turn_each.new.round.left b) c.if-not-round.false p2)
    (c.reads_as_settled.ensures.read c.turn_each.new.desk c.turn_each.new.exec.store) (omega arith)

pub returns-clause-goes : goal.returns-clause-goes
returns-clause-goes g c = λ from st k p.
    let here = point-turns g.D.Desk.size g.D.Desk.image g.D.Desk.may_leave g.D.Desk.moment g.D.Desk.reach g.D.Desk.said g.D.Desk.asked g.D.Desk.syncs c.rows_follow.ensures.tell c.pending_tell.ensures
    from c.args.desk.now c.args.exec.now st k c.args.turns c.args.round.now.left c.args.round.now.changed c.deref.result.now p (c.deref.ensures.value ∙ c.in-Ok.ensures p.after p.runs.stands) in
    let p2 = (c.in-Ok-true.ensures.goes from st k c.args.turns here).0 c.in-Ok-true.field-0-test in
    subst (λ is. Point g.D.Desk.size g.D.Desk.image g.D.Desk.may_leave g.D.Desk.moment g.D.Desk.reach g.D.Desk.said g.D.Desk.asked g.D.Desk.syncs from c.turn_each.new.desk c.turn_each.new.exec st k c.args.turns (Queues (queue_names (language_of is))) c.turn_each.new.round.left false) c.turn_each.ensures.program
    (point-round g.D.Desk.size g.D.Desk.image g.D.Desk.may_leave g.D.Desk.moment g.D.Desk.reach g.D.Desk.said g.D.Desk.asked g.D.Desk.syncs from c.turn_each.new.desk c.turn_each.new.exec st k c.args.turns c.turn_each.new.round.left
    (subst (λ (b : Bool). Point g.D.Desk.size g.D.Desk.image g.D.Desk.may_leave g.D.Desk.moment g.D.Desk.reach g.D.Desk.said g.D.Desk.asked g.D.Desk.syncs from c.turn_each.new.desk c.turn_each.new.exec st k c.args.turns (Turns []) c.turn_each.new.round.left b) c.if-not-round.false p2)
    (omega arith))

pub returns-in-Err-clause-few_syncs : goal.returns-in-Err-clause-few_syncs
returns-in-Err-clause-few_syncs g c = no_more (g.D.Desk.syncs c.args.desk.now) (g.D.Desk.syncs c.args.desk.now) refl (2 * c.args.round.now.left)
