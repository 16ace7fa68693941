use Rattle.std.proofs.Common.{◌++◌, ◌∷◌, [], Option, subst}
use Rattle.r3_rows.specs.declared.rows.FlowRow.{FlowRow}
use Rattle.r3_model.specs.Language.{Text}
use Rattle.sys_queue.specs.Index as queue
use Rattle.sys_pending.specs.Index as running
use Rattle.r3_exec.specs.Placed.{IsChange}
use Rattle.r3_exec.proofs.Noting.{noted_none, noted_some, note_asks}
use Rattle.r3_exec.proofs.exec.Exec.note.Goals as goal

pub note_row-requires-clause-short : goal.note_row-requires-clause-short
note_row-requires-clause-short c =
    let x = c.requires.entered in
    let change = subst (λ (o : Option (Text × Option FlowRow)). IsChange x.0 x.1.writes o) c.in-Some.is x.4 in
    (note_asks c.rows_follow.ensures.tell c.rows_follow.ensures.follow c.args.self.now x.0 x.1 x.2 c.in-Some.id c.in-Some.old x.3 change).2

pub note_row-requires-clause-stands : goal.note_row-requires-clause-stands
note_row-requires-clause-stands c =
    let x = c.requires.entered in
    let change = subst (λ (o : Option (Text × Option FlowRow)). IsChange x.0 x.1.writes o) c.in-Some.is x.4 in
    let asks = note_asks c.rows_follow.ensures.tell c.rows_follow.ensures.follow c.args.self.now x.0 x.1 x.2 c.in-Some.id c.in-Some.old x.3 change in
    (x.0 ++ x.1 ∷ [], asks.0, x.3.store, asks.1)

pub returns-in-None-clause-noted : goal.returns-in-None-clause-noted
returns-in-None-clause-noted c = λ h e begun entered change.
    noted_none c.rows_follow.ensures.tell c.rows_follow.ensures.follow c.args.self.now h e begun entered
    (subst (λ (o : Option (Text × Option FlowRow)). IsChange h e.writes o) c.in-None.is change)

pub returns-in-Ok-clause-noted : goal.returns-in-Ok-clause-noted
returns-in-Ok-clause-noted c = λ h e begun entered change.
    let known = subst (λ (o : Option (Text × Option FlowRow)). IsChange h e.writes o) c.in-Some.is change in
    let o = c.note_row.ensures.others in
    noted_some c.rows_follow.ensures.tell c.rows_follow.ensures.follow c.args.self.now c.note_row.new.self h e begun c.in-Some.id c.in-Some.old entered known
    o.0 o.1 o.2 o.3 o.4
    (λ row there. subst (λ (x : Option FlowRow). queue.Follows c.args.self.now.queues c.note_row.new.self.queues c.in-Some.id x row
    × running.Follows c.args.self.now.pending c.note_row.new.self.pending c.in-Some.id x row) c.as_ref.ensures.value (c.in-Ok.ensures.noted (h ++ e ∷ []) row entered.store there))
