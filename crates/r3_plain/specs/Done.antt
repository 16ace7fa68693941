-- What an event but a turn comes to.
use Rattle.std.specs.Prelude.{◌≡◌, List, None, ⊤, if◌then◌else◌, length}
use Rattle.r3_entry.specs.declared.entry.Entry.{Entry}
use Rattle.r3_model.specs.Event.{Refused}
use Rattle.r3_model.specs.Given as machine
use Rattle.r3_model.specs.Language.{Language, Text}
use Rattle.r3_model.specs.Machine.{given, got}
use Rattle.r3_model.specs.Rows.{row_at}
use Rattle.sys_flow.specs.declared.command.Refusal.TheVariants.{UnknownTable}
use Rattle.r3_plain.specs.declared.event.Event.{Event}
use Rattle.r3_plain.specs.declared.event.Event.TheVariants as events
use Rattle.r3_plain.specs.declared.given.Given.{Given}
use Rattle.r3_plain.specs.Words.{event_of, given_of}

-- the event is no turn
abbrev pub IsOther : Event → Type 0
IsOther (events.Turn id) = ⊥
IsOther (events.Append text) = ⊤
IsOther (events.Run command) = ⊤
IsOther (events.Dequeue queue) = ⊤
IsOther (events.ShowStatus id) = ⊤
IsOther (events.GetRow table key) = ⊤
IsOther events.Nothing = ⊤

-- it comes to this, whatever the outside would answer
abbrev pub IsDone : Language → List Entry → Event → Given → Type 0
IsDone P h ev g = IsOther ev → given_of g ≡ given P h (event_of ev) None None

-- a user's row, of a table that is declared
abbrev pub got_of : Language → List Entry → Text → Text → machine.Given
got_of P h table key = if P.has_table table then machine.Answers (got (row_at h (length h) table key)) else machine.Answers (Refused UnknownTable)
