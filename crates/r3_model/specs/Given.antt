-- What an event comes to, and refusals in their order.
use Rattle.std.specs.Prelude.{Bool, true, false, List, [], ◌∷◌, length, nat_le, ◌&&◌}
use Rattle.r3_entry.specs.declared.entry.Entry.{Entry}
use Rattle.sys_flow.specs.declared.command.Refusal.{Refusal}
use Rattle.sys_flow.specs.declared.command.Refusal.TheVariants as refusals
use Rattle.sys_flow.specs.declared.repeats.Repeat.{Repeat}
use Rattle.sys_flow.specs.declared.repeats.Repeat.TheVariants.{Fresh, Known, Conflict}
use Rattle.r3_model.specs.Language.{Text}
use Rattle.r3_model.specs.Event.{Reply, EntryOf, Refused}

-- an entry, with the reply once it stands; or a reply without one
pub data Given : Type 0 where
  Enters : Entry → Reply → Given
  Answers : Reply → Given

-- the first refusal whose test holds, else what is given
abbrev pub unless : List (Bool × Refusal) → Given → Given
unless [] g = g
unless ((true, refusal) ∷ tests) g = Answers (Refused refusal)
unless ((false, refusal) ∷ tests) g = unless tests g

-- an ID has 1 to 200 bytes
abbrev pub is_id : Text → Bool
is_id id = nat_le 1 (length id) && nat_le (length id) 200

-- The repeat rule: an ID that was started is answered as then, and nothing is appended.
abbrev pub once : Repeat → Text → Given → Given
once Fresh id g = g
once (Known started) id g = Answers (EntryOf started id)
once Conflict id g = Answers (Refused refusals.Conflict)
