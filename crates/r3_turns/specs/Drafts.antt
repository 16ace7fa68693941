-- What a turn that awaits comes to, before its entry stands.
use Rattle.std.specs.Prelude.{List, length, ◌+◌}
use Rattle.r3_entry.specs.declared.entry.Entry.{Entry}
use Rattle.r3_model.specs.Event as reply
use Rattle.r3_model.specs.Given.{Given, Enters, Answers}
use Rattle.r3_turns.specs.declared.awaits.AwaitDraft.{AwaitDraft}
use Rattle.r3_turns.specs.declared.awaits.AwaitDraft.TheVariants as draft

-- the entry, answered with its number; or an answer without an entry
abbrev pub given_by : List Entry → AwaitDraft → Given
given_by h (draft.Waiting id) = Answers (reply.Waiting id)
given_by h (draft.Enters entry) = Enters entry (reply.Entry (length h + 1))
