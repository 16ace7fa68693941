-- A draft, as the plain machine has it.
use Rattle.std.specs.Prelude.{ℕ, ◌+◌, Bool, true, false, List, [], ◌∷◌, Option, Some, None, is_none, not, if◌then◌else◌}
use Rattle.r3_value.specs.declared.value.Val.{Val}
use Rattle.r3_commands.specs.declared.drafts.Draft.{Draft}
use Rattle.r3_commands.specs.declared.drafts.Draft.TheVariants as drafts
use Rattle.sys_flow.specs.declared.command.Refusal.{Refusal}
use Rattle.sys_flow.specs.declared.command.Refusal.TheVariants as refusals
use Rattle.r3_entry.specs.declared.entry.Entry.{Entry as HistoryEntry}
use Rattle.r3_model.specs.Language.{Text, Language}
use Rattle.r3_model.specs.Commands.{has_arity, has_queue}
use Rattle.r3_model.specs.Event.{Reply, Entry, EntryOf, Refused}
use Rattle.r3_model.specs.Given.{Given, Enters, Answers, is_id}

-- the reply to entry n
abbrev pub reply_of : ℕ → Option Text → Reply
reply_of n None = Entry n
reply_of n (Some id) = EntryOf n id

-- what a draft comes to on a history of n entries
abbrev pub given_of : ℕ → Draft → Given
given_of n (drafts.Enters entry id) = Enters entry (reply_of (n + 1) id)
given_of n (drafts.Known number id) = Answers (EntryOf number id)
given_of n (drafts.Refused refusal) = Answers (Refused refusal)

-- an ID that has 1 to 200 bytes
abbrev pub id_if_fits : Text → Option Text
id_if_fits id = if is_id id then Some id else None

-- the first refusal whose test holds
abbrev pub refused_by : List (Bool × Refusal) → Option Refusal
refused_by [] = None
refused_by ((true, refusal) ∷ tests) = Some refusal
refused_by ((false, refusal) ∷ tests) = refused_by tests

-- what a function's name and its arguments are refused for
abbrev pub call_tests : Language → Text → Val → List (Bool × Refusal)
call_tests P function args =
    (is_none (P.arity function), refusals.UnknownFunction)
    ∷ (not (has_arity (P.arity function) args), refusals.Arity) ∷ []

-- the same, after the queue's name
abbrev pub queued_tests : Language → List HistoryEntry → Text → Text → Val → List (Bool × Refusal)
queued_tests P h queue function args =
    (not (has_queue P h queue), refusals.UnknownQueue) ∷ call_tests P function args
