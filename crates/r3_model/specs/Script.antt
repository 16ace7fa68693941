-- A whole call: a restart, the opening, and the lines of a script, each with its reply.
use Rattle.std.specs.Prelude.{ℕ, List, [], ◌∷◌, ◌++◌, length, fold, flat_map, Option}
use Rattle.r3_value.specs.declared.value.Outcome.{Outcome}
use Rattle.r3_entry.specs.declared.entry.Entry.{Entry}
use Rattle.r3_model.specs.Language.{Text, Language}
use Rattle.r3_model.specs.Event.{Event, Reply, NotRead, NotForm}
use Rattle.r3_model.specs.Held.{Said, held}
use Rattle.r3_model.specs.Replies.{reply_text}
use Rattle.r3_model.specs.Run.{Trail, from_state, restarted, next, run, opening_events}
use Rattle.r3_model.specs.Drain.{Plain, drained}

-- a line of a script, as it is read
pub data Line : Type 0 where
  Does : Event → Line
  Drain : (turns : ℕ) → Line
  -- no JSON, or JSON of no form
  Unread : Line
  Unformed : Line

-- what was said so far, beside the machine's trail
pub record Told : Type 0 where
  pub trail : Trail
  pub said : List Reply

-- a reply is said when all that it tells stands in the history
abbrev pub saying : Told → Trail → Reply → Told
saying told t r = record {
  trail = record t { marks = t.marks ++ Said (length (reply_text r)) (length t.state.history) ∷ [] };
  said = told.said ++ r ∷ [];
}

module _ (P : Language) where
  abbrev pub answered : Told → Line → Told
  answered told (Does ev) = let t = next P told.trail ev in saying told t t.last
  answered told (Drain turns) = let d = drained (next P) P.queues Plain turns told.trail in saying told d.trail d.reply
  answered told Unread = saying told told.trail NotRead
  answered told Unformed = saying told told.trail NotForm

  -- the state after a restart and the opening
  abbrev pub opened : Text → List Entry → List (Option Outcome) → Trail
  opened text h answers = run P (from_state (restarted h) answers) (opening_events text (restarted h))

  -- a call on a stored history: `run` with its lines, `recover` with one drain
  abbrev pub called : Text → List Entry → List Line → List (Option Outcome) → Told
  called text h lines answers = fold answered (record { trail = opened text h answers; said = [] }) lines

abbrev pub said_text : Told → Text
said_text told = flat_map reply_text told.said

-- the entries that a crash leaves at least, after n bytes were said and m calls asked
abbrev pub held_by : List Entry → Told → ℕ → ℕ → ℕ
held_by h told n m = held (length h) told.trail.marks n m
