-- How far a call has come that answers lines.
use Rattle.std.specs.Prelude.{◌≡◌, ◌⊎◌, ℕ, List, [], ◌∷◌, ◌++◌, length, flat_map, Option}
use Rattle.std.specs.Option.{ForSome}
use Rattle.r3_value.specs.declared.value.Outcome.{Outcome}
use Rattle.r3_entry.specs.declared.entry.Entry.{Entry}
use Rattle.r3_entry.specs.Image.{IsHistoryOf}
use Rattle.r3_desk.specs.Asked as desk
use Rattle.r3_desk.specs.Crash.{Reach}
use Rattle.r3_desk.specs.Disk.{told_push}
use Rattle.r3_model.specs.Language.{Language, Text}
use Rattle.r3_model.specs.Event.{Reply, Call}
use Rattle.r3_model.specs.Held.{Mark, Said}
use Rattle.r3_model.specs.Machine.{State}
use Rattle.r3_model.specs.Replies.{reply_text}
use Rattle.r3_model.specs.Script.{Line, Told, called}
use Rattle.r3_exec.specs.Runs.{Runs, language}
use Rattle.r3_exec.specs.Does.{told_after}
use Rattle.r3_exec.specs.declared.exec.Exec.{Exec}
use Rattle.r3_recover.specs.Kept.{marks_on}
use Rattle.r3_recover.specs.Drained.{answers_of}
use Rattle.r3_session.specs.Answered.{AnswersTo, IsPart}
use Rattle.r3_serve.specs.Held.{IsHeld, LeavesHeld, asked_marks}

-- Whether each reply is said, or none: the generator's are not.
pub data Voice : Type 0 where
  Loud : Voice
  Quiet : Voice

abbrev pub said_of : Voice → List Reply → Text
said_of Loud replies = flat_map reply_text replies
said_of Quiet replies = []

abbrev pub marks_of : Voice → List Mark → List Mark
marks_of Loud marks = marks
marks_of Quiet marks = asked_marks marks

-- the machine has come to this state, by these calls, with these replies
pub record IsTold (told : Told) (after : State) (calls : List Call) (marks : List Mark) (replies : List Reply) (rest : List (Option Outcome)) : Type 0 where
  pub state : told.trail.state ≡ after
  pub calls_are : told.trail.calls ≡ calls
  pub marks_are : told.trail.marks ≡ marks
  pub answers : told.trail.answers ≡ rest
  pub replies_are : told.said ≡ replies

-- The machine's call on this history with these lines, where the outside answers as the calls tell, has come so far.
abbrev pub Calls : Language → Text → List Entry → List Line → State → List Call → List Mark → List Reply → Type 0
Calls P text h lines after calls marks replies = (rest : List (Option Outcome)) → IsTold (called P text h lines (answers_of calls ++ rest)) after calls marks replies rest

-- All these lines were answered as the machine does it, and what was said and asked since `from`, and what a crash
-- leaves at any moment, are the machine's. All is settled.
pub record Served {D : Type 0} (told_size : D → Option ℕ) (told_image : D → Option (List ℕ)) (may_leave : D → List ℕ → Type 0) (moment : D → ℕ) (reach : D → Reach) (said : D → Option (List ℕ)) (asked : D → Option (List desk.Call)) (from now : D) (exec : Exec) (voice : Voice) (text : Text) (h : List Entry) (lines : List Line) : Type 0 where
  pub calls : List Call
  pub marks : List Mark
  pub after : State
  pub replies : List Reply
  pub machine : Calls (language exec) text h lines after calls marks replies
  pub told : said now ≡ told_push (said from) (said_of voice replies)
  pub asks : asked now ≡ told_after (asked from) calls
  pub runs : Runs told_size told_image may_leave now exec after (length after.history)
  pub leaves : LeavesHeld moment reach said asked from now after.history (length h) (marks_of voice marks)

-- ---- a call that ended early

-- of a line that was done whole some of its reply may have been said
abbrev pub IsSaid : Voice → Language → Line → State → State → List Call → List Mark → List Call → Text → List Mark → Type 0
IsSaid voice P line old after calls marks last part owes =
    ((part ≡ []) × (owes ≡ []))
    ⊎ ((voice ≡ Loud) × (last ≡ []) × (reply : Reply) × AnswersTo P line old after calls marks reply
    × (rest : Text) × (part ++ rest ≡ reply_text reply) × (owes ≡ Said (length (reply_text reply)) (length after.history) ∷ []))

-- The call has ended within this line, and all lines before it were answered.
pub record Stopped {D : Type 0} (told_image : D → Option (List ℕ)) (moment : D → ℕ) (reach : D → Reach) (said : D → Option (List ℕ)) (asked : D → Option (List desk.Call)) (from now : D) (P : Language) (voice : Voice) (text : Text) (h : List Entry) (lines : List Line) (line : Line) : Type 0 where
  -- the lines before
  pub calls : List Call
  pub marks : List Mark
  pub before : State
  pub replies : List Reply
  pub machine : Calls P text h lines before calls marks replies
  -- what was done of this one
  pub part_calls : List Call
  pub part_marks : List Mark
  pub after : State
  pub last : List Call
  pub part : IsPart P line before after part_calls part_marks last
  -- what was said of its reply
  pub said_part : Text
  pub owes : List Mark
  pub said_is : IsSaid voice P line before after part_calls part_marks last said_part owes
  pub told : said now ≡ told_push (said from) (said_of voice replies ++ said_part)
  pub asks : asked now ≡ told_after (asked from) (calls ++ (part_calls ++ last))
  pub leaves : LeavesHeld moment reach said asked from now after.history (length h) (marks_of voice (marks ++ (part_marks ++ (marks_on after.history last ++ owes))))
  pub reads : ForSome (told_image now) (IsHeld after.history (length h) (marks_of voice (marks ++ (part_marks ++ marks_on after.history last))) (length (said_of voice replies)) (length (calls ++ (part_calls ++ last))))
  -- where the reply of a whole line failed to be said, a read gives all
  pub whole : (owes ≡ [] → ⊥) → ForSome (told_image now) (IsHistoryOf after.history)
