-- A run of the generator's lines, none of whose replies is said, and of its summary.
use Rattle.std.specs.Prelude.{◌≡◌, ◌⊎◌, ℕ, List, [], ◌∷◌, ◌++◌, length, Option}
use Rattle.std.specs.Option.{ForSome}
use Rattle.r3_entry.specs.declared.entry.Entry.{Entry}
use Rattle.r3_entry.specs.Image.{IsHistoryOf}
use Rattle.r3_desk.specs.Asked as desk
use Rattle.r3_desk.specs.Crash.{Reach}
use Rattle.r3_desk.specs.Disk.{told_push}
use Rattle.r3_json.specs.Lines.{line_of}
use Rattle.r3_model.specs.Language.{Language, Text}
use Rattle.r3_model.specs.Event.{Reply, Call}
use Rattle.r3_model.specs.Generator.{drawn, transfer, drain_after, summary}
use Rattle.r3_model.specs.Held.{Mark, Said}
use Rattle.r3_model.specs.Machine.{State}
use Rattle.r3_model.specs.Script.{Line}
use Rattle.r3_exec.specs.Does.{told_after}
use Rattle.r3_exec.specs.Runs.{language}
use Rattle.r3_exec.specs.declared.exec.Exec.{Exec}
use Rattle.r3_serve.specs.Held.{LeavesHeld, asked_marks}
use Rattle.r3_serve.specs.Served.{Quiet, Calls, Served, Stopped}

-- the lines of one transfer, of which so many are left behind it
abbrev pub one_transfer : ℕ → ℕ → ℕ → List Line
one_transfer i left x = transfer i (drawn x) (drawn (drawn x)) (drawn (drawn (drawn x))) ∷ drain_after i left

-- the summary's bytes
abbrev pub summary_text : List Entry → ℕ → Text
summary_text h starts = line_of (summary h starts)

-- Of these lines, behind those that were answered first: all before this one, or before where it ended, were
-- answered, and no reply was said.
pub record StoppedAmong {D : Type 0} (told_size : D → Option ℕ) (told_image : D → Option (List ℕ)) (may_leave : D → List ℕ → Type 0) (moment : D → ℕ) (reach : D → Reach) (said : D → Option (List ℕ)) (asked : D → Option (List desk.Call)) (from now : D) (exec : Exec) (text : Text) (h : List Entry) (first lines : List Line) : Type 0 where
  pub done : List Line
  pub later : List Line
  pub of_lines : lines ≡ done ++ later
  pub state : Served told_size told_image may_leave moment reach said asked from now exec Quiet text h (first ++ done)
      ⊎ ((line : Line) × (more : List Line) × (later ≡ line ∷ more)
      × Stopped told_image moment reach said asked from now (language exec) Quiet text h (first ++ done) line)

-- All these lines were answered, and then so much of the summary was said.
pub record HasSaid {D : Type 0} (told_image : D → Option (List ℕ)) (moment : D → ℕ) (reach : D → Reach) (said : D → Option (List ℕ)) (asked : D → Option (List desk.Call)) (from now : D) (P : Language) (text : Text) (h : List Entry) (lines : List Line) (starts : ℕ) (part rest : Text) : Type 0 where
  pub calls : List Call
  pub marks : List Mark
  pub after : State
  pub replies : List Reply
  pub machine : Calls P text h lines after calls marks replies
  pub of_summary : part ++ rest ≡ summary_text after.history starts
  pub told : said now ≡ told_push (said from) part
  pub asks : asked now ≡ told_after (asked from) calls
  -- the whole history is settled before
  pub leaves : LeavesHeld moment reach said asked from now after.history (length h)
      (asked_marks marks ++ Said (length (summary_text after.history starts)) (length after.history) ∷ [])
  pub reads : ForSome (told_image now) (IsHistoryOf after.history)

-- the run has come to its end: the summary was said whole
abbrev pub Ran : {D : Type 0} → (D → Option (List ℕ)) → (D → ℕ) → (D → Reach) → (D → Option (List ℕ)) → (D → Option (List desk.Call)) → D → D → Language → Text → List Entry → List Line → ℕ → Type 0
Ran told_image moment reach said asked from now P text h lines starts =
    (all : Text) × HasSaid told_image moment reach said asked from now P text h lines starts all []

-- the summary's saying failed: all lines were answered, a first part of it was said, and nothing else
abbrev pub SummaryFailed : {D : Type 0} → (D → Option (List ℕ)) → (D → ℕ) → (D → Reach) → (D → Option (List ℕ)) → (D → Option (List desk.Call)) → D → D → Language → Text → List Entry → List Line → ℕ → Type 0
SummaryFailed told_image moment reach said asked from now P text h lines starts =
    (part : Text) × (rest : Text) × HasSaid told_image moment reach said asked from now P text h lines starts part rest

-- the run has ended early: within the lines, or within the summary
abbrev pub EndsEarly : {D : Type 0} → (D → Option ℕ) → (D → Option (List ℕ)) → (D → List ℕ → Type 0) → (D → ℕ) → (D → Reach) → (D → Option (List ℕ)) → (D → Option (List desk.Call)) → D → D → Exec → Text → List Entry → List Line → ℕ → Type 0
EndsEarly told_size told_image may_leave moment reach said asked from now exec text h lines starts =
    StoppedAmong told_size told_image may_leave moment reach said asked from now exec text h [] lines
    ⊎ SummaryFailed told_image moment reach said asked from now (language exec) text h lines starts
