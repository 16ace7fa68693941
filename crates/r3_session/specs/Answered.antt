-- A line of a script, answered on a desk.
use Rattle.std.specs.Prelude.{◌≡◌, ◌⊎◌, ℕ, ◌+◌, ◌*◌, ◌≤◌, List, [], ◌++◌, length, take, Option}
use Rattle.std.specs.Option.{ForSome}
use Rattle.r3_value.specs.declared.value.Outcome.{Outcome}
use Rattle.r3_desk.specs.Asked as desk
use Rattle.r3_desk.specs.Crash.{Reach}
use Rattle.r3_model.specs.Language.{Language, Text}
use Rattle.r3_model.specs.Event.{Event, Reply, Call}
use Rattle.r3_model.specs.Held.{Mark}
use Rattle.r3_model.specs.Machine.{State, calls_of}
use Rattle.r3_model.specs.Replies.{reply_text}
use Rattle.r3_model.specs.Run.{Trail}
use Rattle.r3_model.specs.Script.{Line, Does, Drain, Unread, Unformed, Told, answered, saying}
use Rattle.r3_exec.specs.Runs.{Runs, language}
use Rattle.r3_exec.specs.Does.{told_after, SyncsWithin}
use Rattle.r3_exec.specs.declared.exec.Exec.{Exec}
use Rattle.r3_recover.specs.Kept.{IsKept, LeavesKept, marks_on}
use Rattle.r3_recover.specs.Drained.{Comes, IsAt, Drains, IsOfNext}

-- The machine's answer to a line, from any run that has come to the one state and whose next answers are those of
-- the calls: the run goes on to the other state, and this is replied.
abbrev pub AnswersTo : Language → Line → State → State → List Call → List Mark → Reply → Type 0
AnswersTo P line old new calls marks reply = (told : Told) (rest : List (Option Outcome)) → IsAt old calls rest told.trail
    → (u : Trail) × Comes told.trail u new calls marks rest × (answered P told line ≡ saying told u reply)

-- The line was answered as the machine does it, with the answers that the desk gave, and all is settled.
pub record DoesLine {D : Type 0} (told_size : D → Option ℕ) (told_image : D → Option (List ℕ)) (may_leave : D → List ℕ → Type 0) (moment : D → ℕ) (reach : D → Reach) (said : D → Option (List ℕ)) (asked : D → Option (List desk.Call)) (syncs : D → Option ℕ) (old new : D) (exec : Exec) (st : State) (line : Line) (text : Text) : Type 0 where
  pub calls : List Call
  pub marks : List Mark
  pub after : State
  pub reply : Reply
  pub machine : AnswersTo (language exec) line st after calls marks reply
  pub text_is : text ≡ reply_text reply
  pub told : asked new ≡ told_after (asked old) calls
  pub runs : Runs told_size told_image may_leave new exec after (length after.history)
  -- two for the line, and two for each call
  pub few_syncs : SyncsWithin (syncs old) (syncs new) (2 + 2 * length calls)
  pub leaves : LeavesKept moment reach said asked old new after.history (length st.history) marks

-- ---- a line that ended early

-- nothing was done
abbrev pub IsUntouched : State → State → List Call → List Mark → Type 0
IsUntouched old after calls marks = (after ≡ old) × (calls ≡ []) × (marks ≡ [])

-- the whole line was done
abbrev pub IsWhole : Language → Line → State → State → List Call → List Mark → List Call → Type 0
IsWhole P line old after calls marks last = (reply : Reply) × AnswersTo P line old after calls marks reply × (last ≡ [])

-- of an event its call was asked at most
abbrev pub IsAsking : Language → Event → State → State → List Call → List Mark → List Call → Type 0
IsAsking P ev old after calls marks last =
    IsUntouched old after calls marks × (answer : Option Outcome) × (made : ℕ) × (last ≡ take made (calls_of P old.history ev answer))

-- of a drain so many dequeues and turns were done, and of the next one its call was asked at most
abbrev pub IsDraining : Language → ℕ → State → State → List Call → List Mark → List Call → Type 0
IsDraining P turns old after calls marks last =
    (done : ℕ) × (done ≤ turns) × Drains P done old after calls marks × IsOfNext P turns done old after calls marks last

-- What was done of a line: up to this state, by these calls, and of what comes next its last calls were asked.
abbrev pub IsPart : Language → Line → State → State → List Call → List Mark → List Call → Type 0
IsPart P (Does ev) old after calls marks last = IsAsking P ev old after calls marks last ⊎ IsWhole P (Does ev) old after calls marks last
IsPart P (Drain turns) old after calls marks last = IsDraining P turns old after calls marks last ⊎ IsWhole P (Drain turns) old after calls marks last
IsPart P Unread old after calls marks last = IsUntouched old after calls marks × (last ≡ [])
IsPart P Unformed old after calls marks last = IsUntouched old after calls marks × (last ≡ [])

-- The line ended early, with so much of it done.
pub record StopsLine {D : Type 0} (told_image : D → Option (List ℕ)) (moment : D → ℕ) (reach : D → Reach) (said : D → Option (List ℕ)) (asked : D → Option (List desk.Call)) (syncs : D → Option ℕ) (P : Language) (old new : D) (st : State) (line : Line) : Type 0 where
  pub calls : List Call
  pub marks : List Mark
  pub after : State
  pub last : List Call
  pub part : IsPart P line st after calls marks last
  pub told : asked new ≡ told_after (asked old) (calls ++ last)
  -- two for each call, and two for what comes next: its call, whether it was asked or not, or settling
  pub few_syncs : SyncsWithin (syncs old) (syncs new) (2 + 2 * length (calls ++ last))
  pub leaves : LeavesKept moment reach said asked old new after.history (length st.history) (marks ++ marks_on after.history last)
  pub reads : ForSome (told_image new) (IsKept after.history (length st.history) (marks ++ marks_on after.history last) (length (calls ++ last)))
