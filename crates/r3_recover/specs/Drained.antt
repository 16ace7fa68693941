-- A drain, done on a desk.
use Rattle.std.specs.Prelude.{◌≡◌, ◌⊎◌, ℕ, suc, zero, ◌+◌, ◌*◌, ◌<◌, ◌≤◌, List, [], ◌∷◌, ◌++◌, length, map, Option, Some, None}
use Rattle.std.specs.Option.{ForSome}
use Rattle.r3_value.specs.declared.value.Outcome.{Outcome}
use Rattle.r3_desk.specs.Asked as desk
use Rattle.r3_desk.specs.Causes.{Rose}
use Rattle.r3_desk.specs.Crash.{Reach}
use Rattle.r3_model.specs.Language.{Language}
use Rattle.r3_model.specs.Event.{Reply, Call}
use Rattle.r3_model.specs.Held.{Mark}
use Rattle.r3_model.specs.Machine.{State}
use Rattle.r3_model.specs.Run.{Trail, next}
use Rattle.r3_model.specs.Drain.{Plain, drained}
use Rattle.r3_exec.specs.Runs.{Runs, language}
use Rattle.r3_exec.specs.Does.{told_after, SyncsWithin}
use Rattle.r3_exec.specs.declared.exec.Exec.{Exec}
use Rattle.r3_recover.specs.Kept.{IsKept, LeavesKept, settled_by, marks_on}

-- the answers that the calls carry
abbrev pub answers_of : List Call → List (Option Outcome)
answers_of calls = map (λ (c : Call). c.answer) calls

-- The run has come from one point to another: to this state, by these calls, each with its mark.
pub record Comes (from to : Trail) (after : State) (calls : List Call) (marks : List Mark) (rest : List (Option Outcome)) : Type 0 where
  pub state : to.state ≡ after
  pub calls_are : to.calls ≡ from.calls ++ calls
  pub marks_are : to.marks ≡ from.marks ++ marks
  pub answers : to.answers ≡ rest

-- A run that has come to this state and whose next answers are those of the calls, with this rest behind them.
abbrev pub IsAt : State → List Call → List (Option Outcome) → Trail → Type 0
IsAt st calls rest t = (t.state ≡ st) × (t.answers ≡ answers_of calls ++ rest)

-- The machine's drain of so many turns, from any such run.
abbrev pub Drains : Language → ℕ → State → State → List Call → List Mark → Type 0
Drains P turns old new calls marks = (t : Trail) (rest : List (Option Outcome)) → IsAt old calls rest t
    → Comes t (drained (next P) P.queues Plain turns t).trail new calls marks rest

-- and what is replied to it
abbrev pub Replies : Language → ℕ → State → List Call → Reply → Type 0
Replies P turns old calls reply = (t : Trail) (rest : List (Option Outcome)) → IsAt old calls rest t
    → (drained (next P) P.queues Plain turns t).reply ≡ reply

-- The drain was done as the machine does it, with the answers that the desk gave. A crash leaves a prefix of
-- its history, and so reads the disk.
pub record DoesDrain {D : Type 0} (told_size : D → Option ℕ) (told_image : D → Option (List ℕ)) (may_leave : D → List ℕ → Type 0) (moment : D → ℕ) (reach : D → Reach) (said : D → Option (List ℕ)) (asked : D → Option (List desk.Call)) (syncs : D → Option ℕ) (old new : D) (exec : Exec) (st : State) (settled turns : ℕ) (reply : Reply) : Type 0 where
  pub calls : List Call
  pub marks : List Mark
  pub after : State
  pub machine : Drains (language exec) turns st after calls marks
  pub reply_is : Replies (language exec) turns st calls reply
  pub told : asked new ≡ told_after (asked old) calls
  pub runs : Runs told_size told_image may_leave new exec after (settled_by settled marks)
  -- a call costs two syncs at most, and nothing else costs any
  pub few_syncs : SyncsWithin (syncs old) (syncs new) (2 * length calls)
  pub leaves : LeavesKept moment reach said asked old new after.history settled marks
  pub reads : ForSome (told_image new) (IsKept after.history settled marks (length calls))

-- These are the calls of the drain's next dequeue or turn, of which none may have been asked yet.
abbrev pub IsOfNext : Language → ℕ → ℕ → State → State → List Call → List Mark → List Call → Type 0
IsOfNext P turns done old after calls marks last =
    (last ≡ []) ⊎ ((done < turns) × (new : State)
    × Drains P (done + 1) old new (calls ++ last) (marks ++ marks_on after.history last))

-- The drain ended early: so many dequeues and turns were done, and of the next one its call was asked at most.
pub record EndsEarly {D : Type 0} (told_image : D → Option (List ℕ)) (moment : D → ℕ) (reach : D → Reach) (said : D → Option (List ℕ)) (asked : D → Option (List desk.Call)) (syncs : D → Option ℕ) (P : Language) (old new : D) (st : State) (settled turns : ℕ) : Type 0 where
  pub done : ℕ
  pub within : done ≤ turns
  pub calls : List Call
  pub marks : List Mark
  pub after : State
  pub machine : Drains P done st after calls marks
  pub last : List Call
  pub of_next : IsOfNext P turns done st after calls marks last
  pub told : asked new ≡ told_after (asked old) (calls ++ last)
  -- each of the calls costs two syncs at most, and so does that of the next one, whether it was asked or not
  pub few_syncs : SyncsWithin (syncs old) (syncs new) (2 * length calls + 2)
  pub leaves : LeavesKept moment reach said asked old new after.history settled (marks ++ marks_on after.history last)
  pub reads : ForSome (told_image new) (IsKept after.history settled (marks ++ marks_on after.history last) (length (calls ++ last)))

-- a count of faults that rose so often
abbrev pub Raised : ℕ → ℕ → ℕ → Type 0
Raised zero before now = now ≡ before
Raised (suc n) before now = (between : ℕ) × Raised n before between × Rose between now

-- how many of the calls got no answer
abbrev pub no_answer : Option Outcome → ℕ
no_answer None = 1
no_answer (Some outcome) = 0

abbrev pub unanswered : List Call → ℕ
unanswered [] = 0
unanswered (c ∷ calls) = no_answer c.answer + unanswered calls

-- These calls were asked, and the outside's count of faults rose once for each that got no answer.
pub record CountsFaults {D : Type 0} (asked : D → Option (List desk.Call)) (ask_faults : D → ℕ) (old new : D) : Type 0 where
  pub calls : List Call
  pub told : asked new ≡ told_after (asked old) calls
  pub raised : Raised (unanswered calls) (ask_faults old) (ask_faults new)
