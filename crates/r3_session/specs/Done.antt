-- A line that was done, and whose entries may not be settled yet.
use Rattle.std.specs.Prelude.{◌≡◌, ℕ, ◌*◌, ◌≤◌, List, [], length, Option}
use Rattle.std.specs.Option.{ForSome}
use Rattle.r3_desk.specs.Asked as desk
use Rattle.r3_desk.specs.Crash.{Reach}
use Rattle.r3_model.specs.Language.{Language, Text}
use Rattle.r3_model.specs.Event.{Reply, Call}
use Rattle.r3_model.specs.Held.{Mark}
use Rattle.r3_model.specs.Machine.{State}
use Rattle.r3_model.specs.Replies.{reply_text}
use Rattle.r3_model.specs.Script.{Line}
use Rattle.r3_exec.specs.Runs.{Runs, language}
use Rattle.r3_exec.specs.Does.{told_after, SyncsWithin}
use Rattle.r3_exec.specs.declared.exec.Exec.{Exec}
use Rattle.r3_recover.specs.Kept.{IsKept, LeavesKept, settled_by}
use Rattle.r3_recover.specs.Rounds.{AreWithin}
use Rattle.r3_session.specs.Answered.{AnswersTo}

-- The line was done as the machine does it, with the answers that the desk gave. Settled is what stood at its
-- last call, or at first.
pub record DoesEvents {D : Type 0} (told_size : D → Option ℕ) (told_image : D → Option (List ℕ)) (may_leave : D → List ℕ → Type 0) (moment : D → ℕ) (reach : D → Reach) (said : D → Option (List ℕ)) (asked : D → Option (List desk.Call)) (syncs : D → Option ℕ) (old new : D) (exec : Exec) (st : State) (line : Line) (reply : Reply) : Type 0 where
  pub calls : List Call
  pub marks : List Mark
  pub after : State
  pub machine : AnswersTo (language exec) line st after calls marks reply
  pub told : asked new ≡ told_after (asked old) calls
  pub runs : Runs told_size told_image may_leave new exec after (settled_by (length st.history) marks)
  pub few_syncs : SyncsWithin (syncs old) (syncs new) (2 * length calls)
  pub leaves : LeavesKept moment reach said asked old new after.history (length st.history) marks
  pub reads : ForSome (told_image new) (IsKept after.history (length st.history) marks (length calls))
  pub no_less : length st.history ≤ settled_by (length st.history) marks
  pub kept : AreWithin (settled_by (length st.history) marks) marks

-- and this is the text of its reply
abbrev pub IsDone : {D : Type 0} → (D → Option ℕ) → (D → Option (List ℕ)) → (D → List ℕ → Type 0) → (D → ℕ) → (D → Reach) → (D → Option (List ℕ)) → (D → Option (List desk.Call)) → (D → Option ℕ) → D → D → Exec → State → Line → Text → Type 0
IsDone told_size told_image may_leave moment reach said asked syncs old new exec st line text =
    (reply : Reply) × (text ≡ reply_text reply)
    × DoesEvents told_size told_image may_leave moment reach said asked syncs old new exec st line reply

-- The line does nothing, and this is the text of its reply.
abbrev pub IsTold : Language → State → Line → Text → Type 0
IsTold P st line text = (reply : Reply) × (text ≡ reply_text reply) × AnswersTo P line st st [] [] reply
