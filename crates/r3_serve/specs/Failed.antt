-- A reply whose saying failed.
use Rattle.std.specs.Prelude.{◌≡◌, ℕ, List, [], ◌∷◌, ◌++◌, length, Option}
use Rattle.std.specs.Option.{ForSome}
use Rattle.r3_entry.specs.declared.entry.Entry.{Entry}
use Rattle.r3_entry.specs.Image.{IsHistoryOf}
use Rattle.r3_desk.specs.Asked as desk
use Rattle.r3_desk.specs.Crash.{Reach}
use Rattle.r3_desk.specs.Disk.{told_push}
use Rattle.r3_model.specs.Language.{Language, Text}
use Rattle.r3_model.specs.Event.{Reply, Call}
use Rattle.r3_model.specs.Held.{Mark}
use Rattle.r3_model.specs.Machine.{State}
use Rattle.r3_model.specs.Replies.{reply_text}
use Rattle.r3_model.specs.Script.{Line}
use Rattle.r3_exec.specs.Does.{told_after}
use Rattle.r3_serve.specs.Held.{LeavesHeld}
use Rattle.r3_serve.specs.Served.{Loud, said_of, Calls}
use Rattle.r3_serve.specs.Scripted.{script_lines}

-- This line and all before it were answered whole. Said were the replies before it, each whole and in order, of its
-- own reply a first part, and nothing else. A read, and a crash now, finds all of that history, this line's too.
pub record ReplyFailed {D : Type 0} (told_image : D → Option (List ℕ)) (may_leave : D → List ℕ → Type 0) (moment : D → ℕ) (reach : D → Reach) (said : D → Option (List ℕ)) (asked : D → Option (List desk.Call)) (from now : D) (P : Language) (text : Text) (h : List Entry) (lines : List Line) (line : Line) : Type 0 where
  pub calls : List Call
  pub marks : List Mark
  pub after : State
  -- those before it, and its own
  pub replies : List Reply
  pub reply : Reply
  pub machine : Calls P text h (lines ++ line ∷ []) after calls marks (replies ++ reply ∷ [])
  pub part : Text
  pub rest : Text
  pub of_reply : part ++ rest ≡ reply_text reply
  pub told : said now ≡ told_push (said from) (said_of Loud replies ++ part)
  pub asks : asked now ≡ told_after (asked from) calls
  pub stored : ForSome (told_image now) (IsHistoryOf after.history)
  pub settled : (image : List ℕ) → may_leave now image → IsHistoryOf after.history image
  pub leaves : LeavesHeld moment reach said asked from now after.history (length h) marks

-- Within a script: this line of it is the one whose reply failed, and no later one was answered.
pub record ReplyFailedIn {D : Type 0} (told_image : D → Option (List ℕ)) (may_leave : D → List ℕ → Type 0) (moment : D → ℕ) (reach : D → Reach) (said : D → Option (List ℕ)) (asked : D → Option (List desk.Call)) (from now : D) (P : Language) (text : Text) (h : List Entry) (first : List Line) (script : Text) : Type 0 where
  pub done : List Line
  pub line : Line
  pub later : List Line
  pub of_script : script_lines script ≡ done ++ line ∷ later
  pub failed : ReplyFailed told_image may_leave moment reach said asked from now P text h (first ++ done) line
