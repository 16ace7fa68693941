-- Lines that were answered, and what that makes of a call.
use Rattle.std.proofs.Common.{◌≡◌, inl, inr, ⊎_elim, ℕ, List, [], ◌∷◌, length, take, Option, Some, refl, sym, ap, ◌∙◌, subst, append-nil}
use Rattle.std.specs.Option.{ForSome}
use Rattle.fn_tree.specs.declared.program.Item.{Item}
use Rattle.r3_entry.specs.declared.entry.Entry.{Entry}
use Rattle.r3_entry.specs.Image.{IsHistoryOf}
use Rattle.r3_desk.specs.Asked as desk
use Rattle.r3_desk.specs.Crash.{Reach}
use Rattle.r3_desk.specs.Disk.{told_push}
use Rattle.r3_store.specs.Holds as store
use Rattle.r3_store.specs.declared.store.Store.{Store}
use Rattle.r3_model.specs.Functions.{language_of}
use Rattle.r3_model.specs.Language.{Text}
use Rattle.r3_model.specs.Script.{Line}
use Rattle.r3_exec.specs.declared.exec.Exec.{Exec}
use Rattle.r3_serve.specs.Served.{Loud, Served, Stopped, said_of}
use Rattle.r3_serve.specs.Scripted.{StoppedIn, script_lines}
use Rattle.r3_top.specs.Answered.{Answered}
use Rattle.r3_top.specs.Going.{Within}
use Rattle.r3_top.proofs.Leaving.{leaves-held}

take-all : (h : List Entry) → take (length h) h ≡ h
take-all [] = refl
take-all (e ∷ es) = ap (λ (xs : List Entry). e ∷ xs) (take-all es)

-- a history that the image stands for is the one
pub same-history : ((image : Text) (h k : List Entry) → IsHistoryOf h image → IsHistoryOf k image → h ≡ k)
    → (told : Option Text) (image : Text) (h k : List Entry) → ForSome told (IsHistoryOf h) → told ≡ Some image → IsHistoryOf k image → h ≡ k
same-history one told image h k is there history = one image h k (is image there) history

module _ {D : Type 0} (size : D → Option ℕ) (image : D → Option Text) (may_leave : D → Text → Type 0) (moment : D → ℕ) (reach : D → Reach) (said : D → Option Text) (asked : D → Option (List desk.Call)) where
  pub answered : ((d : D) (s : Store) (h : List Entry) (k : ℕ) (c : Text) → store.Holds size image may_leave d s h k → image d ≡ Some c → IsHistoryOf (take k h) c)
      → ((d : D) (s : Store) (h : List Entry) (k : ℕ) (c : Text) → store.Holds size image may_leave d s h k → may_leave d c → IsHistoryOf (take k h) c)
      → (from now : D) (exec : Exec) (text : Text) (h : List Entry) (lines : List Line)
      → Served size image may_leave moment reach said asked from now exec Loud text h lines
      → Answered image may_leave moment reach said asked from now (language_of exec.program) text h lines []
  answered reads crash from now exec text h lines s =
      let all : take (length s.after.history) s.after.history ≡ s.after.history = take-all s.after.history in
      record {
        calls = s.calls;
        marks = s.marks;
        after = s.after;
        replies = s.replies;
        machine = s.machine;
        told = s.told ∙ ap (λ (t : Text). told_push (said from) t) (sym (append-nil (said_of Loud s.replies)));
        asks = s.asks;
        stored = λ c is. subst (λ (h' : List Entry). IsHistoryOf h' c) all (reads now exec.store s.after.history (length s.after.history) c s.runs.holds is);
        settled = λ c may. subst (λ (h' : List Entry). IsHistoryOf h' c) all (crash now exec.store s.after.history (length s.after.history) c s.runs.holds may);
        leaves = leaves-held image may_leave moment reach said asked from now s.after.history (length h) s.marks s.leaves;
      }

  -- a line that ended early, with none before it
  pub within-first : (from now : D) (items : List Item) (text : Text) (h : List Entry) (line : Line)
      → Stopped image moment reach said asked from now (language_of items) Loud text h [] line
      → Within image may_leave moment reach said asked from now (language_of items) text h (line ∷ [])
  within-first from now items text h line s = ([], line ∷ [], refl, inr (line, [], refl, s))

  -- within a script
  pub within-script : ((d : D) (s : Store) (h : List Entry) (k : ℕ) (c : Text) → store.Holds size image may_leave d s h k → image d ≡ Some c → IsHistoryOf (take k h) c)
      → ((d : D) (s : Store) (h : List Entry) (k : ℕ) (c : Text) → store.Holds size image may_leave d s h k → may_leave d c → IsHistoryOf (take k h) c)
      → (from now : D) (exec : Exec) (text : Text) (h : List Entry) (script : Text)
      → StoppedIn size image may_leave moment reach said asked from now exec text h [] script
      → Within image may_leave moment reach said asked from now (language_of exec.program) text h (script_lines script)
  within-script reads crash from now exec text h script s = (
    s.done,
    s.later,
    s.of_script,
    ⊎_elim (λ all. inl (answered reads crash from now exec text h s.done all)) (λ part. inr part) s.state,
  )
