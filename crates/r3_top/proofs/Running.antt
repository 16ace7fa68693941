-- A command on a store, from its opening on.
use Rattle.std.proofs.Common.{◌≡◌, inr, ℕ, ◌<◌, ◌≤◌, ◌^◌, List, [], ◌∷◌, length, take, Option, Some, None, sym, subst}
use Rattle.std.specs.Prelude.{Result, Ok, Err, OnErr}
use Rattle.std.specs.Io.KnownBytes.{Consumes}
use Rattle.fn_tree.specs.declared.program.Item.{Item}
use Rattle.r3_entry.specs.declared.entry.Entry.{Entry}
use Rattle.r3_entry.specs.Image.{IsHistoryOf}
use Rattle.r3_desk.specs.Asked as desk
use Rattle.r3_desk.specs.Crash.{Reach}
use Rattle.r3_store.specs.Holds as store
use Rattle.r3_store.specs.declared.store.Store.{Store}
use Rattle.r3_model.specs.Functions.{language_of}
use Rattle.r3_model.specs.Language.{Text}
use Rattle.r3_model.specs.Script.{Line, Drain}
use Rattle.r3_exec.specs.declared.exec.Exec.{Exec}
use Rattle.r3_recover.specs.Opened.{HasProgram}
use Rattle.r3_serve.specs.Served.{Loud, Served, Stopped}
use Rattle.r3_serve.specs.Failed.{ReplyFailed, ReplyFailedIn}
use Rattle.r3_serve.specs.Scripted.{StoppedIn, script_lines, ended_script_lines}
use Rattle.r3_top.specs.declared.halt.Halt.TheVariants as halts
use Rattle.r3_top.specs.Functions.{IsAccepted}
use Rattle.r3_top.specs.Refusals.{IsFile, IsFunctionFile, IsOpened}
use Rattle.r3_top.specs.Causes.{IsBegun}
use Rattle.r3_top.specs.Answered.{Answered}
use Rattle.r3_top.specs.Going.{Within}
use Rattle.r3_top.specs.Ends.{RunComes, RecoverComes}
use Rattle.r3_top.proofs.Working.{answered, within-first, within-script}

-- of the text that is told, and of the history that the image stands for
pub carry : (G : Text → List Entry → Type 0) (text text' : Text) (h h' : List Entry) → text' ≡ text → h' ≡ h → G text' h' → G text h
carry G text text' h h' a b x = subst (λ (t : Text). G t h) a (subst (λ (k : List Entry). G text' k) b x)

ok-err : {T E : Type 0} (x : T) (e : E) → ◌≡◌ {A = Result T E} (Ok x) (Err e) → ⊥
ok-err x e is = cc

of-err : {T E P : Type 0} (result : Result T E) (fault : E) → result ≡ Err fault → OnErr result P → P
of-err (Ok x) fault is p = absurd (ok-err x fault is)
of-err (Err e) fault is p = p

-- ---- what was opened

pub opened-file : (text text' : Text) (image : Option Text) (items : List Item) (h : List Entry) → text' ≡ text → IsOpened text' image items h → IsFunctionFile text
opened-file text text' image items h same o = (items, subst (λ (t : Text). IsFile t items) same o.file)

pub opened-begun : (text text' : Text) (image : Option Text) (items : List Item) (h : List Entry) → text' ≡ text → IsOpened text' image items h → IsBegun text image
opened-begun text text' image items h same o = λ i there. (h, o.history i there, subst (λ (t : Text). HasProgram h t) same o.program)

opened-now : (text : Text) (image : Option Text) (items now : List Item) (h : List Entry) → now ≡ items → IsOpened text image items h → IsOpened text image now h
opened-now text image items now h same o = subst (λ (is : List Item). IsOpened text image is h) (sym same) o

module _ {D : Type 0} (image : D → Option Text) (may_leave : D → Text → Type 0) (moment : D → ℕ) (reach : D → Reach) (said : D → Option Text) (asked : D → Option (List desk.Call)) (from now : D) where
  -- all of these lines; those before some line; all that end within the limit
  abbrev pub Whole : List Line → Text → List Entry → Type 0
  Whole lines text h = (is : List Item) × IsAccepted text is × Answered image may_leave moment reach said asked from now (language_of is) text h lines []

  abbrev pub Part : List Line → Text → List Entry → Type 0
  Part lines text h = (is : List Item) × IsAccepted text is × Within image may_leave moment reach said asked from now (language_of is) text h lines

  -- up to the reply that failed to be said; the same of a drain
  abbrev pub Failed : Text → Text → List Entry → Type 0
  Failed script text h = (is : List Item) × IsAccepted text is × ReplyFailedIn image may_leave moment reach said asked from now (language_of is) text h [] script

  abbrev pub DrainFailed : Line → Text → List Entry → Type 0
  DrainFailed line text h = (is : List Item) × IsAccepted text is × ReplyFailed image may_leave moment reach said asked from now (language_of is) text h [] line

  abbrev pub CutOff : Text → Text → List Entry → Type 0
  CutOff script text h = (is : List Item) × IsAccepted text is × ((2 ^ 26 < length script)
      × Answered image may_leave moment reach said asked from now (language_of is) text h (ended_script_lines (take (2 ^ 26) script)) [])

module _ {D : Type 0} (size : D → Option ℕ) (image : D → Option Text) (may_leave : D → Text → Type 0) (moment : D → ℕ) (reach : D → Reach) (said : D → Option Text) (asked : D → Option (List desk.Call))
    (reads : (d : D) (s : Store) (h : List Entry) (k : ℕ) (c : Text) → store.Holds size image may_leave d s h k → image d ≡ Some c → IsHistoryOf (take k h) c)
    (crash : (d : D) (s : Store) (h : List Entry) (k : ℕ) (c : Text) → store.Holds size image may_leave d s h k → may_leave d c → IsHistoryOf (take k h) c)
    (from now : D) (exec : Exec) (items : List Item) (same : exec.program ≡ items) (text : Text) (h : List Entry) (opened : IsOpened text (image from) items h) where
  abbrev Went : List Line → Type 0
  Went lines = Served size image may_leave moment reach said asked from now exec Loud text h lines

  here : IsOpened text (image from) exec.program h
  here = opened-now text (image from) items exec.program h same opened

  done : (lines : List Line) → Went lines → Answered image may_leave moment reach said asked from now (language_of exec.program) text h lines []
  done lines went = answered size image may_leave moment reach said asked reads crash from now exec text h lines went

  -- ---- what it has come to

  pub all-lines : (left left' : Option Text) → ((script : Text) → left ≡ Some script → (length script ≤ 2 ^ 26) × Went (script_lines script))
      → RunComes image may_leave moment reach said asked from now left left' text None []
  all-lines left left' went = inr (exec.program, h, here, λ script is. let x = went script is in (x.0, done (script_lines script) x.1))

  pub too-long : (left left' : Option Text) → ((script : Text) → left ≡ Some script → (2 ^ 26 < length script) × Went (ended_script_lines (take (2 ^ 26) script)))
      → RunComes image may_leave moment reach said asked from now left left' text (Some halts.LongScript) []
  too-long left left' went = inr (exec.program, h, here, λ script is. let x = went script is in (x.0, done (ended_script_lines (take (2 ^ 26) script)) x.1))

  pub source-failed : (left left' : Option Text) → (given : Text) × Consumes left left' given × Went (ended_script_lines given)
      → RunComes image may_leave moment reach said asked from now left left' text (Some halts.Script) []
  source-failed left left' went = inr (exec.program, h, here, (went.0, went.1, done (ended_script_lines went.0) went.2))

  pub drained : (turns : ℕ) → Went (Drain turns ∷ []) → RecoverComes image may_leave moment reach said asked from now turns text None []
  drained turns went = inr (exec.program, h, here, done (Drain turns ∷ []) went)

  -- ---- how it goes

  pub goes-all : (lines : List Line) → Went lines → Whole image may_leave moment reach said asked from now lines text h
  goes-all lines went = (exec.program, here.file.1, done lines went)

  pub goes-within : {T E : Type 0} (result : Result T E) (fault : E) → result ≡ Err fault → (script : Text)
      → OnErr result (StoppedIn size image may_leave moment reach said asked from now exec text h [] script)
      → Part image may_leave moment reach said asked from now (script_lines script) text h
  goes-within result fault is script stopped =
      let part : StoppedIn size image may_leave moment reach said asked from now exec text h [] script = of-err result fault is stopped in
      (exec.program, here.file.1, within-script size image may_leave moment reach said asked reads crash from now exec text h script part)

  pub goes-first : {T E : Type 0} (result : Result T E) (fault : E) → result ≡ Err fault → (line : Line)
      → OnErr result (Stopped image moment reach said asked from now (language_of items) Loud text h [] line)
      → Part image may_leave moment reach said asked from now (line ∷ []) text h
  goes-first result fault is line stopped =
      let at : Stopped image moment reach said asked from now (language_of items) Loud text h [] line = of-err result fault is stopped in
      (items, opened.file.1, within-first size image may_leave moment reach said asked from now items text h line at)

  pub goes-failed : (script : Text) → ReplyFailedIn image may_leave moment reach said asked from now (language_of items) text h [] script
      → Failed image may_leave moment reach said asked from now script text h
  goes-failed script failed = (items, opened.file.1, failed)

  pub drain-failed : (line : Line) → ReplyFailed image may_leave moment reach said asked from now (language_of items) text h [] line
      → DrainFailed image may_leave moment reach said asked from now line text h
  drain-failed line failed = (items, opened.file.1, failed)

  pub goes-cut : (script : Text) → (2 ^ 26 < length script) × Went (ended_script_lines (take (2 ^ 26) script))
      → CutOff image may_leave moment reach said asked from now script text h
  goes-cut script went = (exec.program, here.file.1, (went.0, done (ended_script_lines (take (2 ^ 26) script)) went.1))
