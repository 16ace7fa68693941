-- An opening, from what its calls say.
use Rattle.std.proofs.Common.{◌≡◌, inl, inr, ℕ, List, [], length, Option, refl, sym, ap, subst, arith}
use Rattle.std.specs.Option.{ForSome}
use Rattle.r3_entry.specs.declared.entry.Entry.{Entry}
use Rattle.r3_entry.specs.Image.{IsHistoryOf}
use Rattle.r3_desk.specs.Asked as desk
use Rattle.r3_desk.specs.Crash.{Reach}
use Rattle.r3_desk.specs.Disk.{told_len}
use Rattle.r3_desk.specs.Moments.{LeavesImage}
use Rattle.r3_model.specs.Language.{Language, Text}
use Rattle.r3_model.specs.Run.{restarted}
use Rattle.r3_exec.specs.Runs.{Runs, language}
use Rattle.r3_exec.specs.Does.{IsRead, Leaves, SyncsWithin}
use Rattle.r3_exec.specs.declared.exec.Exec.{Exec}
use Rattle.r3_recover.specs.Kept.{LeavesKept}
use Rattle.r3_recover.specs.Opened.{HasOpened, OpensTo}
use Rattle.r3_session.specs.Begun.{HasBegun, StopsOpening}
use Rattle.r3_session.proofs.Leaving.{few-then, kept-read, kept-whole, leaves-image, leaves-settled}
use Rattle.r3_session.proofs.Marks.{AreSettled}

module _ {D : Type 0} (told_size : D → Option ℕ) (told_image : D → Option (List ℕ)) (may_leave : D → List ℕ → Type 0) (moment : D → ℕ) (reach : D → Reach) (said : D → Option (List ℕ)) (asked : D → Option (List desk.Call)) (syncs : D → Option ℕ) where
  abbrev OpenedTo : D → D → Exec → Text → Type 0
  OpenedTo old new exec text = HasOpened told_size told_image may_leave moment reach said asked syncs old new exec text

  settled : (old mid : D) (exec : Exec) (text : Text) (o : OpenedTo old mid exec text) → AreSettled (length o.history) [] (length o.after.history)
  settled old mid exec text o = record { no_less = omega arith; within = o.runs.holds.within; kept = tt }

  leaves-begun : (old mid new : D) (exec : Exec) (text : Text) (o : OpenedTo old mid exec text)
      → Leaves moment reach said asked mid new o.after.history (length o.history)
      → said mid ≡ said old → asked mid ≡ asked old → asked new ≡ asked mid
      → LeavesKept moment reach said asked old new o.after.history (length o.history) []
  leaves-begun old mid new exec text o leaves same_said same_asked still =
      let same : told_len (asked mid) ≡ told_len (asked old) = ap (λ (a : Option (List desk.Call)). told_len a) same_asked in
      leaves-settled may_leave moment reach said asked old mid new o.after.history (length o.history) []
      (settled old mid exec text o) o.leaves leaves same_said (omega (arith, same)) still

  pub begins : (old mid new : D) (exec exec' : Exec) (text : Text) → language exec' ≡ language exec
      → (o : OpenedTo old mid exec text)
      → Runs told_size told_image may_leave new exec' o.after (length o.after.history)
      → Leaves moment reach said asked mid new o.after.history (length o.history)
      → said mid ≡ said old → asked mid ≡ asked old → asked new ≡ asked mid → SyncsWithin (syncs mid) (syncs new) 2
      → HasBegun told_size told_image may_leave moment reach said asked syncs old new exec' text
  begins old mid new exec exec' text program o runs leaves same_said same_asked still few = record {
    history = o.history;
    after = o.after;
    is_history = o.is_history;
    same = o.same;
    machine = subst (λ (L : Language). OpensTo L text o.history o.after) (sym program) o.machine;
    runs = runs;
    leaves = leaves-begun old mid new exec text o leaves same_said same_asked still;
    few_syncs = few-then (syncs old) (syncs mid) (syncs new) 1 2 o.few_syncs few;
  }

  abbrev StoppedAt : Language → D → D → Text → List Entry → Type 0
  StoppedAt P old new text h = StopsOpening told_image moment reach said asked P old new text h

  -- not all may be settled
  pub begins-unsettled : (P : Language) (old mid new : D) (exec : Exec) (text : Text) (h : List Entry) → language exec ≡ P
      → (o : OpenedTo old mid exec text) → o.history ≡ h
      → Leaves moment reach said asked mid new o.after.history (length o.history)
      → ForSome (told_image new) (IsRead o.after.history (length o.history))
      → said mid ≡ said old → asked mid ≡ asked old → asked new ≡ asked mid
      → StoppedAt P old new text h
  begins-unsettled P old mid new exec text h program o is leaves reads same_said same_asked still =
      let stopped : StoppedAt P old new text o.history = record {
        after = o.after;
        part = inr (subst (λ (L : Language). OpensTo L text o.history o.after) program o.machine);
        leaves = leaves-begun old mid new exec text o leaves same_said same_asked still;
        reads = λ image told. kept-read o.after.history (length o.history) [] 0 image (settled old mid exec text o) (reads image told);
      } in
      subst (λ (es : List Entry). StoppedAt P old new text es) is stopped

  -- nothing was opened
  pub begins-nothing : (P : Language) (old new : D) (text : Text) (h : List Entry) → asked new ≡ asked old
      → LeavesImage moment reach may_leave said asked old new (IsHistoryOf h)
      → ForSome (told_image new) (IsHistoryOf h)
      → StoppedAt P old new text h
  begins-nothing P old new text h same leaves reads = record {
    after = restarted h;
    part = inl refl;
    leaves = leaves-image may_leave moment reach said asked old new h same leaves;
    reads = λ image told. kept-whole h 0 image (reads image told);
  }
