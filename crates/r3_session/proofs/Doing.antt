-- A line that was done, from what its calls say.
use Rattle.std.proofs.Common.{◌≡◌, inl, inr, ℕ, ◌+◌, ◌*◌, ◌≤◌, List, [], ◌∷◌, ◌++◌, length, take, Option, Some, None, refl, sym, ap, ◌∙◌, subst, arith, append-nil, length-append}
use Rattle.std.specs.Option.{ForSome}
use Rattle.r3_entry.specs.declared.entry.Entry.{Entry}
use Rattle.r3_entry.specs.Image.{IsHistoryOf}
use Rattle.r3_desk.specs.Asked as desk
use Rattle.r3_desk.specs.Crash.{Reach}
use Rattle.r3_desk.specs.Disk.{told_len}
use Rattle.r3_model.specs.Language.{Language, Text}
use Rattle.r3_model.specs.Event.{Event, Reply, Call, NotRead, NotForm}
use Rattle.r3_model.specs.Goes.{Steps}
use Rattle.r3_model.specs.Held.{Mark, Said}
use Rattle.r3_model.specs.Laws.{DrainsByTurns, OnlyAppends}
use Rattle.r3_model.specs.Machine.{State, Out, calls_of}
use Rattle.r3_model.specs.Replies.{reply_text}
use Rattle.r3_model.specs.Run.{Trail, from_state, next}
use Rattle.r3_model.specs.Drain.{Plain, drained}
use Rattle.r3_model.specs.Script.{Line, Told, answered, saying}
use Rattle.r3_model.specs.Script as script
use Rattle.r3_exec.specs.Runs.{Runs, language}
use Rattle.r3_exec.specs.Does as done
use Rattle.r3_exec.specs.declared.exec.Exec.{Exec}
use Rattle.r3_recover.specs.Kept.{IsKept, LeavesKept, settled_by, marks_on}
use Rattle.r3_recover.specs.Drained.{DoesDrain, EndsEarly, answers_of}
use Rattle.r3_recover.specs.Rounds.{AreWithin}
use Rattle.r3_session.specs.Answered.{AnswersTo, DoesLine, IsPart, IsUntouched, StopsLine}
use Rattle.r3_session.specs.Done.{DoesEvents}
use Rattle.r3_session.proofs.Drains.{drain-settles, drains-none}
use Rattle.r3_session.proofs.Leaving.{few-more, few-then, none-more, kept-all, kept-read, kept-whole, leaves-event, leaves-nothing, leaves-settled, no-syncs, read-whole, told-more, told-none}
use Rattle.r3_session.proofs.Marks.{AreSettled, settled-on, within-on}
use Rattle.r3_session.proofs.Nexts.{steps-answer}

-- a step leaves what stood
step-keeps : OnlyAppends → (P : Language) (st new : State) (ev : Event) (reply : Reply) (calls : List Call) → Steps P st ev reply calls new
    → (xs : List Entry) × (new.history ≡ st.history ++ xs)
step-keeps law P st new ev reply calls s =
    let x = law P st ev (s.answer ∷ []) in
    (x.0, sym (ap (λ (o : Out). o.state.history) s.is) ∙ x.2)

settled-once : (st : State) (calls : List Call) → done.settled_by (length st.history) st calls ≡ length st.history
settled-once st [] = refl
settled-once st (c ∷ cs) = refl

-- what one event promises on a settled history
one-settles : (h : List Entry) (calls : List Call) → AreSettled (length h) (marks_on h calls) (length h)
one-settles h calls =
    let e : settled_by (length h) (marks_on h calls) ≡ length h = settled-on h calls in
    record {
      no_less = omega (arith, e);
      within = omega (arith, e);
      kept = subst (λ (k : ℕ). AreWithin k (marks_on h calls)) (sym e) (within-on h calls);
    }

-- nothing was done of a line
pub untouched : DrainsByTurns → (P : Language) (line : Line) (st : State) → IsPart P line st st [] [] []
untouched by_turns P (script.Does ev) st = inl ((refl, refl, refl), None, 0, refl)
untouched by_turns P (script.Drain turns) st = inl (0, omega arith, drains-none by_turns P st, inl refl)
untouched by_turns P script.Unread st = ((refl, refl, refl), refl)
untouched by_turns P script.Unformed st = ((refl, refl, refl), refl)

-- nothing stands behind it
no-marks : (marks : List Mark) → length marks ≤ 0 → marks ≡ []
no-marks [] le = refl
no-marks (x ∷ xs) le = absurd (omega (arith, le))

-- a line that does nothing leaves all as it is
quiet : (P : Language) (line : Line) (st after : State) (calls : List Call) (marks : List Mark) (reply same : Reply)
    → ((told : Told) → answered P told line ≡ saying told told.trail same)
    → AnswersTo P line st after calls marks reply → IsUntouched st after calls marks
quiet P line st after calls marks reply same says answers =
    let t : Trail = from_state st (answers_of calls) in
    let told : Told = record { trail = t; said = [] } in
    let x = answers told [] (refl, sym (append-nil (answers_of calls))) in
    let e : saying told t same ≡ saying told x.0 reply = sym (says told) ∙ x.2 in
    let state : st ≡ x.0.state = ap (λ (w : Told). w.trail.state) e in
    let none : [] ≡ x.0.calls = ap (λ (w : Told). w.trail.calls) e in
    let one : 1 ≡ length (x.0.marks ++ Said (length (reply_text reply)) (length x.0.state.history) ∷ []) = ap (λ (w : Told). length w.trail.marks) e in
    let empty : length marks ≤ 0 =
    let same_marks : length x.0.marks ≡ length marks = ap (λ (ms : List Mark). length ms) x.1.marks_are in
    omega (arith, one, same_marks, length-append x.0.marks (Said (length (reply_text reply)) (length x.0.state.history) ∷ [])) in
    (sym x.1.state ∙ sym state, sym x.1.calls_are ∙ sym none, no-marks marks empty)

-- the whole line was done
whole : (P : Language) (line : Line) (st after : State) (calls : List Call) (marks : List Mark) (reply : Reply) → AnswersTo P line st after calls marks reply → IsPart P line st after calls marks []
whole P (script.Does ev) st after calls marks reply answers = inr (reply, answers, refl)
whole P (script.Drain turns) st after calls marks reply answers = inr (reply, answers, refl)
whole P script.Unread st after calls marks reply answers = (quiet P script.Unread st after calls marks reply NotRead (λ told. refl) answers, refl)
whole P script.Unformed st after calls marks reply answers = (quiet P script.Unformed st after calls marks reply NotForm (λ told. refl) answers, refl)

module _ {D : Type 0} (told_size : D → Option ℕ) (told_image : D → Option (List ℕ)) (may_leave : D → List ℕ → Type 0) (moment : D → ℕ) (reach : D → Reach) (said : D → Option (List ℕ)) (asked : D → Option (List desk.Call)) (syncs : D → Option ℕ) where
  abbrev DoneTo : D → D → Exec → State → Line → Reply → Type 0
  DoneTo old new exec st line reply = DoesEvents told_size told_image may_leave moment reach said asked syncs old new exec st line reply

  abbrev StoppedAt : Language → D → D → State → Line → Type 0
  StoppedAt P old new st line = StopsLine told_image moment reach said asked syncs P old new st line

  abbrev DoesOne : D → D → Exec → State → Event → Reply → Type 0
  DoesOne old new exec st ev reply = done.Does told_size told_image may_leave asked syncs old new exec st (length st.history) ev reply

  -- one event was done
  pub event-done : OnlyAppends → (old new : D) (exec : Exec) (st : State) (ev : Event) (reply : Reply)
      → DoesOne old new exec st ev reply → done.Leaves moment reach said asked old new st.history (length st.history)
      → ForSome (told_image new) (done.IsRead st.history (length st.history))
      → DoneTo old new exec st (script.Does ev) reply
  event-done law old new exec st ev reply d leaves reads =
      let marks : List Mark = marks_on st.history d.calls in
      let s : AreSettled (length st.history) marks (length st.history) = one-settles st.history d.calls in
      let grown = step-keeps law (language exec) st d.after ev reply d.calls d.steps in
      record {
        calls = d.calls;
        marks = marks;
        after = d.after;
        machine = steps-answer (language exec) st d.after ev reply d.calls d.steps;
        told = d.told;
        runs = subst (λ (k : ℕ). Runs told_size told_image may_leave new exec d.after k) (settled-once st d.calls ∙ sym (settled-on st.history d.calls)) d.runs;
        few_syncs = d.few_syncs;
        leaves = subst (λ (h : List Entry). LeavesKept moment reach said asked old new h (length st.history) marks) (sym grown.1)
            (leaves-event may_leave moment reach said asked old new st.history grown.0 marks s leaves);
        reads = λ image told. subst (λ (h : List Entry). IsKept h (length st.history) marks (length d.calls) image) (sym grown.1)
            (kept-all st.history grown.0 (length st.history) marks (length d.calls) image s (read-whole st.history image (reads image told)));
        no_less = s.no_less;
        kept = s.kept;
      }

  -- one event ended early
  pub event-stops : (P : Language) (old new : D) (st : State) (ev : Event)
      → done.AskedFirst P st ev (asked old) (asked new) → done.Leaves moment reach said asked old new st.history (length st.history)
      → ForSome (told_image new) (done.IsRead st.history (length st.history))
      → done.SyncsWithin (syncs old) (syncs new) 2
      → StoppedAt P old new st (script.Does ev)
  event-stops P old new st ev first leaves reads few =
      let last : List Call = take first.1 (calls_of P st.history ev first.0) in
      record {
        calls = [];
        marks = [];
        after = st;
        last = last;
        part = inl ((refl, refl, refl), first.0, first.1, refl);
        told = first.2;
        few_syncs = few-more (syncs old) (syncs new) 2 (2 + 2 * length last) (omega arith) few;
        leaves = subst (λ (h : List Entry). LeavesKept moment reach said asked old new h (length st.history) (marks_on st.history last)) (append-nil st.history)
            (leaves-event may_leave moment reach said asked old new st.history [] (marks_on st.history last) (one-settles st.history last) leaves);
        reads = λ image told. subst (λ (h : List Entry). IsKept h (length st.history) (marks_on st.history last) (length last) image) (append-nil st.history)
            (kept-all st.history [] (length st.history) (marks_on st.history last) (length last) image (one-settles st.history last) (read-whole st.history image (reads image told)));
      }

  -- an event that asks nothing
  pub asks-nothing : (P : Language) (old new : D) (st : State) (ev : Event) → asked new ≡ asked old → done.AskedFirst P st ev (asked old) (asked new)
  asks-nothing P old new st ev same = (None, 0, same ∙ told-none (asked old))

  -- the line was done, and that is all
  pub done-stops : (P : Language) (old new : D) (exec : Exec) (st : State) (line : Line) (reply : Reply) → language exec ≡ P
      → DoneTo old new exec st line reply → StoppedAt P old new st line
  done-stops P old new exec st line reply same d = record {
    calls = d.calls;
    marks = d.marks;
    after = d.after;
    last = [];
    part = whole P line st d.after d.calls d.marks reply (subst (λ (L : Language). AnswersTo L line st d.after d.calls d.marks reply) same d.machine);
    told = d.told ∙ ap (λ (cs : List Call). done.told_after (asked old) cs) (sym (append-nil d.calls));
    few_syncs = few-more (syncs old) (syncs new) (2 * length d.calls) (2 + 2 * length (d.calls ++ [])) (omega (arith, length-append d.calls [])) d.few_syncs;
    leaves = subst (λ (ms : List Mark). LeavesKept moment reach said asked old new d.after.history (length st.history) ms) (sym (append-nil d.marks)) d.leaves;
    reads = λ image told. none-more d.after.history (length st.history) d.marks d.calls image (d.reads image told);
  }

  -- ---- nothing was done

  abbrev CountsNow : D → Type 0
  CountsNow d = (t : ℕ) (c : List ℕ) → t ≤ moment d → may_leave d c → reach d t c (told_len (said d)) (told_len (asked d))

  abbrev OnlyNow : D → Type 0
  OnlyNow d = (c : List ℕ) (n m : ℕ) → reach d (moment d) c n m → may_leave d c × (n ≡ told_len (said d)) × (m ≡ told_len (asked d))

  abbrev LeavesSettled : D → List Entry → Type 0
  LeavesSettled d h = (c : List ℕ) → may_leave d c → IsHistoryOf (take (length h) h) c

  abbrev ReadsSettled : D → List Entry → Type 0
  ReadsSettled d h = (c : List ℕ) → told_image d ≡ Some c → IsHistoryOf (take (length h) h) c

  pub nothing-done : (d : D) (exec : Exec) (st : State) (line : Line) (reply : Reply) → CountsNow d → OnlyNow d → LeavesSettled d st.history → ReadsSettled d st.history
      → Runs told_size told_image may_leave d exec st (length st.history) → AnswersTo (language exec) line st st [] [] reply
      → DoneTo d d exec st line reply
  nothing-done d exec st line reply counts_now only_now left read runs machine = record {
    calls = [];
    marks = [];
    after = st;
    machine = machine;
    told = told-none (asked d);
    runs = runs;
    few_syncs = no-syncs (syncs d);
    leaves = leaves-nothing may_leave moment reach said asked d st.history counts_now only_now left;
    reads = λ image told. kept-whole st.history 0 image (read-whole st.history image (inr (read image told)));
    no_less = omega arith;
    kept = tt;
  }

  pub nothing-stops : DrainsByTurns → (P : Language) (d : D) (st : State) (line : Line) → CountsNow d → OnlyNow d → LeavesSettled d st.history → ReadsSettled d st.history
      → StoppedAt P d d st line
  nothing-stops by_turns P d st line counts_now only_now left read = record {
    calls = [];
    marks = [];
    after = st;
    last = [];
    part = untouched by_turns P line st;
    told = told-none (asked d);
    few_syncs = few-more (syncs d) (syncs d) 0 2 (omega arith) (no-syncs (syncs d));
    leaves = leaves-nothing may_leave moment reach said asked d st.history counts_now only_now left;
    reads = λ image told. kept-whole st.history 0 image (read-whole st.history image (inr (read image told)));
  }

  -- ---- drains

  pub drain-done : OnlyAppends → DrainsByTurns → (old new : D) (exec : Exec) (st : State) (turns : ℕ) (reply : Reply)
      → DoesDrain told_size told_image may_leave moment reach said asked syncs old new exec st (length st.history) turns reply
      → DoneTo old new exec st (script.Drain turns) reply
  drain-done law by_turns old new exec st turns reply d =
      let s : AreSettled (length st.history) d.marks (length d.after.history) = drain-settles law by_turns (language exec) turns st d.after d.calls d.marks d.machine in
      record {
        calls = d.calls;
        marks = d.marks;
        after = d.after;
        machine = λ told rest here. (_, d.machine told.trail rest here, ap (λ (r : Reply). saying told (drained (next (language exec)) (language exec).queues Plain turns told.trail).trail r) (d.reply_is told.trail rest here));
        told = d.told;
        runs = d.runs;
        few_syncs = d.few_syncs;
        leaves = d.leaves;
        reads = d.reads;
        no_less = s.no_less;
        kept = s.kept;
      }

  pub drain-stops : (P : Language) (old new : D) (st : State) (turns : ℕ) → EndsEarly told_image moment reach said asked syncs P old new st (length st.history) turns
      → StoppedAt P old new st (script.Drain turns)
  drain-stops P old new st turns e = record {
    calls = e.calls;
    marks = e.marks;
    after = e.after;
    last = e.last;
    part = inl (e.done, e.within, e.machine, e.of_next);
    told = e.told;
    few_syncs = few-more (syncs old) (syncs new) (2 * length e.calls + 2) (2 + 2 * length (e.calls ++ e.last)) (omega (arith, length-append e.calls e.last)) e.few_syncs;
    leaves = e.leaves;
    reads = e.reads;
  }

  -- ---- settling

  leaves-both : (old mid new : D) (exec : Exec) (st : State) (line : Line) (reply : Reply) (d : DoneTo old mid exec st line reply)
      → done.Leaves moment reach said asked mid new d.after.history (settled_by (length st.history) d.marks)
      → said mid ≡ said old → asked new ≡ asked mid
      → LeavesKept moment reach said asked old new d.after.history (length st.history) d.marks
  leaves-both old mid new exec st line reply d leaves same_said same_asked =
      let from : told_len (asked old) ≤ told_len (asked mid) =
      subst (λ (o : Option (List desk.Call)). told_len (asked old) ≤ told_len o) (sym d.told) (told-more (asked old) d.calls) in
      leaves-settled may_leave moment reach said asked old mid new d.after.history (length st.history) d.marks
      (record { no_less = d.no_less; within = d.runs.holds.within; kept = d.kept }) d.leaves leaves same_said from same_asked

  pub settled-line : (old mid new : D) (exec exec' : Exec) (st : State) (line : Line) (reply : Reply) (text : Text) → language exec' ≡ language exec → text ≡ reply_text reply
      → (d : DoneTo old mid exec st line reply)
      → Runs told_size told_image may_leave new exec' d.after (length d.after.history)
      → done.Leaves moment reach said asked mid new d.after.history (settled_by (length st.history) d.marks)
      → said mid ≡ said old → asked new ≡ asked mid → done.SyncsWithin (syncs mid) (syncs new) 2
      → DoesLine told_size told_image may_leave moment reach said asked syncs old new exec' st line text
  settled-line old mid new exec exec' st line reply text program is d runs leaves same_said same_asked few = record {
    calls = d.calls;
    marks = d.marks;
    after = d.after;
    reply = reply;
    machine = subst (λ (L : Language). AnswersTo L line st d.after d.calls d.marks reply) (sym program) d.machine;
    text_is = is;
    told = same_asked ∙ d.told;
    runs = runs;
    few_syncs = few-more (syncs old) (syncs new) (2 * length d.calls + 2) (2 + 2 * length d.calls) (omega arith) (few-then (syncs old) (syncs mid) (syncs new) (2 * length d.calls) 2 d.few_syncs few);
    leaves = leaves-both old mid new exec st line reply d leaves same_said same_asked;
  }

  pub settle-stops : (P : Language) (old mid new : D) (exec : Exec) (st : State) (line : Line) (reply : Reply) → language exec ≡ P
      → (d : DoneTo old mid exec st line reply)
      → done.Leaves moment reach said asked mid new d.after.history (settled_by (length st.history) d.marks)
      → ForSome (told_image new) (done.IsRead d.after.history (settled_by (length st.history) d.marks))
      → said mid ≡ said old → asked new ≡ asked mid → done.SyncsWithin (syncs mid) (syncs new) 2
      → StoppedAt P old new st line
  settle-stops P old mid new exec st line reply program d leaves reads same_said same_asked few = record {
    calls = d.calls;
    marks = d.marks;
    after = d.after;
    last = [];
    part = whole P line st d.after d.calls d.marks reply (subst (λ (L : Language). AnswersTo L line st d.after d.calls d.marks reply) program d.machine);
    told = same_asked ∙ d.told ∙ ap (λ (cs : List Call). done.told_after (asked old) cs) (sym (append-nil d.calls));
    few_syncs = few-more (syncs old) (syncs new) (2 * length d.calls + 2) (2 + 2 * length (d.calls ++ [])) (omega (arith, length-append d.calls []))
        (few-then (syncs old) (syncs mid) (syncs new) (2 * length d.calls) 2 d.few_syncs few);
    leaves = subst (λ (ms : List Mark). LeavesKept moment reach said asked old new d.after.history (length st.history) ms) (sym (append-nil d.marks))
        (leaves-both old mid new exec st line reply d leaves same_said same_asked);
    reads = λ image told. none-more d.after.history (length st.history) d.marks d.calls image
        (kept-read d.after.history (length st.history) d.marks (length d.calls) image
        (record { no_less = d.no_less; within = d.runs.holds.within; kept = d.kept }) (reads image told));
  }
