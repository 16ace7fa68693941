-- From one point of an opening to the next.
use Rattle.std.proofs.Common.{◌≡◌, ◌≢◌, ◌⊎◌, inl, ℕ, ◌+◌, ◌-◌, ◌*◌, ◌≤◌, List, [], ◌∷◌, length, take, Option, Some, None, refl, sym, ap, ◌∙◌, subst, ⊎_elim, arith}
use Rattle.std.proofs.lemmas.List.{take-append-le}
use Rattle.std.proofs.Math.Seq.{take-length}
use Rattle.std.specs.Option.{ForSome, option_map}
use Rattle.r3_entry.specs.declared.entry.Entry.{Entry}
use Rattle.r3_entry.specs.Image.{IsHistoryOf}
use Rattle.r3_desk.specs.Asked as desk
use Rattle.r3_desk.specs.Crash.{Reach}
use Rattle.r3_desk.specs.Disk.{told_len}
use Rattle.r3_desk.specs.Moments.{LeavesImage, leaves_then, image_then}
use Rattle.r3_store.specs.Holds.{Holds}
use Rattle.r3_store.specs.Opened.{Opens}
use Rattle.r3_store.specs.declared.store.Store.{Store}
use Rattle.sys_flow.specs.declared.command.Command.TheVariants.{Recover}
use Rattle.r3_model.specs.Language.{Language, Text}
use Rattle.r3_model.specs.Event.{Call, Reply, Run}
use Rattle.r3_model.specs.Functions.{language_of}
use Rattle.r3_model.specs.Goes.{Steps}
use Rattle.r3_model.specs.Laws.{OnlyAppends}
use Rattle.r3_model.specs.Machine.{Out, State, full_of}
use Rattle.r3_model.specs.Run.{Trail, from_state, next, pending_ids, restarted}
use Rattle.r3_exec.specs.Runs.{Runs, Stands, language}
use Rattle.r3_exec.specs.Does.{Does, Leaves, SyncsWithin, settled_by}
use Rattle.r3_exec.specs.declared.exec.Exec.{Exec}
use Rattle.r3_recover.specs.Kept.{LeavesKept}
use Rattle.r3_recover.specs.Drained.{Comes}
use Rattle.r3_recover.specs.Opened.{HasOpened, HasProgram, OpensTo}
use Rattle.r3_recover.specs.Recovering.{IsTaken, Leads, Recovers}
use Rattle.r3_recover.proofs.FirstEntry.{first_entry, first-opens}
use Rattle.r3_recover.proofs.Leaving.{kept-first, leaves-more}
use Rattle.r3_recover.proofs.Nexts.{comes-then, next-comes, nothing-comes}
use Rattle.r3_recover.proofs.Points.{step-keeps}
use Rattle.r3_recover.proofs.Starts.{kept-now}
use Rattle.r3_recover.proofs.Turning.{ReadsSettled}

-- ---- the machine

leads-first : (P : Language) (h : List Entry) → Leads P h (restarted h) (pending_ids (restarted h))
leads-first P h = λ t rest here. (t, nothing-comes P t (restarted h) rest here, refl)

leads-next : (P : Language) (h : List Entry) (now new : State) (id : Text) (ids : List Text) (reply : Reply) → Steps P now (Run (Recover id)) reply [] new
    → Leads P h now (id ∷ ids) → Leads P h new ids
leads-next P h now new id ids reply s leads = λ t rest here.
    let x = leads t rest here in
    let n = next-comes P x.0 rest now new (Run (Recover id)) reply [] s (x.1.state, x.1.answers) in (
      next P x.0 (Run (Recover id)),
      comes-then P t x.0 (next P x.0 (Run (Recover id))) now new [] [] [] [] rest x.1 n.comes,
      x.2,
    )

opens-to : (P : Language) (text : Text) (h : List Entry) (after : State) → h ≢ [] → Leads P h after [] → OpensTo P text h after
opens-to P text [] after some leads = absurd (some refl)
opens-to P text (e ∷ es) after some leads = λ answers.
    let from : Trail = from_state (restarted (e ∷ es)) answers in
    let x = leads from answers (refl, refl) in
    subst (λ (u : Trail). Comes from u after [] [] answers) (sym x.2) x.1

-- ---- syncs

no-more : (a : Option ℕ) → option_map (λ k. k + 0) a ≡ a
no-more None = refl
no-more (Some k) = ap (λ (x : ℕ). Some x) (let e : k + 0 ≡ k = omega arith in e)

none-within : (a b : Option ℕ) → SyncsWithin a b 0 → b ≡ a
none-within a b w =
    let none : w.0 ≡ 0 = omega (arith, w.1) in
    w.2 ∙ ap (λ (n : ℕ). option_map (λ k. k + n) a) none ∙ no-more a

pub one-within : (a b c : Option ℕ) → b ≡ a → (c ≡ b) ⊎ (c ≡ option_map (λ n. n + 1) b) → SyncsWithin a c 1
one-within a b c same more = ⊎_elim
    (λ none. (0, omega arith, none ∙ same ∙ sym (no-more a)))
    (λ one. (1, omega arith, one ∙ ap (λ (x : Option ℕ). option_map (λ n. n + 1) x) same))
    more

module _ {D : Type 0} (told_size : D → Option ℕ) (told_image : D → Option (List ℕ)) (may_leave : D → List ℕ → Type 0) (moment : D → ℕ) (reach : D → Reach) (said : D → Option (List ℕ)) (asked : D → Option (List desk.Call)) (syncs : D → Option ℕ) where
  abbrev Taken : D → D → Store → List Entry → Type 0
  Taken from now store h = IsTaken told_size told_image may_leave moment reach said asked syncs from now store h

  abbrev At : D → D → Exec → List Entry → List Text → Type 0
  At from now exec h ids = Recovers told_size told_image may_leave moment reach said asked syncs from now exec h ids

  abbrev Opened : D → D → Exec → Text → Type 0
  Opened from new exec text = HasOpened told_size told_image may_leave moment reach said asked syncs from new exec text

  -- the store was opened
  pub taken : (from now : D) (store : Store) (h : List Entry) → Opens told_size told_image may_leave now store h
      → LeavesImage moment reach may_leave said asked from now (λ c. told_image from ≡ Some c) → told_image now ≡ told_image from
      → said now ≡ said from → asked now ≡ asked from → syncs now ≡ syncs from → Taken from now store h
  taken from now store h opens leaves image same_said same_asked same_syncs = record {
    opens = opens;
    is_history = λ i told. opens.told i (image ∙ told);
    leaves = record {
      elapses = leaves.elapses;
      each = λ c n m r.
          let x = leaves.each c n m r in
          let more : told_len (asked from) ≤ told_len (asked now) = subst (λ (o : Option (List desk.Call)). told_len (asked from) ≤ told_len o) (sym same_asked) (let e : told_len (asked from) ≤ told_len (asked from) = omega arith in e) in (
            x.1,
            omega (arith, x.2),
            omega (arith, x.2, more),
            kept-now h (length h) (m - told_len (asked from)) c (omega arith) (subst (λ (es : List Entry). IsHistoryOf es c) (sym (take-length h)) (opens.told c (image ∙ x.0))),
          );
    };
    left = record {
      elapses = leaves.elapses;
      each = λ c n m r. let x = leaves.each c n m r in (opens.told c (image ∙ x.0), x.1, x.2);
    };
    read = opens.told;
    said_same = same_said;
    asked_same = same_asked;
    same_syncs = same_syncs;
  }

  -- before the first recovery
  pub recovers-first : (from now : D) (store : Store) (exec : Exec) (h : List Entry) (ids : List Text) → Taken from now store h → exec.store ≡ store → Stands exec (restarted h)
      → ids ≡ pending_ids (restarted h) → At from now exec h ids
  recovers-first from now store exec h ids t same stands are = record {
    after = restarted h;
    machine = subst (λ (is : List Text). Leads (language exec) h (restarted h) is) (sym are) (leads-first (language exec) h);
    runs = record { stands = stands; holds = subst (λ (s : Store). Holds told_size told_image may_leave now s h (length h)) (sym same) t.opens.holds };
    leaves = t.leaves;
    first = take-length h;
    left = t.left;
    read = t.read;
    said_same = t.said_same;
    asked_same = t.asked_same;
    same_syncs = t.same_syncs;
  }

  -- the next recovery leaves what was there, whatever it comes to
  pub left-next : (from now new : D) (exec : Exec) (h : List Entry) (id : Text) (ids : List Text) → At from now exec h (id ∷ ids)
      → ((s : State) (k : ℕ) → Runs told_size told_image may_leave now exec s k → LeavesImage moment reach may_leave said asked now new (IsHistoryOf (take k s.history)))
      → LeavesImage moment reach may_leave said asked from new (IsHistoryOf h)
  left-next from now new exec h id ids p staged =
      image_then moment reach may_leave said asked from now new (IsHistoryOf h) (IsHistoryOf (take (length h) p.after.history)) (IsHistoryOf h)
      p.left (staged p.after (length h) p.runs) p.said_same p.asked_same
      (λ c is. is) (λ c is. subst (λ (es : List Entry). IsHistoryOf es c) p.first is)

  pub read-next : (from now new : D) (exec : Exec) (h : List Entry) (id : Text) (ids : List Text) → At from now exec h (id ∷ ids)
      → ((s : State) (k : ℕ) → Runs told_size told_image may_leave now exec s k → ForSome (told_image new) (IsHistoryOf (take k s.history)))
      → ForSome (told_image new) (IsHistoryOf h)
  read-next from now new exec h id ids p read = λ i told. subst (λ (es : List Entry). IsHistoryOf es i) p.first (read p.after (length h) p.runs i told)

  -- one more
  pub recovers-next : OnlyAppends → (from now new : D) (exec exec' : Exec) (h : List Entry) (id : Text) (ids : List Text) (reply : Reply) → At from now exec h (id ∷ ids)
      → exec'.program ≡ exec.program
      → ((s : State) (k : ℕ) → Runs told_size told_image may_leave now exec s k → Does told_size told_image may_leave asked syncs now new exec' s k (Run (Recover id)) reply)
      → ((s : State) (k : ℕ) → Runs told_size told_image may_leave now exec s k → Leaves moment reach said asked now new s.history k)
      → LeavesImage moment reach may_leave said asked from new (IsHistoryOf h) → ForSome (told_image new) (IsHistoryOf h)
      → said new ≡ said now → asked new ≡ asked now → At from new exec' h ids
  recovers-next law from now new exec exec' h id ids reply p program does leaves left read same_said same_asked =
      let P : Language = language exec' in
      let d = does p.after (length h) p.runs in
      let none : [] ≡ d.calls = ap (λ (o : Out). o.calls) d.steps.is in
      let s : Steps P p.after (Run (Recover id)) reply [] d.after =
      subst (λ (cs : List Call). Steps P p.after (Run (Recover id)) reply cs d.after) (sym none) d.steps in
      let grown = step-keeps law P p.after d.after (Run (Recover id)) reply [] s in
      let leads : Leads P h p.after (id ∷ ids) = subst (λ is. Leads (language_of is) h p.after (id ∷ ids)) (sym program) p.machine in
      record {
        after = d.after;
        machine = leads-next P h p.after d.after id ids reply s leads;
        runs = subst (λ (cs : List Call). Runs told_size told_image may_leave new exec' d.after (settled_by (length h) p.after cs)) (sym none) d.runs;
        leaves = subst (λ (es : List Entry). LeavesKept moment reach said asked from new es (length h) []) (sym grown.1)
            (leaves-more may_leave moment reach said asked from now new p.after.history grown.0 (length h) (length h) [] []
            p.leaves (leaves p.after (length h) p.runs) p.said_same
            (same-length p.asked_same) (same-most p.asked_same) (same-length same_asked)
            (omega arith) p.runs.holds.within tt tt);
        first = ap (λ (es : List Entry). take (length h) es) grown.1 ∙ take-append-le (length h) p.after.history grown.0 p.runs.holds.within ∙ p.first;
        left = left;
        read = read;
        said_same = same_said ∙ p.said_same;
        asked_same = same_asked ∙ p.asked_same;
        same_syncs = none-within (syncs now) (syncs new) (subst (λ (cs : List Call). SyncsWithin (syncs now) (syncs new) (2 * length cs)) (sym none) d.few_syncs) ∙ p.same_syncs;
      } where
        same-length : {a b : Option (List desk.Call)} → b ≡ a → told_len a ≤ told_len b
        same-length {a} {b} e = subst (λ (o : Option (List desk.Call)). told_len a ≤ told_len o) (sym e) (let x : told_len a ≤ told_len a = omega arith in x)

        same-most : {a b : Option (List desk.Call)} → b ≡ a → told_len b ≤ told_len a + 0
        same-most {a} {b} e = subst (λ (o : Option (List desk.Call)). told_len o ≤ told_len a + 0) (sym e) (let x : told_len a ≤ told_len a + 0 = omega arith in x)

  -- all were recovered
  pub has-recovered : (from now : D) (store : Store) (mid : D) (exec : Exec) (h : List Entry) (text : Text) → Taken from mid store h → At from now exec h [] → h ≢ [] → HasProgram h text
      → ReadsSettled told_size told_image may_leave moment reach said asked syncs now exec → Opened from now exec text
  has-recovered from now store mid exec h text t p some same read = record {
    history = h;
    after = p.after;
    is_history = t.is_history;
    same = same;
    machine = opens-to (language exec) text h p.after some p.machine;
    runs = p.runs;
    leaves = p.leaves;
    reads = λ image told. kept-now p.after.history (length h) 0 image p.runs.holds.within (read p.after.history (length h) image p.runs.holds told);
    few_syncs = one-within (syncs from) (syncs from) (syncs now) refl (inl p.same_syncs);
  }

  -- the program was appended to an empty store
  pub has-begun : (from mid new : D) (store store' : Store) (exec : Exec) (text : Text) → Taken from mid store []
      → full_of [] (first_entry text) ≡ None
      → Holds told_size told_image may_leave new store' (first_entry text ∷ []) 0 → exec.store ≡ store' → Stands exec (restarted (first_entry text ∷ []))
      → LeavesImage moment reach may_leave said asked mid new (IsHistoryOf []) → ForSome (told_image new) (IsHistoryOf [])
      → (syncs new ≡ syncs mid) ⊎ (syncs new ≡ option_map (λ n. n + 1) (syncs mid))
      → said new ≡ said mid → asked new ≡ asked mid → Opened from new exec text
  has-begun from mid new store store' exec text t room holds same stands leaves read more same_said same_asked = record {
    history = [];
    after = restarted (first_entry text ∷ []);
    is_history = t.is_history;
    same = inl refl;
    machine = first-opens text (language exec) room;
    runs = record { stands = stands; holds = subst (λ (s : Store). Holds told_size told_image may_leave new s (first_entry text ∷ []) 0) (sym same) holds };
    leaves = leaves_then moment reach may_leave said asked from mid new _ _ _ t.leaves leaves
        (λ c n m x. (x.0, x.1, omega (arith, x.2, on), kept-first [] (first_entry text ∷ []) 0 [] [] (m - told_len (asked from)) c (omega (arith, x.2, mid_len)) x.3))
        (λ c n m x. (
          x.1 ∙ ap (λ (o : Option (List ℕ)). told_len o) t.said_same,
          omega (arith, x.2, mid_len),
          omega (arith, x.2, on),
          kept-now (first_entry text ∷ []) 0 (m - told_len (asked from)) c (omega arith) x.0,
        ));
    reads = λ image told. kept-now (first_entry text ∷ []) 0 0 image (omega arith) (read image told);
    few_syncs = one-within (syncs from) (syncs mid) (syncs new) t.same_syncs more;
  } where
    mid_len : told_len (asked mid) ≡ told_len (asked from)
    mid_len = ap (λ (o : Option (List desk.Call)). told_len o) t.asked_same

    on : told_len (asked new) ≡ told_len (asked mid)
    on = ap (λ (o : Option (List desk.Call)). told_len o) same_asked
