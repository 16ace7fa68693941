-- From one part of a drain to the next: the first round, its turns, the next round, the end.
use Rattle.std.proofs.Common.{◌≡◌, inl, inr, ℕ, suc, ◌+◌, ◌-◌, ◌*◌, ◌<◌, ◌≤◌, Bool, true, false, List, [], length, take, Option, Some, None, Ok, Err, refl, sym, ap, ◌∙◌, subst, arith, append-nil}
use Rattle.std.specs.Prelude.{MatchOption, MatchResult, OnOk, Result}
use Rattle.r3_entry.specs.declared.entry.Entry.{Entry}
use Rattle.r3_entry.specs.Image.{IsHistoryOf}
use Rattle.r3_desk.specs.Asked as desk
use Rattle.r3_desk.specs.Crash.{Reach}
use Rattle.r3_desk.specs.Disk.{told_len}
use Rattle.r3_store.specs.Holds.{Holds}
use Rattle.r3_model.specs.Language.{Text, Language}
use Rattle.r3_model.specs.Event.{Reply, Call, Spent, Idle}
use Rattle.r3_model.specs.Held.{Mark}
use Rattle.r3_model.specs.Machine.{State}
use Rattle.r3_model.specs.Run.{pending_ids}
use Rattle.r3_laws.specs.OfPending.{PendingTells, RowsTell}
use Rattle.r3_exec.specs.Runs.{Runs, language}
use Rattle.r3_exec.specs.Does.{SyncsWithin, told_after}
use Rattle.r3_exec.specs.declared.exec.Exec.{Exec}
use Rattle.r3_exec.specs.declared.ends.ExecFault.{ExecFault}
use Rattle.r3_recover.specs.declared.ends.DrainEnd.{DrainEnd}
use Rattle.r3_recover.specs.Ends.{drain_reply}
use Rattle.r3_recover.specs.Kept.{LeavesKept, settled_by}
use Rattle.r3_recover.specs.Drained.{DoesDrain, Drains, EndsEarly, Replies}
use Rattle.r3_recover.specs.Rounds.{AreThere, Phase, Point, Queues, Reaches, Turns}
use Rattle.r3_recover.proofs.Leaving.{few-more, told-none}
use Rattle.r3_recover.proofs.Phases.{HasMore, drains-idle, queue_names, reaches-drains, reaches-first, reaches-round, reaches-turns, replies-cut, replies-idle, replies-spent}
use Rattle.r3_recover.proofs.Points.{reads-ended, reads-kept}
use Rattle.r3_recover.proofs.Starts.{quiet-kept}
use Rattle.r3_recover.proofs.There.{all-declared, all-known}

no-syncs : (a : Option ℕ) → SyncsWithin a a (2 * 0)
no-syncs None = (0, omega arith, refl)
no-syncs (Some k) = (0, omega arith, ap (λ (x : ℕ). Some x) (let e : k ≡ k + 0 = omega arith in e))

module _ {D : Type 0} (told_size : D → Option ℕ) (told_image : D → Option (List ℕ)) (may_leave : D → List ℕ → Type 0) (moment : D → ℕ) (reach : D → Reach) (said : D → Option (List ℕ)) (asked : D → Option (List desk.Call)) (syncs : D → Option ℕ) where
  abbrev At : D → D → Exec → State → ℕ → ℕ → Phase → ℕ → Bool → Type 0
  At from now exec st settled turns phase left changed =
      Point told_size told_image may_leave moment reach said asked syncs from now exec st settled turns phase left changed

  abbrev Ends : D → D → Exec → State → ℕ → ℕ → Reply → Type 0
  Ends from now exec st settled turns reply = DoesDrain told_size told_image may_leave moment reach said asked syncs from now exec st settled turns reply

  -- what is read is what is settled
  abbrev pub ReadsSettled : D → Exec → Type 0
  ReadsSettled now exec = (h : List Entry) (k : ℕ) (image : List ℕ) → Holds told_size told_image may_leave now exec.store h k → told_image now ≡ Some image → IsHistoryOf (take k h) image

  does-drain : (from now : D) (exec : Exec) (st : State) (settled turns left : ℕ) (phase : Phase) (changed : Bool) (reply : Reply)
      → (p : At from now exec st settled turns phase left changed) → ReadsSettled now exec
      → Drains (language exec) turns st p.after p.calls p.marks → Replies (language exec) turns st p.calls reply → Ends from now exec st settled turns reply
  does-drain from now exec st settled turns left phase changed reply p read machine replies = record {
    calls = p.calls;
    marks = p.marks;
    after = p.after;
    machine = machine;
    reply_is = replies;
    told = p.told;
    runs = p.runs;
    few_syncs = p.few_syncs;
    leaves = p.leaves;
    reads = reads-kept told_size told_image may_leave moment reach said asked syncs from now now exec st settled turns left phase changed p
        (λ image told. inr (read p.after.history (settled_by settled p.marks) image p.runs.holds told));
  }

  -- nothing is left, and a dequeue or a turn is still to come
  pub point-cut : (from now : D) (exec : Exec) (st : State) (settled turns left : ℕ) (phase : Phase) (changed : Bool)
      → (p : At from now exec st settled turns phase left changed) → ReadsSettled now exec → HasMore (language exec) phase → left ≡ 0 → Ends from now exec st settled turns (Spent turns)
  point-cut from now exec st settled turns left phase changed p read more none =
      let P : Language = language exec in
      let all : p.done ≡ turns = omega (arith, p.total, none) in
      let least : p.least ≡ 0 = omega (arith, p.least_left, none) in
      let reaches : Reaches P 0 p.done p.spare st p.after p.calls p.marks phase changed =
      subst (λ (k : ℕ). Reaches P k p.done p.spare st p.after p.calls p.marks phase changed) least p.reaches in
      does-drain from now exec st settled turns left phase changed (Spent turns) p read
      (subst (λ (n : ℕ). Drains P n st p.after p.calls p.marks) all p.drains)
      (subst (λ (n : ℕ). Replies P n st p.calls (Spent n)) all (replies-cut P p.done p.spare st p.after p.calls p.marks phase changed more reaches))

  -- nothing is left behind a round
  pub point-over : (from now : D) (exec : Exec) (st : State) (settled turns left : ℕ)
      → (p : At from now exec st settled turns (Turns []) left true) → ReadsSettled now exec → left ≡ 0 → Ends from now exec st settled turns (Spent turns)
  point-over from now exec st settled turns left p read none =
      let P : Language = language exec in
      let all : p.done ≡ turns = omega (arith, p.total, none) in
      let least : p.least ≡ 0 = omega (arith, p.least_left, none) in
      let reaches : Reaches P 0 p.done p.spare st p.after p.calls p.marks (Turns []) true =
      subst (λ (k : ℕ). Reaches P k p.done p.spare st p.after p.calls p.marks (Turns []) true) least p.reaches in
      does-drain from now exec st settled turns left (Turns []) true (Spent turns) p read
      (subst (λ (n : ℕ). Drains P n st p.after p.calls p.marks) all p.drains)
      (subst (λ (n : ℕ). Replies P n st p.calls (Spent n)) all (replies-spent P p.done p.spare st p.after p.calls p.marks reaches))

  -- a round has changed nothing
  pub point-idle : (from now : D) (exec : Exec) (st : State) (settled turns left : ℕ)
      → (p : At from now exec st settled turns (Turns []) left false) → ReadsSettled now exec → Ends from now exec st settled turns (Idle (turns - left))
  point-idle from now exec st settled turns left p read =
      let P : Language = language exec in
      let taken : p.done ≡ turns - left = omega (arith, p.total) in
      does-drain from now exec st settled turns left (Turns []) false (Idle (turns - left)) p read
      (subst (λ (n : ℕ). Drains P n st p.after p.calls p.marks) p.total (drains-idle P p.least p.done p.spare left st p.after p.calls p.marks p.least_left p.reaches))
      (subst (λ (n : ℕ). Replies P turns st p.calls (Idle n)) taken
      (subst (λ (n : ℕ). Replies P n st p.calls (Idle p.done)) p.total (replies-idle P p.least p.done p.spare left st p.after p.calls p.marks p.least_left p.reaches)))

  -- the next round
  pub point-round : (from now : D) (exec : Exec) (st : State) (settled turns left : ℕ)
      → (p : At from now exec st settled turns (Turns []) left true) → 0 < left → At from now exec st settled turns (Queues (queue_names (language exec))) left false
  point-round from now exec st settled turns left p some =
      let P : Language = language exec in
      let fuel : p.spare ≡ suc (p.spare - 1) = omega (arith, p.spared refl) in
      record {
        calls = p.calls;
        marks = p.marks;
        after = p.after;
        done = p.done;
        least = 1;
        spare = p.spare - 1;
        total = p.total;
        reaches = reaches-round P p.least p.done (p.spare - 1) st p.after p.calls p.marks p.least_one
            (subst (λ (k : ℕ). Reaches P p.least p.done k st p.after p.calls p.marks (Turns []) true) fuel p.reaches);
        drains = p.drains;
        least_left = omega (arith, some);
        least_one = omega arith;
        spared = λ is. absurd (let e : false ≡ true = is in cc);
        there = all-declared P.queues;
        told = p.told;
        runs = p.runs;
        few_syncs = p.few_syncs;
        leaves = p.leaves;
        said_same = p.said_same;
        counts = p.counts;
        no_less = p.no_less;
        kept = p.kept;
      }

  -- the turns of a round
  pub point-turns : RowsTell → PendingTells → (from now : D) (exec : Exec) (st : State) (settled turns left : ℕ) (changed : Bool) (ids : List Text)
      → (p : At from now exec st settled turns (Queues []) left changed) → ids ≡ pending_ids p.after → At from now exec st settled turns (Turns ids) left changed
  point-turns tell pending from now exec st settled turns left changed ids p are =
      let P : Language = language exec in
      record {
        calls = p.calls;
        marks = p.marks;
        after = p.after;
        done = p.done;
        least = p.least;
        spare = p.spare;
        total = p.total;
        reaches = subst (λ (is : List Text). Reaches P p.least p.done p.spare st p.after p.calls p.marks (Turns is) changed) (sym are)
            (reaches-turns P p.least p.done p.spare st p.after p.calls p.marks changed p.reaches);
        drains = p.drains;
        least_left = p.least_left;
        least_one = p.least_one;
        spared = p.spared;
        there = subst (λ (is : List Text). AreThere P p.after (Turns is)) (sym are) (all-known tell pending p.after);
        told = p.told;
        runs = p.runs;
        few_syncs = p.few_syncs;
        leaves = p.leaves;
        said_same = p.said_same;
        counts = p.counts;
        no_less = p.no_less;
        kept = p.kept;
      }

  -- before the first round
  pub point-first : (d : D) (exec : Exec) (st : State) (settled turns : ℕ) (names : List Text) → names ≡ queue_names (language exec)
      → ((t : ℕ) (c : List ℕ) → t ≤ moment d → may_leave d c → reach d t c (told_len (said d)) (told_len (asked d)))
      → ((c : List ℕ) (n m : ℕ) → reach d (moment d) c n m → may_leave d c × (n ≡ told_len (said d)) × (m ≡ told_len (asked d)))
      → Runs told_size told_image may_leave d exec st settled
      → ((c : List ℕ) → may_leave d c → IsHistoryOf (take settled st.history) c)
      → At d d exec st settled turns (Queues names) turns false
  point-first d exec st settled turns names are counts_now only_now runs here =
      let P : Language = language exec in
      let reaches : Reaches P 0 0 0 st st [] [] (Queues names) false =
      subst (λ (ns : List Text). Reaches P 0 0 0 st st [] [] (Queues ns) false) (sym are) (reaches-first P st) in
      record {
        calls = [];
        marks = [];
        after = st;
        done = 0;
        least = 0;
        spare = 0;
        total = omega arith;
        reaches = reaches;
        drains = reaches-drains P 0 0 st st [] [] (Queues names) false reaches;
        least_left = omega arith;
        least_one = omega arith;
        spared = λ is. absurd (let e : false ≡ true = is in cc);
        there = subst (λ (ns : List Text). AreThere P st (Queues ns)) (sym are) (all-declared P.queues);
        told = told-none (asked d);
        runs = runs;
        few_syncs = no-syncs (syncs d);
        leaves = quiet-kept told_image may_leave moment reach said asked d st.history settled counts_now only_now runs.holds.within here;
        said_same = refl;
        counts = refl;
        no_less = omega arith;
        kept = tt;
      }

  -- the drain ended here, before the next dequeue or turn
  pub point-stops : (from now : D) (exec : Exec) (st : State) (settled turns left : ℕ) (phase : Phase) (changed : Bool)
      → (p : At from now exec st settled turns phase left changed) → ReadsSettled now exec
      → EndsEarly told_image moment reach said asked syncs (language exec) from now st settled turns
  point-stops from now exec st settled turns left phase changed p read = record {
    done = p.done;
    within = omega (arith, p.total);
    calls = p.calls;
    marks = p.marks;
    after = p.after;
    machine = p.drains;
    last = [];
    of_next = inl refl;
    told = p.told ∙ ap (λ (cs : List Call). told_after (asked from) cs) (sym (append-nil p.calls));
    leaves = subst (λ (ms : List Mark). LeavesKept moment reach said asked from now p.after.history settled ms) (sym (append-nil p.marks)) p.leaves;
    reads = reads-ended told_size told_image may_leave moment reach said asked syncs from now now exec st settled turns left phase changed p []
        (λ image told. inr (read p.after.history (settled_by settled p.marks) image p.runs.holds told)) (inl refl);
    few_syncs = few-more (syncs from) (syncs now) (2 * length p.calls) (2 * length p.calls + 2) p.few_syncs (omega arith);
  }

  -- what a round comes to: the next one, the end of the drain, or a fault
  abbrev pub GoesRound : D → D → Exec → State → ℕ → ℕ → List Text → Language → ℕ → Result (Option DrainEnd) ExecFault → Type 0
  GoesRound from new exec st settled turns names P left result =
      MatchResult result
      (λ end. MatchOption end (At from new exec st settled turns (Queues names) left false) (λ e. Ends from new exec st settled turns (drain_reply e)))
      (λ fault. EndsEarly told_image moment reach said asked syncs P from new st settled turns)

-- a round that changed something has taken one
pub one-taken : (changed : Bool) (first mid last : ℕ) → (changed ≡ true → mid < first) → mid ≤ first → last ≤ mid → (changed ≡ false → last < mid) → last < first
one-taken true first mid last a b c d = omega (arith, a refl, c)
one-taken false first mid last a b c d = omega (arith, b, d refl)

-- what holds where it went well
pub on-ok : {A E : Type 0} (r : Result A E) (F G : Type 0) → (F → G) → OnOk r F → OnOk r G
on-ok (Ok a) F G then f = then f
on-ok (Err e) F G then f = tt {0}
