-- How a drain and its desk go on, from one point to the next.
use Rattle.std.proofs.Common.{◌≡◌, ◌⊎◌, inr, ℕ, suc, ◌+◌, ◌*◌, ◌≤◌, Bool, ◌||◌, List, [], ◌∷◌, ◌++◌, length, Option, refl, sym, ap, ◌∙◌, subst, ⊎_elim, arith, append-nil, length-append}
use Rattle.std.specs.Option.{ForSome}
use Rattle.r3_value.specs.declared.value.Outcome.{Outcome}
use Rattle.r3_entry.specs.declared.entry.Entry.{Entry}
use Rattle.r3_entry.specs.Image.{IsHistoryOf}
use Rattle.r3_desk.specs.Asked as desk
use Rattle.r3_desk.specs.Crash.{Reach}
use Rattle.r3_desk.specs.Disk.{told_len}
use Rattle.r3_model.specs.Language.{Language}
use Rattle.r3_model.specs.Event.{Event, Reply, Call}
use Rattle.r3_model.specs.Functions.{language_of}
use Rattle.r3_model.specs.Goes.{Steps}
use Rattle.r3_model.specs.Held.{Mark, asked_by}
use Rattle.r3_model.specs.Laws.{OnlyAppends}
use Rattle.r3_model.specs.Machine.{State, Out, stepped}
use Rattle.r3_model.specs.Drain.{changes}
use Rattle.r3_exec.specs.Runs.{Runs, language}
use Rattle.r3_exec.specs.Does.{Does, Leaves, IsRead, SyncsWithin, told_after, settled_by as settled_once}
use Rattle.r3_exec.specs.declared.exec.Exec.{Exec}
use Rattle.r3_recover.specs.Kept.{IsKept, LeavesKept, settled_by, marks_on}
use Rattle.r3_recover.specs.Drained.{Drains, EndsEarly, IsOfNext}
use Rattle.r3_recover.specs.Rounds.{Phase, Reaches, AreThere, AreWithin, Point}
use Rattle.r3_recover.proofs.Owing.{owed-within, within-more, within-higher, within-on, asked-more, asked-on, settled-more}
use Rattle.r3_recover.proofs.Leaving.{kept-all, leaves-more, told-append, told-more, told-most, few-by, few-then}
use Rattle.r3_recover.proofs.Phases.{Begins, reaches-next, reaches-drains}

-- a step leaves what stood
pub step-keeps : OnlyAppends → (P : Language) (st new : State) (ev : Event) (reply : Reply) (calls : List Call) → Steps P st ev reply calls new
    → (xs : List Entry) × (new.history ≡ st.history ++ xs)
step-keeps law P st new ev reply calls s =
    let x = law P st ev (s.answer ∷ []) in
    (x.0, sym (ap (λ (o : Out). o.state.history) s.is) ∙ x.2)

-- the calls of one event settle all, or there are none
settled-on : (h : List Entry) (calls : List Call) → settled_by (length h) (marks_on h calls) ≡ length h
settled-on h [] = refl
settled-on h (c ∷ cs) = settled-on h cs

pub settled-once : (settled : ℕ) (st : State) (calls : List Call) → settled_once settled st calls ≡ settled_by settled (marks_on st.history calls)
settled-once settled st [] = refl
settled-once settled st (c ∷ cs) = sym (settled-on st.history cs)

settled-higher : (settled : ℕ) (h : List Entry) (calls : List Call) → settled ≤ length h
    → (settled ≤ settled_by settled (marks_on h calls)) × AreWithin (settled_by settled (marks_on h calls)) (marks_on h calls)
settled-higher settled h [] le = (omega arith, tt)
settled-higher settled h (c ∷ cs) le =
    let e : settled_by (length h) (marks_on h cs) ≡ length h = settled-on h cs in (
      omega (arith, le, e),
      subst (λ (k : ℕ). AreWithin k (marks_on h (c ∷ cs))) (sym e) (within-on h (c ∷ cs)),
    )

module _ {D : Type 0} (told_size : D → Option ℕ) (told_image : D → Option (List ℕ)) (may_leave : D → List ℕ → Type 0) (moment : D → ℕ) (reach : D → Reach) (said : D → Option (List ℕ)) (asked : D → Option (List desk.Call)) (syncs : D → Option ℕ) where
  abbrev PointAt : D → D → Exec → State → ℕ → ℕ → Phase → ℕ → Bool → Type 0
  PointAt from now exec st settled turns phase left changed =
      Point told_size told_image may_leave moment reach said asked syncs from now exec st settled turns phase left changed

  -- what a crash leaves after one more event
  leaves-next : OnlyAppends → (from now new : D) (exec : Exec) (st : State) (settled turns left : ℕ) (phase : Phase) (changed : Bool)
      → (p : PointAt from now exec st settled turns phase left changed) (xs : List Entry) (last : List Call)
      → asked new ≡ told_after (asked now) last
      → Leaves moment reach said asked now new p.after.history (settled_by settled p.marks)
      → LeavesKept moment reach said asked from new (p.after.history ++ xs) settled (p.marks ++ marks_on p.after.history last)
  leaves-next law from now new exec st settled turns left phase changed p xs last told leaves =
      let from_now : told_len (asked from) ≤ told_len (asked now) =
      subst (λ (o : Option (List desk.Call)). told_len (asked from) ≤ told_len o) (sym p.told) (told-more (asked from) p.calls) in
      let to_now : told_len (asked now) ≤ told_len (asked from) + asked_by p.marks =
      let most : told_len (asked now) ≤ told_len (asked from) + length p.calls =
      subst (λ (o : Option (List desk.Call)). told_len o ≤ told_len (asked from) + length p.calls) (sym p.told) (told-most (asked from) p.calls) in
      omega (arith, most, p.counts) in
      let on : told_len (asked now) ≤ told_len (asked new) =
      subst (λ (o : Option (List desk.Call)). told_len (asked now) ≤ told_len o) (sym told) (told-more (asked now) last) in
      leaves-more may_leave moment reach said asked from now new p.after.history xs settled (settled_by settled p.marks) p.marks (marks_on p.after.history last)
      p.leaves leaves p.said_same from_now to_now on p.no_less p.runs.holds.within p.kept (within-on p.after.history last)

  -- one more dequeue or turn was done
  pub point-next : OnlyAppends → (from now new : D) (exec exec' : Exec) (st : State) (settled turns left : ℕ) (phase rest : Phase) (changed : Bool) (ev : Event) (reply : Reply)
      → (p : PointAt from now exec st settled turns phase (suc left) changed)
      → Begins (language exec) phase ev rest
      → exec'.program ≡ exec.program
      → (d : Does told_size told_image may_leave asked syncs now new exec' p.after (settled_by settled p.marks) ev reply)
      → Leaves moment reach said asked now new p.after.history (settled_by settled p.marks)
      → said new ≡ said now
      → AreThere (language exec) d.after rest
      → PointAt from new exec' st settled turns rest left (changed || changes reply)
  point-next law from now new exec exec' st settled turns left phase rest changed ev reply p begins program d leaves same_said there =
      let P : Language = language exec' in
      let same : language exec ≡ P = ap (λ is. language_of is) (sym program) in
      let now_settled : ℕ = settled_by settled p.marks in
      let more : List Mark = marks_on p.after.history d.calls in
      let reaches : Reaches P 0 (p.done + 1) (p.spare + 1) st d.after (p.calls ++ d.calls) (p.marks ++ more) rest (changed || changes reply) =
      reaches-next P p.least p.done p.spare st p.after d.after p.calls d.calls p.marks phase rest changed ev reply p.least_one
      (subst (λ (L : Language). Begins L phase ev rest) same begins) d.steps
      (subst (λ (L : Language). Reaches L p.least p.done p.spare st p.after p.calls p.marks phase changed) same p.reaches) in
      let grown = step-keeps law P p.after d.after ev reply d.calls d.steps in
      let total_settled : settled_by settled (p.marks ++ more) ≡ settled_by now_settled more = settled-more settled p.marks more in
      let higher = settled-higher now_settled p.after.history d.calls p.runs.holds.within in
      record {
        calls = p.calls ++ d.calls;
        marks = p.marks ++ more;
        after = d.after;
        done = p.done + 1;
        least = 0;
        spare = p.spare + 1;
        total = omega (arith, p.total);
        reaches = reaches;
        drains = reaches-drains P (p.done + 1) (p.spare + 1) st d.after (p.calls ++ d.calls) (p.marks ++ more) rest (changed || changes reply) reaches;
        least_left = omega arith;
        least_one = omega arith;
        spared = λ is. omega arith;
        there = subst (λ (L : Language). AreThere L d.after rest) same there;
        told = d.told ∙ ap (λ (o : Option (List desk.Call)). told_after o d.calls) p.told ∙ told-append (asked from) p.calls d.calls;
        runs = subst (λ (k : ℕ). Runs told_size told_image may_leave new exec' d.after k) (settled-once now_settled p.after d.calls ∙ sym total_settled) d.runs;
        few_syncs =
            let e : length p.calls + length d.calls ≡ length (p.calls ++ d.calls) = sym (length-append p.calls d.calls) in
            subst (λ (k : ℕ). SyncsWithin (syncs from) (syncs new) (2 * k)) e (few-then (syncs from) (syncs now) (syncs new) (length p.calls) (length d.calls) p.few_syncs d.few_syncs);
        leaves = subst (λ (h : List Entry). LeavesKept moment reach said asked from new h settled (p.marks ++ more)) (sym grown.1)
            (leaves-next law from now new exec st settled turns (suc left) phase changed p grown.0 d.calls d.told leaves);
        said_same = same_said ∙ p.said_same;
        counts = omega (arith, asked-more p.marks more, asked-on p.after.history d.calls, p.counts, length-append p.calls d.calls);
        no_less = omega (arith, total_settled, higher.0, p.no_less);
        kept = subst (λ (k : ℕ). AreWithin k (p.marks ++ more)) (sym total_settled)
            (within-more (settled_by now_settled more) p.marks more (within-higher now_settled (settled_by now_settled more) p.marks higher.0 p.kept) higher.1);
      }

  pub reads-kept : (from now new : D) (exec : Exec) (st : State) (settled turns left : ℕ) (phase : Phase) (changed : Bool)
      → (p : PointAt from now exec st settled turns phase left changed)
      → ForSome (told_image new) (IsRead p.after.history (settled_by settled p.marks))
      → ForSome (told_image new) (IsKept p.after.history settled p.marks (length p.calls))
  reads-kept from now new exec st settled turns left phase changed p reads = λ image told.
      let here : List Entry → Type 0 = λ h. IsKept h settled p.marks (length p.calls) image in
      let h : List Entry = p.after.history in
      ⊎_elim
      (λ all. subst here (append-nil h) (kept-all h [] settled p.marks (length p.calls) image (omega (arith, p.no_less, p.runs.holds.within)) (within-higher (settled_by settled p.marks) (length h) p.marks p.runs.holds.within p.kept) all))
      (λ was. record {
        len = settled_by settled p.marks;
        within = p.runs.holds.within;
        settled_kept = p.no_less;
        owed_kept = owed-within (settled_by settled p.marks) p.marks 0 (length p.calls) p.kept;
        history_of = was;
      })
      (reads image told)

  -- no call was asked, or the disk has all that stood before it
  abbrev pub IsAllRead : D → List Entry → List Call → Type 0
  IsAllRead new h last = (last ≡ []) ⊎ ForSome (told_image new) (IsHistoryOf h)

  -- what is read once the next one has ended early
  pub reads-ended : (from now new : D) (exec : Exec) (st : State) (settled turns left : ℕ) (phase : Phase) (changed : Bool)
      → (p : PointAt from now exec st settled turns phase left changed) (last : List Call)
      → ForSome (told_image new) (IsRead p.after.history (settled_by settled p.marks))
      → IsAllRead new p.after.history last
      → ForSome (told_image new) (IsKept p.after.history settled (p.marks ++ marks_on p.after.history last) (length (p.calls ++ last)))
  reads-ended from now new exec st settled turns left phase changed p last reads all = λ image told.
      let h : List Entry = p.after.history in
      let more : List Mark = p.marks ++ marks_on h last in
      ⊎_elim
      (λ none.
      subst (λ (cs : List Call). IsKept h settled (p.marks ++ marks_on h cs) (length (p.calls ++ cs)) image) (sym none)
      (subst (λ (ms : List Mark). IsKept h settled ms (length (p.calls ++ [])) image) (sym (append-nil p.marks))
      (subst (λ (cs : List Call). IsKept h settled p.marks (length cs) image) (sym (append-nil p.calls))
      (reads-kept from now new exec st settled turns left phase changed p reads image told))))
      (λ whole.
      subst (λ (es : List Entry). IsKept es settled more (length (p.calls ++ last)) image) (append-nil h)
      (kept-all h [] settled more (length (p.calls ++ last)) image (omega (arith, p.no_less, p.runs.holds.within))
      (within-more (length h) p.marks (marks_on h last) (within-higher (settled_by settled p.marks) (length h) p.marks p.runs.holds.within p.kept) (within-on h last))
      (whole image told)))
      all

  -- the next one ended early
  pub point-ends : OnlyAppends → (from now new : D) (exec : Exec) (P : Language) (st : State) (settled turns left : ℕ) (phase : Phase) (changed : Bool)
      → (p : PointAt from now exec st settled turns phase left changed)
      → language exec ≡ P
      → (last : List Call) → asked new ≡ told_after (asked now) last
      → IsOfNext (language exec) turns p.done st p.after p.calls p.marks last
      → Leaves moment reach said asked now new p.after.history (settled_by settled p.marks)
      → ForSome (told_image new) (IsRead p.after.history (settled_by settled p.marks))
      → SyncsWithin (syncs now) (syncs new) 2
      → IsAllRead new p.after.history last
      → EndsEarly told_image moment reach said asked syncs P from new st settled turns
  point-ends law from now new exec P st settled turns left phase changed p same last told of_next leaves reads few all = record {
    done = p.done;
    within = omega (arith, p.total);
    calls = p.calls;
    marks = p.marks;
    after = p.after;
    machine = subst (λ (L : Language). Drains L p.done st p.after p.calls p.marks) same p.drains;
    last = last;
    of_next = subst (λ (L : Language). IsOfNext L turns p.done st p.after p.calls p.marks last) same of_next;
    told = told ∙ ap (λ (o : Option (List desk.Call)). told_after o last) p.told ∙ told-append (asked from) p.calls last;
    few_syncs = few-by (syncs from) (syncs now) (syncs new) (2 * length p.calls) 2 (2 * length p.calls + 2) p.few_syncs few (omega arith);
    leaves = subst (λ (h : List Entry). LeavesKept moment reach said asked from new h settled (p.marks ++ marks_on p.after.history last)) (append-nil p.after.history)
        (leaves-next law from now new exec st settled turns left phase changed p [] last told leaves);
    reads = reads-ended from now new exec st settled turns left phase changed p last reads all;
  }

  -- its call was asked, or none
  pub of-next : (from now : D) (exec : Exec) (st : State) (settled turns left : ℕ) (phase rest : Phase) (changed : Bool) (ev : Event)
      → (p : PointAt from now exec st settled turns phase (suc left) changed)
      → Begins (language exec) phase ev rest
      → (answer : Option Outcome)
      → IsOfNext (language exec) turns p.done st p.after p.calls p.marks (stepped (language exec) p.after ev answer).calls
  of-next from now exec st settled turns left phase rest changed ev p begins answer =
      let P : Language = language exec in
      let o : Out = stepped P p.after ev answer in
      let s : Steps P p.after ev o.reply o.calls o.state = record { answer = answer; is = refl } in
      inr (
        omega (arith, p.total),
        o.state,
        reaches-drains P (p.done + 1) (p.spare + 1) st o.state (p.calls ++ o.calls) (p.marks ++ marks_on p.after.history o.calls) rest (changed || changes o.reply)
            (reaches-next P p.least p.done p.spare st p.after o.state p.calls o.calls p.marks phase rest changed ev o.reply p.least_one begins s p.reaches),
      )
