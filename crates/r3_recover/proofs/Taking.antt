-- One dequeue or turn of a drain, as it was done or ended early.
use Rattle.std.proofs.Common.{◌≡◌, ◌⊎◌, inl, inr, ℕ, zero, suc, ◌+◌, ◌-◌, ◌<◌, ◌≤◌, Bool, ◌||◌, List, [], ◌∷◌, ◌++◌, length, take, drop, get_or, Option, Some, None, Ok, Result, refl, sym, ap, ◌∙◌, subst, ⊎_elim, arith}
use Rattle.std.proofs.lemmas.List.{drop_more, drop_all}
use Rattle.std.specs.Option.{ForSome}
use Rattle.r3_value.specs.declared.value.Outcome.{Outcome}
use Rattle.r3_entry.specs.declared.entry.Entry.{Entry}
use Rattle.r3_entry.specs.Formed.{IsFormed}
use Rattle.r3_entry.specs.Image.{IsHistoryOf}
use Rattle.r3_desk.specs.Asked as desk
use Rattle.r3_desk.specs.Causes.{Rose}
use Rattle.r3_desk.specs.Crash.{Reach}
use Rattle.fn_tree.specs.declared.flow.Request.{Request}
use Rattle.r3_model.specs.Language.{Text, Language}
use Rattle.r3_model.specs.Event.{Call, Dequeue, Event, Reply, Turn}
use Rattle.r3_model.specs.Drain.{changes}
use Rattle.r3_model.specs.Laws.{OnlyAppends}
use Rattle.r3_model.specs.Machine.{Out, State, call_with, calls_of}
use Rattle.r3_model.specs.Turns.{call_of_turn}
use Rattle.r3_laws.specs.OfPending.{RowsFollow, RowsTell}
use Rattle.r3_exec.specs.Runs.{Runs, language}
use Rattle.r3_exec.specs.Does.{AskedFirst, Does, IsRead, Leaves, SyncsWithin, told_after}
use Rattle.r3_exec.proofs.Syncs.{no_more}
use Rattle.r3_exec.specs.declared.exec.Exec.{Exec}
use Rattle.r3_exec.specs.declared.ends.ExecFault.{ExecFault}
use Rattle.r3_exec.specs.declared.ends.TurnEnd.{TurnEnd}
use Rattle.r3_exec.specs.declared.ends.TurnEnd.TheVariants as turns
use Rattle.r3_recover.specs.Kept.{settled_by}
use Rattle.r3_recover.specs.Drained.{EndsEarly, IsOfNext, Raised}
use Rattle.r3_recover.specs.Rounds.{AreThere, Phase, Point, Queues, Turns}
use Rattle.r3_recover.proofs.Leaving.{told-none}
use Rattle.r3_recover.proofs.Phases.{queue-begins, turn-begins}
use Rattle.r3_recover.proofs.Points.{IsAllRead, of-next, point-ends, point-next}
use Rattle.r3_recover.proofs.There.{all-stay}

-- ---- what is left of a list

first-left : (xs : List Text) (i : ℕ) (x : Text) → i < length xs → x ≡ get_or xs i x → drop i xs ≡ x ∷ drop (i + 1) xs
first-left xs i x lt is = drop_more xs i x lt ∙ ap (λ (y : Text). y ∷ drop (i + 1) xs) (sym is)

none-left : (xs : List Text) (i : ℕ) → length xs ≤ i → drop i xs ≡ []
none-left xs i le = drop_all i xs le

pub with-first : (Q : List Text → Type 0) (xs : List Text) (i : ℕ) (x : Text) → i < length xs → x ≡ get_or xs i x → Q (drop i xs) → Q (x ∷ drop (i + 1) xs)
with-first Q xs i x lt is q = subst Q (first-left xs i x lt is) q

pub with-none : (Q : List Text → Type 0) (xs : List Text) (i : ℕ) → length xs ≤ i → Q (drop i xs) → Q []
with-none Q xs i le q = subst Q (none-left xs i le) q

-- ---- counts of faults

pub raised-then : (m n a b c : ℕ) → Raised m a b → Raised n b c → (k : ℕ) × Raised k a c
raised-then m zero a b c first second = (m, subst (λ (x : ℕ). Raised m a x) (sym second) first)
raised-then m (suc n) a b c first second =
    let x = raised-then m n a b second.0 first second.1 in
    (suc x.0, (second.0, x.1, second.2))

abbrev IsAgain : TurnEnd → Type 0
IsAgain end = ◌≡◌ {A = Result TurnEnd ExecFault} (Ok end) (Ok turns.Again)

-- a turn raises the count once where its call has failed
pub raised-once : (end : TurnEnd) (a b : ℕ) → (IsAgain end → Rose a b) → ((IsAgain end → ⊥) → b ≡ a) → (n : ℕ) × Raised n a b
raised-once (turns.None status) a b rose same = (0, same (λ (is : IsAgain (turns.None status)). cc))
raised-once (turns.Began snap) a b rose same = (0, same (λ (is : IsAgain (turns.Began snap)). cc))
raised-once (turns.Entry number) a b rose same = (0, same (λ (is : IsAgain (turns.Entry number)). cc))
raised-once (turns.Conflict entry) a b rose same = (0, same (λ (is : IsAgain (turns.Conflict entry)). cc))
raised-once (turns.Waiting id) a b rose same = (0, same (λ (is : IsAgain (turns.Waiting id)). cc))
raised-once turns.Again a b rose same = (1, (a, refl, rose refl))
raised-once (turns.Unexpected n recorded asked) a b rose same = (0, same (λ (is : IsAgain (turns.Unexpected n recorded asked)). cc))
raised-once (turns.Full limit) a b rose same = (0, same (λ (is : IsAgain (turns.Full limit)). cc))

-- ---- of one call

take-none : (m : ℕ) → ◌≡◌ {A = List Call} (take m []) []
take-none zero = refl
take-none (suc m) = refl

none-or-all : (made : ℕ) (cs : List Call) → length cs ≤ 1 → (take made cs ≡ []) ⊎ (take made cs ≡ cs)
none-or-all zero cs few = inl refl
none-or-all (suc m) [] few = inl refl
none-or-all (suc m) (c ∷ []) few = inr (ap (λ (xs : List Call). c ∷ xs) (take-none m))
none-or-all (suc m) (c ∷ d ∷ cs) few = absurd (omega (arith, few))

one-at-most : (P : Language) (h : List Entry) (id : Text) (answer : Option Outcome) (o : Option Request) → length (call_with P h id answer o) ≤ 1
one-at-most P h id answer None = omega arith
one-at-most P h id answer (Some q) = omega arith

module _ {D : Type 0} (told_size : D → Option ℕ) (told_image : D → Option (List ℕ)) (may_leave : D → List ℕ → Type 0) (moment : D → ℕ) (reach : D → Reach) (said : D → Option (List ℕ)) (asked : D → Option (List desk.Call)) (syncs : D → Option ℕ) where
  abbrev At : D → D → Exec → State → ℕ → ℕ → Phase → ℕ → Bool → Type 0
  At from now exec st settled turns phase left changed =
      Point told_size told_image may_leave moment reach said asked syncs from now exec st settled turns phase left changed

  -- what an event has left, from any state
  abbrev EachLeaves : D → D → Exec → Type 0
  EachLeaves now new exec = (s : State) (k : ℕ) → Runs told_size told_image may_leave now exec s k → Leaves moment reach said asked now new s.history k

  abbrev EachReads : D → D → Exec → Type 0
  EachReads now new exec = (s : State) (k : ℕ) → Runs told_size told_image may_leave now exec s k → ForSome (told_image new) (IsRead s.history k)

  abbrev EachDoes : D → D → Exec → Exec → Event → Reply → Type 0
  EachDoes now new exec exec' ev reply = (s : State) (k : ℕ) → Runs told_size told_image may_leave now exec s k → Does told_size told_image may_leave asked syncs now new exec' s k ev reply

  abbrev EachAsks : D → D → Exec → Event → Type 0
  EachAsks now new exec ev = (s : State) (k : ℕ) → Runs told_size told_image may_leave now exec s k → AskedFirst (language exec) s ev (asked now) (asked new)

  -- where it failed nothing was asked, or the disk has all that stood before it
  abbrev EachAsked : D → D → Exec → Type 0
  EachAsked now new exec = (s : State) (k : ℕ) → Runs told_size told_image may_leave now exec s k → (asked new ≡ asked now) ⊎ ForSome (told_image new) (IsHistoryOf s.history)

  abbrev Early : D → D → Exec → State → ℕ → ℕ → Type 0
  Early from new exec st settled turns = EndsEarly told_image moment reach said asked syncs (language exec) from new st settled turns

  one-left : (from now : D) (exec : Exec) (st : State) (settled turns left : ℕ) (phase : Phase) (changed : Bool) → 0 < left
      → At from now exec st settled turns phase left changed → At from now exec st settled turns phase (suc (left - 1)) changed
  one-left from now exec st settled turns left phase changed some p =
      let is : left ≡ suc (left - 1) = omega (arith, some) in
      subst (λ (n : ℕ). At from now exec st settled turns phase n changed) is p

  same-point : (from now : D) (exec : Exec) (st : State) (settled turns left left' : ℕ) (phase : Phase) (changed changed' : Bool) → left' ≡ left → changed' ≡ changed
      → At from now exec st settled turns phase left changed → At from now exec st settled turns phase left' changed'
  same-point from now exec st settled turns left left' phase changed changed' same is p =
      subst (λ (n : ℕ). At from now exec st settled turns phase n changed') (sym same)
      (subst (λ (b : Bool). At from now exec st settled turns phase left b) (sym is) p)

  -- ---- a dequeue

  pub dequeue-done : OnlyAppends → (from now new : D) (exec exec' : Exec) (st : State) (settled turns left left' : ℕ) (name passed : Text) (names : List Text) (changed changed' : Bool) (reply : Reply)
      → At from now exec st settled turns (Queues (name ∷ names)) left changed → passed ≡ name → 0 < left → left' ≡ left - 1 → changed' ≡ changed || changes reply
      → exec'.program ≡ exec.program → EachDoes now new exec exec' (Dequeue passed) reply → EachLeaves now new exec → said new ≡ said now
      → At from new exec' st settled turns (Queues names) left' changed'
  dequeue-done law from now new exec exec' st settled turns left left' name passed names changed changed' reply point same_name some less is program passed_does leaves same_said =
      let does = subst (λ (q : Text). EachDoes now new exec exec' (Dequeue q) reply) same_name passed_does in
      let p = one-left from now exec st settled turns left (Queues (name ∷ names)) changed some point in
      let k : ℕ = settled_by settled p.marks in
      same-point from new exec' st settled turns (left - 1) left' (Queues names) (changed || changes reply) changed' less is
      (point-next told_size told_image may_leave moment reach said asked syncs law from now new exec exec' st settled turns (left - 1) (Queues (name ∷ names)) (Queues names) changed (Dequeue name) reply
      p (queue-begins (language exec) name names) program (does p.after k p.runs) (leaves p.after k p.runs) same_said p.there.1)

  pub dequeue-ends : OnlyAppends → (from now new : D) (exec : Exec) (st : State) (settled turns left : ℕ) (phase : Phase) (changed : Bool)
      → At from now exec st settled turns phase left changed → asked new ≡ asked now → syncs new ≡ syncs now → EachLeaves now new exec → EachReads now new exec
      → Early from new exec st settled turns
  dequeue-ends law from now new exec st settled turns left phase changed p same same_syncs leaves reads =
      let k : ℕ = settled_by settled p.marks in
      point-ends told_size told_image may_leave moment reach said asked syncs law from now new exec (language exec) st settled turns left phase changed p refl
      [] (same ∙ told-none (asked now)) (inl refl) (leaves p.after k p.runs) (reads p.after k p.runs)
      (no_more (syncs now) (syncs new) same_syncs 2) (inl refl)

  -- ---- a turn

  pub turn-done : OnlyAppends → RowsFollow → RowsTell → (from now new : D) (exec exec' : Exec) (st : State) (settled turns left left' : ℕ) (id passed : Text) (ids : List Text) (changed changed' : Bool) (reply : Reply)
      → At from now exec st settled turns (Turns (id ∷ ids)) left changed → passed ≡ id → 0 < left → left' ≡ left - 1 → changed' ≡ changed || changes reply
      → exec'.program ≡ exec.program → EachDoes now new exec exec' (Turn passed) reply → EachLeaves now new exec → said new ≡ said now
      → At from new exec' st settled turns (Turns ids) left' changed'
  turn-done law follow tell from now new exec exec' st settled turns left left' id passed ids changed changed' reply point same_id some less is program passed_does leaves same_said =
      let does = subst (λ (i : Text). EachDoes now new exec exec' (Turn i) reply) same_id passed_does in
      let p = one-left from now exec st settled turns left (Turns (id ∷ ids)) changed some point in
      let k : ℕ = settled_by settled p.marks in
      let d = does p.after k p.runs in
      let grown = law (language exec') p.after (Turn id) (d.steps.answer ∷ []) in
      let history : d.after.history ≡ p.after.history ++ grown.0 = sym (ap (λ (o : Out). o.state.history) d.steps.is) ∙ grown.2 in
      let there : AreThere (language exec) (record { history = p.after.history ++ grown.0; begun = d.after.begun }) (Turns ids) =
      all-stay follow tell p.after.history grown.0 ids grown.1 (subst (λ (h : List Entry). IsFormed h) history d.runs.stands.valid.formed) p.there.1 in
      same-point from new exec' st settled turns (left - 1) left' (Turns ids) (changed || changes reply) changed' less is
      (point-next told_size told_image may_leave moment reach said asked syncs law from now new exec exec' st settled turns (left - 1) (Turns (id ∷ ids)) (Turns ids) changed (Turn id) reply
      p (turn-begins (language exec) id ids) program d (leaves p.after k p.runs) same_said
      (subst (λ (h : List Entry). AreThere (language exec) (record { history = h; begun = d.after.begun }) (Turns ids)) (sym history) there))

  pub turn-ends : OnlyAppends → (from now new : D) (exec : Exec) (st : State) (settled turns left : ℕ) (id passed : Text) (ids : List Text) (changed : Bool)
      → At from now exec st settled turns (Turns (id ∷ ids)) left changed → passed ≡ id → 0 < left
      → EachAsks now new exec (Turn passed) → EachAsked now new exec → SyncsWithin (syncs now) (syncs new) 2
      → EachLeaves now new exec → EachReads now new exec
      → Early from new exec st settled turns
  turn-ends law from now new exec st settled turns left id passed ids changed point same_id some passed_early kept few leaves reads =
      let early = subst (λ (i : Text). EachAsks now new exec (Turn i)) same_id passed_early in
      let P : Language = language exec in
      let phase : Phase = Turns (id ∷ ids) in
      let p = one-left from now exec st settled turns left phase changed some point in
      let k : ℕ = settled_by settled p.marks in
      let first = early p.after k p.runs in
      let calls : List Call = calls_of P p.after.history (Turn id) first.0 in
      let ended : (last : List Call) → asked new ≡ told_after (asked now) last → IsOfNext P turns p.done st p.after p.calls p.marks last
      → IsAllRead told_size told_image may_leave moment reach said asked syncs new p.after.history last → Early from new exec st settled turns =
      λ last told next all. point-ends told_size told_image may_leave moment reach said asked syncs law from now new exec P st settled turns (suc (left - 1)) phase changed p refl
      last told next (leaves p.after k p.runs) (reads p.after k p.runs) few all in
      let as_told : (last : List Call) → take first.1 calls ≡ last → asked new ≡ told_after (asked now) last =
      λ last e. first.2 ∙ ap (λ (cs : List Call). told_after (asked now) cs) e in
      ⊎_elim
      (λ same. ended [] (same ∙ told-none (asked now)) (inl refl) (inl refl))
      (λ whole.
      ⊎_elim
      (λ none. ended [] (as_told [] none) (inl refl) (inl refl))
      (λ all. ended calls (as_told calls all)
      (of-next told_size told_image may_leave moment reach said asked syncs from now exec st settled turns (left - 1) phase (Turns ids) changed (Turn id) p (turn-begins P id ids) first.0)
      (inr whole))
      (none-or-all first.1 calls (one-at-most P p.after.history id first.0 (call_of_turn P p.after.history id))))
      (kept p.after k p.runs)
