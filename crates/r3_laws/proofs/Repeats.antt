-- The machine on a made history's own events makes it again.
use Rattle.std.proofs.Common.{◌≡◌, ℕ, suc, ◌+◌, ◌&&◌, ◌<◌, ◌≤◌, Bool, true, false, List, [], ◌∷◌, ◌++◌, length, take, Option, Some, None, refl, sym, subst, ap, ◌∙◌, arith}
use Rattle.std.specs.Prelude.{slice_get, fold, filter_map, flat_map, nat_le, if◌then◌else◌}
use Rattle.std.specs.List.{enumerate_from, cons_option}
use Rattle.std.proofs.lemmas.List.{take_all}
use Rattle.r3_value.specs.declared.value.Val.{Val}
use Rattle.r3_entry.specs.declared.entry.Act.{Act}
use Rattle.r3_entry.specs.declared.entry.Act.TheVariants as acts
use Rattle.r3_entry.specs.declared.entry.Entry.{Entry}
use Rattle.r3_model.specs.Language.{Text, Language}
use Rattle.r3_model.specs.Event.{Event, Turn}
use Rattle.r3_model.specs.Machine.{State}
use Rattle.r3_model.specs.Run.{Trail, from_state, empty, next_by, run_by}
use Rattle.r3_model.specs.Schedule.{event_of, begun_by, begins, schedule}
use Rattle.r3_model.specs.Made.{IsMade}
use Rattle.r3_model.specs.Lawful.{IsLawful}
use Rattle.r3_model.specs.Verdict.{replay_answer, replayed}
use Rattle.r3_laws.proofs.Stages.{Stage, one, stays, begins-open}
use Rattle.r3_laws.proofs.TxnCases.{IsTxnOf}
use Rattle.r3_laws.proofs.Advances.{advances}

le-true : (m n : ℕ) → nat_le m n ≡ true → m ≤ n
le-true m n is = grind arith

true-le : (m n : ℕ) → m ≤ n → nat_le m n ≡ true
true-le m n le = grind arith

both : (a b : Bool) → (a && b) ≡ true → (a ≡ true) × (b ≡ true)
both true b is = (refl, is)
both false b is = absurd cc

-- whether an entry's workflow is to begin at i
pub data Begun (i : ℕ) (act : Act) (snap : ℕ) : Type 0 where
  begins_not : begun_by i act snap ≡ None → ((id : Text) → IsTxnOf id act → snap ≡ i → ⊥) → Begun i act snap
  begins_at : (id : Text) → begun_by i act snap ≡ Some (Turn id) → IsTxnOf id act → snap ≡ i → Begun i act snap

by_test : (i : ℕ) (id : Text) (n : ℕ) (args : Val) (snap : ℕ) (b : Bool) → (nat_le i snap && nat_le snap i) ≡ b → Begun i (acts.Txn id n args) snap
by_test i id n args snap true is =
    let t = both (nat_le i snap) (nat_le snap i) is in
    begins_at id (ap (λ (b : Bool). (if b then Some (Turn id) else None)) is) refl (omega (arith, le-true i snap t.0, le-true snap i t.1))
by_test i id n args snap false is =
    begins_not (ap (λ (b : Bool). (if b then Some (Turn id) else None)) is) (λ j txn same.
    let up : nat_le i snap ≡ true = true-le i snap (omega arith) in
    let down : nat_le snap i ≡ true = true-le snap i (omega arith) in
    let clash : true ≡ false = sym (ap (λ (b : Bool). b && nat_le snap i) up ∙ down) ∙ is in
    (let z : true ≡ false = clash in cc))

begun-of : (i : ℕ) (act : Act) (snap : ℕ) → Begun i act snap
begun-of i (acts.Txn id n args) snap = by_test i id n args snap (nat_le i snap && nat_le snap i) refl
begun-of i (acts.Program text) snap = begins_not refl (λ id txn same. txn)
begun-of i acts.Load snap = begins_not refl (λ id txn same. txn)
begun-of i (acts.Start j) snap = begins_not refl (λ id txn same. txn)
begun-of i (acts.Enqueue j) snap = begins_not refl (λ id txn same. txn)
begun-of i (acts.Dequeue j) snap = begins_not refl (λ id txn same. txn)
begun-of i (acts.Outside j n args) snap = begins_not refl (λ id txn same. txn)
begun-of i (acts.Child j n child) snap = begins_not refl (λ id txn same. txn)
begun-of i (acts.Await j n on) snap = begins_not refl (λ id txn same. txn)
begun-of i (acts.Finish j) snap = begins_not refl (λ id txn same. txn)
begun-of i (acts.Cancel j) snap = begins_not refl (λ id txn same. txn)
begun-of i (acts.Resume j) snap = begins_not refl (λ id txn same. txn)
begun-of i (acts.Fork j from below) snap = begins_not refl (λ id txn same. txn)
begun-of i (acts.Recover j) snap = begins_not refl (λ id txn same. txn)

fold-append : {S E : Type 0} (f : S → E → S) (s : S) (xs ys : List E) → fold f s (xs ++ ys) ≡ fold f (fold f s xs) ys
fold-append f s [] ys = refl
fold-append f s (x ∷ xs) ys = fold-append f (f s x) xs ys

module _ (P : Language) (lawful : IsLawful P) (h : List Entry) (made : IsMade P h) where
  abbrev go : State → List Event → State
  go st evs = fold (one P h made) st evs

  abbrev Rest : ℕ → List Entry → Type 0
  Rest i es = (k : ℕ) → slice_get h (i + k) ≡ slice_get es k

  head-is : (i : ℕ) (e : Entry) (es : List Entry) → Rest i (e ∷ es) → slice_get h i ≡ Some e
  head-is i e es rest = let z : i ≡ i + 0 = omega arith in ap (λ (j : ℕ). slice_get h j) z ∙ rest 0

  tail-is : (i : ℕ) (e : Entry) (es : List Entry) → Rest i (e ∷ es) → Rest (i + 1) es
  tail-is i e es rest k = let z : (i + 1) + k ≡ i + suc k = omega arith in ap (λ (j : ℕ). slice_get h j) z ∙ rest (suc k)

  counted : {i m n : ℕ} {st : State} → m ≡ n → Stage h i m st → Stage h i n st
  counted {i = i} {st = st} is stage = let Of : ℕ → Type 0 = λ k. Stage h i k st in subst Of is stage

  abbrev begun_in : ℕ → List Entry → List Event
  begun_in i es = filter_map (λ (e : Entry). begun_by i e.act e.snap) es

  begin-all : (i m : ℕ) (st : State) (es : List Entry) → Rest m es → Stage h i m st → Stage h i (m + length es) (go st (begun_in i es))
  begin-all i m st [] rest stage = counted (let z : m ≡ m + 0 = omega arith in z) stage
  begin-all i m st (e ∷ es) rest stage =
      let at : slice_get h m ≡ Some e = head-is m e es rest in
      let count : (m + 1) + length es ≡ m + suc (length es) = omega arith in
      let Of : Option Event → Type 0 = λ o. Stage h i (m + suc (length es)) (go st (cons_option o (begun_in i es))) in
      elim (begun-of i e.act e.snap) [
        | begins_not is other ↦ subst Of (sym is) (counted count (begin-all i (m + 1) st es (tail-is m e es rest) (stays P h made i m st stage e at other)))
        | begins_at id is txn snap ↦ subst Of (sym is) (counted count (begin-all i (m + 1) (one P h made st (Turn id)) es (tail-is m e es rest) (begins-open P h made i m st stage e at id txn snap)))
      ]

  abbrev events_from : ℕ → List Entry → List Event
  events_from i es = flat_map (λ (p : ℕ × Entry). begins h p.0 ++ event_of p.1 ∷ []) (enumerate_from i es)

  all-entries : (i : ℕ) (st : State) (es : List Entry) → Rest i es → Stage h i 0 st → (go st (events_from i es)).history ≡ take (i + length es) h
  all-entries i st [] rest stage = stage.history ∙ (let z : i ≡ i + 0 = omega arith in ap (λ (k : ℕ). take k h) z)
  all-entries i st (e ∷ es) rest stage =
      let begun : Stage h i (0 + length h) (go st (begins h i)) = begin-all i 0 st h (λ k. let z : 0 + k ≡ k = omega arith in ap (λ (j : ℕ). slice_get h j) z) stage in
      let after : Stage h (i + 1) 0 (one P h made (go st (begins h i)) (event_of e)) = advances P lawful h made i (0 + length h) (go st (begins h i)) begun e (head-is i e es rest) (omega arith) in
      let count : (i + 1) + length es ≡ i + suc (length es) = omega arith in
      ap (λ (s : State). s.history) (fold-append (one P h made) st (begins h i ++ event_of e ∷ []) (events_from (i + 1) es))
      ∙ ap (λ (s : State). (go s (events_from (i + 1) es)).history) (fold-append (one P h made) st (begins h i) (event_of e ∷ []))
      ∙ all-entries (i + 1) (one P h made (go st (begins h i)) (event_of e)) es (tail-is i e es rest) after
      ∙ ap (λ (k : ℕ). take k h) count

  run-state : (t : Trail) (evs : List Event) → (run_by P (replay_answer h) t evs).state ≡ go t.state evs
  run-state t [] = refl
  run-state t (ev ∷ evs) = run-state (next_by P (replay_answer h) t ev) evs

  at_first : Stage h 0 0 empty
  at_first = record {
    history = refl;
    wanted = λ id s found. absurd (let z : None ≡ Some s = found in cc);
    begun = λ id s p. let z : s ≡ 0 = omega (arith, p.early) in let lt : p.index < 0 = p.when z in absurd (omega arith);
  }

  pub repeats : replayed P h ≡ h
  repeats =
      ap (λ (s : State). s.history) (run-state (from_state empty []) (schedule h))
      ∙ all-entries 0 empty h (λ k. let z : 0 + k ≡ k = omega arith in ap (λ (j : ℕ). slice_get h j) z) at_first
      ∙ take_all (0 + length h) h (omega arith)

pub repeats-made : (P : Language) (h : List Entry) → IsLawful P → IsMade P h → replayed P h ≡ h
repeats-made P h lawful made = repeats P lawful h made
