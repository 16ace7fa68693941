-- Between a transaction's snapshot and its entry no entry writes a row of its workflow.
use Rattle.std.proofs.Common.{◌≡◌, ℕ, suc, zero, ◌+◌, ◌-◌, ◌<◌, ◌≤◌, List, [], ◌∷◌, ◌++◌, map, length, take, drop, Some, None, refl, sym, subst, ap, ◌∙◌, arith, take-append-drop}
use Rattle.std.specs.Prelude.{slice_get}
use Rattle.std.specs.List.{AllByRecursion}
use Rattle.r3_rows.specs.declared.rows.StepRow.{StepRow}
use Rattle.r3_entry.specs.declared.entry.Act.{Act}
use Rattle.r3_entry.specs.declared.entry.Act.TheVariants as acts
use Rattle.r3_entry.specs.declared.entry.Entry.{Entry}
use Rattle.r3_model.specs.Language.{Text, Language}
use Rattle.r3_model.specs.Rows.{flow_at, steps_at, answer_of}
use Rattle.r3_model.specs.Turns.{writer_past}
use Rattle.r3_model.specs.Made.{Agrees, AreOwnUnwritten, id_of, is_own}
use Rattle.r3_laws.proofs.Frame.{IsQuiet}
use Rattle.r3_laws.proofs.OpenNow.{past-quiet, flow_at-quiet, steps_at-quiet}
use Rattle.r3_laws.proofs.TxnCases.{IsTxnOf, AsksTxnNow, case-txn}
use Rattle.r3_laws.proofs.ToldMade.{agrees-case}

module _ {X : Type 0} where
  pub all-at : (A : X → Type 0) (xs : List X) (k : ℕ) (x : X) → AllByRecursion A xs → slice_get xs k ≡ Some x → A x
  all-at A [] k x all is = absurd (let z : None ≡ Some x = is in cc)
  all-at A (y ∷ ys) zero x all is = let same : y ≡ x = (let z : Some y ≡ Some x = is in cc) in subst A same all.0
  all-at A (y ∷ ys) (suc k) x all is = all-at A ys k x all.1 is

  pub drop-at : (s k : ℕ) (xs : List X) → slice_get (drop s xs) k ≡ slice_get xs (k + s)
  drop-at zero k xs = let z : k ≡ k + 0 = omega arith in ap (λ (j : ℕ). slice_get xs j) z
  drop-at (suc s) k [] = refl
  drop-at (suc s) k (x ∷ xs) = let z : suc (k + s) ≡ k + suc s = omega arith in drop-at s k xs ∙ ap (λ (j : ℕ). slice_get (x ∷ xs) j) z

  pub take-at : (b k : ℕ) (xs : List X) → k < b → slice_get (take b xs) k ≡ slice_get xs k
  take-at zero k xs lt = absurd (omega arith)
  take-at (suc b) k [] lt = refl
  take-at (suc b) zero (x ∷ xs) lt = refl
  take-at (suc b) (suc k) (x ∷ xs) lt = take-at b k xs (omega arith)

  pub take-shorter : (a b : ℕ) (xs : List X) → a ≤ b → take a (take b xs) ≡ take a xs
  take-shorter zero b xs le = refl
  take-shorter (suc a) zero xs le = absurd (omega arith)
  take-shorter (suc a) (suc b) [] le = refl
  take-shorter (suc a) (suc b) (x ∷ xs) le = ap (λ (l : List X). x ∷ l) (take-shorter a b xs (omega arith))

  take-suc : (k : ℕ) (xs : List X) (x : X) → slice_get xs k ≡ Some x → take (suc k) xs ≡ take k xs ++ x ∷ []
  take-suc k [] x is = absurd (let z : None ≡ Some x = is in cc)
  take-suc zero (y ∷ ys) x is = let same : y ≡ x = (let z : Some y ≡ Some x = is in cc) in ap (λ (z : X). z ∷ []) same
  take-suc (suc k) (y ∷ ys) x is = ap (λ (l : List X). y ∷ l) (take-suc k ys x is)

  pub take-next : (k : ℕ) (xs : List X) (x : X) → slice_get xs k ≡ Some x → take (k + 1) xs ≡ take k xs ++ x ∷ []
  take-next k xs x is = let z : k + 1 ≡ suc k = omega arith in ap (λ (j : ℕ). take j xs) z ∙ take-suc k xs x is

own-of : (h : List Entry) (s : ℕ) (id : Text) (act : Act) → IsTxnOf id act → AreOwnUnwritten h s (id_of act) → writer_past h s (is_own id) ≡ None
own-of h s id (acts.Txn i n args) txn own = ap (λ (x : Text). writer_past h s (is_own x)) (sym txn) ∙ own
own-of h s id (acts.Program text) txn own = absurd txn
own-of h s id acts.Load txn own = absurd txn
own-of h s id (acts.Start i) txn own = absurd txn
own-of h s id (acts.Enqueue i) txn own = absurd txn
own-of h s id (acts.Dequeue i) txn own = absurd txn
own-of h s id (acts.Outside i n args) txn own = absurd txn
own-of h s id (acts.Child i n child) txn own = absurd txn
own-of h s id (acts.Await i n on) txn own = absurd txn
own-of h s id (acts.Finish i) txn own = absurd txn
own-of h s id (acts.Cancel i) txn own = absurd txn
own-of h s id (acts.Resume i) txn own = absurd txn
own-of h s id (acts.Fork i from below) txn own = absurd txn
own-of h s id (acts.Recover i) txn own = absurd txn

-- e is a Txn entry of id, on what stands in g before it
module _ (P : Language) (g : List Entry) (e : Entry) (a : Agrees P g e) (id : Text) (txn : IsTxnOf id e.act) where
  later-quiet : AllByRecursion (IsQuiet id) (drop e.snap g)
  later-quiet = past-quiet g e.snap id (own-of g e.snap id e.act txn a.own)

  pub between-quiet : (k : ℕ) (x : Entry) → e.snap ≤ k → slice_get g k ≡ Some x → IsQuiet id x
  between-quiet k x le is =
      let z : k ≡ (k - e.snap) + e.snap = omega arith in
      all-at (IsQuiet id) (drop e.snap g) (k - e.snap) x later-quiet (drop-at e.snap (k - e.snap) g ∙ ap (λ (j : ℕ). slice_get g j) (sym z) ∙ is)

  -- at its snapshot the workflow asked for the transaction already
  pub asked-then : AsksTxnNow P (take e.snap g) id
  asked-then =
      let n : AsksTxnNow P g id = case-txn P g e id txn (agrees-case P g e a) in
      let old : List Entry = take e.snap g in
      let whole : old ++ drop e.snap g ≡ g = take-append-drop e.snap g in
      let flows : flow_at g (length g) id ≡ flow_at old (length old) id = ap (λ (x : List Entry). flow_at x (length x) id) (sym whole) ∙ flow_at-quiet id old (drop e.snap g) later-quiet in
      let steps : steps_at g (length g) id ≡ steps_at old (length old) id = ap (λ (x : List Entry). steps_at x (length x) id) (sym whole) ∙ steps_at-quiet id old (drop e.snap g) later-quiet in
      record {
        row = n.row;
        there = sym flows ∙ n.there;
        runs = n.runs;
        request = n.request;
        asks = ap (λ (s : List StepRow). P.flow n.row.function n.row.args (map answer_of s)) (sym steps) ∙ n.asks;
        kind = n.kind;
      }
