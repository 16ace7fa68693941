-- The numbers from 0 on, one after another, and what is counted and summed over them.
use Rattle.std.proofs.Common.{◌≡◌, ℕ, zero, suc, ◌+◌, ℤ, pos, List, [], ◌∷◌, ◌++◌, map, fold, refl, sym, ap, ◌∙◌, arith}
use Rattle.std.specs.Prelude.{All, length, codes, cond, ◌+ℤ◌}
use Rattle.std.proofs.lemmas.List.Elements.{All-nil, All-cons, All-append}
use Rattle.r3_value.specs.declared.value.Val.{Val}
use Rattle.r3_value.specs.declared.value.Val.TheVariants as vals
use Rattle.r3_entry.specs.declared.entry.Entry.{Entry}
use Rattle.r3_model.specs.Language.{Text}
use Rattle.r3_model.specs.Rows.{row_at, flow_at}
use Rattle.r3_model.specs.Generator.{numbers, account, amount, flow_id, is_success, successes, total, summary}
use Rattle.r3_entry.specs.Limits.{IsRowKey, IsVal}
use Rattle.r3_reply.specs.Summary.{summary_data}
use Rattle.r3_lines.specs.Lines.{IsRow}

abbrev pub account_row : ℕ → Text × Val
account_row i = (account i, vals.Int (pos 1000))

-- one more number at the end
pub numbers-more : (i n : ℕ) → numbers i (suc n) ≡ numbers i n ++ (i + n) ∷ []
numbers-more i zero = ap (λ (k : ℕ). k ∷ []) (let e : i ≡ i + 0 = omega arith in e)
numbers-more i (suc n) =
    let e : i + 1 + n ≡ i + suc n = omega arith in
    ap (λ (ks : List ℕ). i ∷ ks) (numbers-more (i + 1) n ∙ ap (λ (k : ℕ). numbers (i + 1) n ++ k ∷ []) e)

pub numbers-next : (n : ℕ) → numbers 0 (n + 1) ≡ numbers 0 n ++ n ∷ []
numbers-next n =
    let next : n + 1 ≡ suc n = omega arith in
    let last : 0 + n ≡ n = omega arith in
    ap (λ (k : ℕ). numbers 0 k) next ∙ numbers-more 0 n ∙ ap (λ (k : ℕ). numbers 0 n ++ k ∷ []) last

pub fold-more : {A X : Type 0} (f : A → X → A) (a : A) (xs : List X) (x : X) → fold f a (xs ++ x ∷ []) ≡ f (fold f a xs) x
fold-more f a [] x = refl
fold-more f a (y ∷ ys) x = fold-more f (f a y) ys x

pub fold-next : {A : Type 0} (f : A → ℕ → A) (a : A) (n : ℕ) → fold f a (numbers 0 (n + 1)) ≡ f (fold f a (numbers 0 n)) n
fold-next f a n = ap (λ (ks : List ℕ). fold f a ks) (numbers-next n) ∙ fold-more f a (numbers 0 n) n

pub map-more : {X Y : Type 0} (f : X → Y) (xs : List X) (x : X) → map f (xs ++ x ∷ []) ≡ map f xs ++ f x ∷ []
map-more f [] x = refl
map-more f (y ∷ ys) x = ap (λ (ys : List _). f y ∷ ys) (map-more f ys x)

pub map-next : {Y : Type 0} (f : ℕ → Y) (n : ℕ) → map f (numbers 0 (n + 1)) ≡ map f (numbers 0 n) ++ f n ∷ []
map-next f n = ap (λ (ks : List ℕ). map f ks) (numbers-next n) ∙ map-more f (numbers 0 n) n

-- the rows of the first accounts, within their limits
pub record AccountRows (rows : List (Text × Val)) (i : ℕ) : Type 0 where
  pub is : rows ≡ map account_row (numbers 0 i)
  pub kept : All IsRow rows

pub rows-next : (rows : List (Text × Val)) (i : ℕ) (key : Text) → key ≡ account i → IsRowKey key → IsVal (vals.Int (pos 1000))
    → AccountRows rows i → AccountRows (rows ++ (key, vals.Int (pos 1000)) ∷ []) (i + 1)
rows-next rows i key is fits value r = record {
  is = ap (λ (k : Text). rows ++ (k, vals.Int (pos 1000)) ∷ []) is
      ∙ ap (λ (rs : List (Text × Val)). rs ++ account_row i ∷ []) r.is ∙ sym (map-next account_row i);
  kept = All-append IsRow rows ((key, vals.Int (pos 1000)) ∷ []) r.kept (All-cons IsRow (key, vals.Int (pos 1000)) [] (fits, value) (All-nil IsRow));
}

-- ---- the summary

pub successes-next : (h : List Entry) (i : ℕ) → successes h (i + 1) ≡ successes h i + cond (is_success (flow_at h (length h) (flow_id i))) 1 0
successes-next h i = fold-next (λ (a : ℕ) x. a + cond (is_success (flow_at h (length h) (flow_id x))) 1 0) 0 i

-- the sum of the first accounts
abbrev pub total_of : List Entry → ℕ → ℤ
total_of h i = fold (λ (sum : ℤ) i. sum +ℤ amount (row_at h (length h) (codes "acct") (account i))) (pos 0) (numbers 0 i)

pub total-next : (h : List Entry) (i : ℕ) → total_of h (i + 1) ≡ total_of h i +ℤ amount (row_at h (length h) (codes "acct") (account i))
total-next h i = fold-next (λ (sum : ℤ) x. sum +ℤ amount (row_at h (length h) (codes "acct") (account x))) (pos 0) i

pub summary-is : (h : List Entry) (starts entries success : ℕ) (sum : ℤ) → entries ≡ length h → success ≡ successes h starts → sum ≡ total h
    → summary_data entries success sum ≡ summary h starts
summary-is h starts entries success sum a b c =
    ap (λ (n : ℕ). summary_data n success sum) a
    ∙ ap (λ (n : ℕ). summary_data (length h) n sum) b
    ∙ ap (λ (z : ℤ). summary_data (length h) (successes h starts) z) c
