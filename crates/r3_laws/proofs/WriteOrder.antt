-- The writes of a transaction's body rise by the order of keys.
use Rattle.std.proofs.Common.{◌≡◌, ℕ, Bool, true, false, cond, ◌&&◌, ◌||◌, List, [], ◌∷◌, Option, refl, sym, ap, ◌∙◌}
use Rattle.std.specs.Prelude.{map, if◌then◌else◌, nat_lt, nat_eq}
use Rattle.std.specs.Str.{bytes_eq}
use Rattle.std.specs.Ordering.{is_eq, is_lt, ordering_then, ordering_reverse}
use Rattle.std.specs.FinMap.Entries.{put, is_sorted, is_sorted-put, by_order}
use Rattle.std.specs.declared.cmp.Ordering.{Ordering}
use Rattle.std.specs.declared.cmp.Ordering.TheVariants.{Less, Equal, Greater}
use Rattle.std.proofs.lemmas.Cmp.{nat_list_cmp_total}
use Rattle.std.proofs.lemmas.Map.Text.{is_eq-slice_cmp}
use Rattle.r3_value.specs.declared.value.Val.{Val}
use Rattle.r3_rows.specs.declared.rows.Key.{Key}
use Rattle.r3_rows.specs.declared.rows.Key.TheVariants as keys
use Rattle.r3_rows.specs.declared.rows.Cell.{Cell}
use Rattle.r3_rows.specs.Keys.{key_cmp, bytes_cmp}
use Rattle.r3_rows.specs.KeyOrder.{key_cmp-total, key_cmp-same}
use Rattle.fn_tree.specs.Comparison.{bytes_lt}
use Rattle.fn_tree.specs.Writes.{Write, is_at, is_before, with_write}
use Rattle.r3_model.specs.Acts.{put_write, value_cell}
use Rattle.r3_laws.proofs.InOrder.{true_from, from_true}

-- ---- the tests of texts are those of their order

lt-cases : (a b r : Bool) (o : Ordering) → r ≡ is_lt o → (a || (b && r)) ≡ is_lt (ordering_then (cond a Less (cond b Equal Greater)) o)
lt-cases true b r o e = refl
lt-cases false true r o e = e
lt-cases false false r o e = refl

lt-is : (s t : List ℕ) → bytes_lt s t ≡ is_lt (bytes_cmp s t)
lt-is [] [] = refl
lt-is [] (y ∷ t) = refl
lt-is (x ∷ s) [] = refl
lt-is (x ∷ s) (y ∷ t) = lt-cases (nat_lt x y) (nat_eq x y) (bytes_lt s t) (bytes_cmp s t) (lt-is s t)

eq-reversed : (o : Ordering) → is_eq (ordering_reverse o) ≡ is_eq o
eq-reversed Less = refl
eq-reversed Equal = refl
eq-reversed Greater = refl

-- either way round
eq-is : (s t : List ℕ) → bytes_eq t s ≡ is_eq (bytes_cmp s t)
eq-is s t = sym (is_eq-slice_cmp t s) ∙ ap (λ (o : Ordering). is_eq o) (nat_list_cmp_total.antisymm t s) ∙ eq-reversed (bytes_cmp s t)

-- ---- a write is put in its place

by_tests : {X : Type 0} (a b : Ordering) (l e g : X) → (if is_eq a && is_eq b then e else if is_lt a || (is_eq a && is_lt b) then l else g) ≡ by_order (ordering_then a (ordering_then b Equal)) l e g
by_tests Less Less l e g = refl
by_tests Less Equal l e g = refl
by_tests Less Greater l e g = refl
by_tests Equal Less l e g = refl
by_tests Equal Equal l e g = refl
by_tests Equal Greater l e g = refl
by_tests Greater Less l e g = refl
by_tests Greater Equal l e g = refl
by_tests Greater Greater l e g = refl

same-order : {X : Type 0} (o : Ordering) (l e e' g g' : X) → (o ≡ Equal → e ≡ e') → g ≡ g' → by_order o l e g ≡ by_order o l e' g'
same-order Less l e e' g g' h k = refl
same-order Equal l e e' g g' h k = h refl
same-order Greater l e e' g g' h k = k

abbrev Pairs : Type 0
Pairs = List (Key × Option Cell)

mapped : (c d : Bool) (x y z : List Write) → map put_write (if c then x else if d then y else z) ≡ (if c then map put_write x else if d then map put_write y else map put_write z)
mapped true d x y z = refl
mapped false true x y z = refl
mapped false false x y z = refl

at-is : (table key : List ℕ) (w : Write) → is_at table key w ≡ (is_eq (bytes_cmp table w.0) && is_eq (bytes_cmp key w.1))
at-is table key w = ap (λ (b : Bool). b && bytes_eq w.1 key) (eq-is table w.0) ∙ ap (λ (b : Bool). is_eq (bytes_cmp table w.0) && b) (eq-is key w.1)

before-is : (table key : List ℕ) (w : Write) → is_before table key w ≡ (is_lt (bytes_cmp table w.0) || (is_eq (bytes_cmp table w.0) && is_lt (bytes_cmp key w.1)))
before-is table key w =
    ap (λ (b : Bool). b || (bytes_eq table w.0 && bytes_lt key w.1)) (lt-is table w.0)
    ∙ ap (λ (b : Bool). is_lt (bytes_cmp table w.0) || (b && bytes_lt key w.1)) (sym (is_eq-slice_cmp table w.0))
    ∙ ap (λ (b : Bool). is_lt (bytes_cmp table w.0) || (is_eq (bytes_cmp table w.0) && b)) (lt-is key w.1)

pub with_write-puts : (ws : List Write) (table key : List ℕ) (left : Option Val) → map put_write (with_write ws table key left) ≡ put key_cmp (keys.User table key) (value_cell left) (map put_write ws)
with_write-puts [] table key left = refl
with_write-puts (w ∷ ws) table key left =
    let k : Key = keys.User table key in
    let a : Ordering = bytes_cmp table w.0 in
    let b : Ordering = bytes_cmp key w.1 in
    let l : Pairs = (k, value_cell left) ∷ put_write w ∷ map put_write ws in
    let e : Pairs = (k, value_cell left) ∷ map put_write ws in
    let e' : Pairs = (keys.User w.0 w.1, value_cell left) ∷ map put_write ws in
    let g : Pairs = put_write w ∷ map put_write (with_write ws table key left) in
    let g' : Pairs = put_write w ∷ put key_cmp k (value_cell left) (map put_write ws) in
    mapped (is_at table key w) (is_before table key w) ((table, key, left) ∷ ws) ((table, key, left) ∷ w ∷ ws) (w ∷ with_write ws table key left)
    ∙ ap (λ (c : Bool). (if c then e else if is_before table key w then l else g)) (at-is table key w)
    ∙ ap (λ (d : Bool). (if is_eq a && is_eq b then e else if d then l else g)) (before-is table key w)
    ∙ by_tests a b l e g
    ∙ same-order (ordering_then a (ordering_then b Equal)) l e e' g g' (λ tie. ap (λ (x : Key). (x, value_cell left) ∷ map put_write ws) (key_cmp-same k (keys.User w.0 w.1) tie)) (ap (λ (x : Pairs). put_write w ∷ x) (with_write-puts ws table key left))

pub with_write-rises : (ws : List Write) (table key : List ℕ) (left : Option Val) → is_sorted key_cmp (map put_write ws) ≡ true → is_sorted key_cmp (map put_write (with_write ws table key left)) ≡ true
with_write-rises ws table key left rises =
    ap (λ (x : Pairs). is_sorted key_cmp x) (with_write-puts ws table key left)
    ∙ true_from _ (is_sorted-put key_cmp key_cmp-total (keys.User table key) (value_cell left) (map put_write ws) (from_true _ rises))
