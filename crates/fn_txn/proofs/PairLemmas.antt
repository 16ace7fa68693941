-- A list with a pair that passes a limit passes it too.
use Rattle.std.proofs.Common.{◌≡◌, ℕ, zero, suc, ◌+◌, ◌<◌, ◌≤◌, Bool, true, false, List, [], ◌∷◌, ◌++◌, length, get_or, take, drop, map, Result, Ok, Err, refl, ap, sym, ◌∙◌, arith}
use Rattle.std.specs.Prelude.{nat_lt, if◌then◌else◌, codes, max}
use Rattle.std.proofs.lemmas.Bool.{ltb-true, lt-ltb, false≢true}
use Rattle.r3_value.specs.declared.fault.ValFault.{ValFault}
use Rattle.r3_value.specs.declared.fault.ValFault.TheVariants.{TooLarge, TooDeep}
use Rattle.r3_value.specs.declared.value.Outcome.{Outcome}
use Rattle.r3_value.specs.declared.value.Outcome.TheVariants.{Failure}
use Rattle.r3_value.specs.declared.value.Val.{Val}
use Rattle.r3_value.specs.declared.value.Val.TheVariants.{List as ListOf}
use Rattle.r3_value.specs.Made.{made_list}
use Rattle.r3_value.specs.Value.{list, weight, weights, depth, depths}
use Rattle.r3_value.specs.View.{value_of, items_of}
use Rattle.fn_tree.specs.Sequences.{list_or_size, value_or_size}
use Rattle.fn_tree.specs.Writes.{Row, pair_value}

weights_in : (before after : List Val) (v : Val) → weight (value_of v) ≤ weights (items_of (before ++ v ∷ after))
weights_in [] after v = omega arith
weights_in (w ∷ before) after v = omega (arith, weights_in before after v)

depths_in : (before after : List Val) (v : Val) → depth (value_of v) ≤ depths (items_of (before ++ v ∷ after))
depths_in [] after v = omega arith
depths_in (w ∷ before) after v = omega (arith, depths_in before after v)

-- the test of a list's limits, by its two tests
by_tests : (n : ℕ) (v : Val) (a b : Bool) → ((a ≡ false) → b ≡ true) → value_or_size (if a then Err (TooLarge n) else if b then Err TooDeep else Ok v) ≡ Failure (codes "size")
by_tests n v true b h = refl
by_tests n v false b h = ap (λ c. value_or_size (if c then Err TooDeep else Ok v)) (h refl)

-- what a list with an item is, where the item's list is refused
refused_by : (ws before after : List Val) (a b : Bool) → nat_lt 4096 (weight (list (items_of ws))) ≡ a → nat_lt 16 (depth (list (items_of ws))) ≡ b → (fault : ValFault) → (if a then Err (TooLarge (weight (list (items_of ws)))) else if b then Err TooDeep else Ok (ListOf (items_of ws))) ≡ Err fault → list_or_size (before ++ ListOf (items_of ws) ∷ after) ≡ Failure (codes "size")
unfolding list_or_size
refused_by ws before after true b wa db fault e =
    let all = before ++ ListOf (items_of ws) ∷ after in
    let heavy = weights_in before after (ListOf (items_of ws)) in
    let long : nat_lt 4096 (weight (list (items_of all))) ≡ true = lt-ltb 4096 (weight (list (items_of all))) (omega (arith, heavy, ltb-true 4096 (weight (list (items_of ws))) wa)) in
    by_tests (weight (list (items_of all))) (ListOf (items_of all)) (nat_lt 4096 (weight (list (items_of all)))) (nat_lt 16 (depth (list (items_of all)))) (λ no. absurd (false≢true (sym no ∙ long)))
refused_by ws before after false true wa db fault e =
    let all = before ++ ListOf (items_of ws) ∷ after in
    let deep = depths_in before after (ListOf (items_of ws)) in
    let far : nat_lt 16 (depth (list (items_of all))) ≡ true = lt-ltb 16 (depth (list (items_of all))) (omega (arith, deep, ltb-true 16 (depth (list (items_of ws))) db)) in
    by_tests (weight (list (items_of all))) (ListOf (items_of all)) (nat_lt 4096 (weight (list (items_of all)))) (nat_lt 16 (depth (list (items_of all)))) (λ no. far)
refused_by ws before after false false wa db fault e = absurd cc

pub refused : (ws : List Val) (fault : ValFault) → made_list ws ≡ Err fault → (before after : List Val) → list_or_size (before ++ ListOf (items_of ws) ∷ after) ≡ Failure (codes "size")
refused ws fault e before after = refused_by ws before after (nat_lt 4096 (weight (list (items_of ws)))) (nat_lt 16 (depth (list (items_of ws)))) refl refl fault e

map_split : (rows : List Row) (i : ℕ) (r : Row) → i < length rows → r ≡ get_or rows i r → map pair_value rows ≡ map pair_value (take i rows) ++ pair_value r ∷ map pair_value (drop (suc i) rows)
map_split [] i r lt is = absurd (omega arith)
map_split (x ∷ rows) zero r lt is = ap (λ y. pair_value y ∷ map pair_value rows) (sym is)
map_split (x ∷ rows) (suc i) r lt is = ap (λ l. pair_value x ∷ l) (map_split rows i r (omega arith) is)

-- rows of which one makes no pair
pub rows_refused : (rows : List Row) (i : ℕ) (r : Row) → i < length rows → r ≡ get_or rows i r → ((before after : List Val) → list_or_size (before ++ pair_value r ∷ after) ≡ Failure (codes "size")) → Failure (codes "size") ≡ list_or_size (map pair_value rows)
rows_refused rows i r lt is f = sym (ap list_or_size (map_split rows i r lt is) ∙ f (map pair_value (take i rows)) (map pair_value (drop (suc i) rows)))
