-- The tests of the meaning, by the order of keys.
use Rattle.std.proofs.Common.{◌≡◌, subst, ℕ, suc, ◌+◌, ◌≤◌, Bool, true, false, ◌&&◌, ◌||◌, cond, List, [], ◌∷◌, length, map, Option, Some, None, refl, ap, sym, ◌∙◌, arith, rules}
use Rattle.std.specs.Prelude.{nat_lt, nat_eq, if◌then◌else◌}
use Rattle.std.specs.Ordering.{nat_cmp, ordering_then, is_lt, is_eq, match_ordering}
use Rattle.std.specs.Cmp.Lexicographic.{slice_cmp}
use Rattle.std.specs.Cmp.Rules.{comparing}
use Rattle.std.specs.Str.{bytes_eq}
use Rattle.std.specs.Map.{lookup}
use Rattle.std.specs.BTreeMap.{insert_entry}
use Rattle.std.specs.declared.cmp.Ordering.{Ordering}
use Rattle.std.specs.declared.cmp.Ordering.TheVariants.{Less, Equal, Greater}
use Rattle.std.specs.FinMap.{nat_cmp-IsAntisymmetric, slice_cmp-IsAntisymmetric}
use Rattle.r3_value.specs.declared.value.Val.{Val}
use Rattle.fn_tree.specs.Comparison.{bytes_lt}
use Rattle.fn_tree.specs.Writes.{Write, is_at, is_before, written_at, with_write}
use Rattle.fn_txn.specs.declared.row_key.RowKey.{RowKey}
use Rattle.fn_txn.specs.RowKeys.{row_cmp, write_of}

first_lt : (a b : Bool) (o : Ordering) → (a || (b && is_lt o)) ≡ is_lt (ordering_then (cond a Less (cond b Equal Greater)) o)
first_lt true b o = refl
first_lt false true o = refl
first_lt false false o = refl

pub lt_is : (s t : List ℕ) → bytes_lt s t ≡ is_lt (slice_cmp nat_cmp s t)
lt_is [] [] = refl
lt_is [] (y ∷ t) = refl
lt_is (x ∷ s) [] = refl
lt_is (x ∷ s) (y ∷ t) = ap (λ b. nat_lt x y || (nat_eq x y && b)) (lt_is s t) ∙ first_lt (nat_lt x y) (nat_eq x y) (slice_cmp nat_cmp s t)

pub eq_is : (s t : List ℕ) → bytes_eq s t ≡ is_eq (slice_cmp nat_cmp s t)
eq_is s t = search (comparing, rules)

eq_flip : (s t : List ℕ) → bytes_eq s t ≡ bytes_eq t s
eq_flip s t = search (comparing, rules)

pub then_eq : (a b : Ordering) → (is_eq a && is_eq b) ≡ is_eq (ordering_then a b)
then_eq Less b = refl
then_eq Equal b = refl
then_eq Greater b = refl

then_lt : (a b : Ordering) → (is_lt a || (is_eq a && is_lt b)) ≡ is_lt (ordering_then a b)
then_lt Less b = refl
then_lt Equal b = refl
then_lt Greater b = refl

pub at_is : (k : RowKey) (e : RowKey × Option Val) → is_at k.table k.key (write_of e) ≡ is_eq (row_cmp k e.0)
at_is k e =
    (λ i. (eq_flip e.0.table k.table ∙ eq_is k.table e.0.table) i && (eq_flip e.0.key k.key ∙ eq_is k.key e.0.key) i)
    ∙ then_eq (slice_cmp nat_cmp k.table e.0.table) (slice_cmp nat_cmp k.key e.0.key)

pub before_is : (k : RowKey) (e : RowKey × Option Val) → is_before k.table k.key (write_of e) ≡ is_lt (row_cmp k e.0)
before_is k e =
    (λ i. lt_is k.table e.0.table i || (eq_is k.table e.0.table i && lt_is k.key e.0.key i))
    ∙ then_lt (slice_cmp nat_cmp k.table e.0.table) (slice_cmp nat_cmp k.key e.0.key)

both_equal : (a b : Ordering) → ordering_then a b ≡ Equal → (a ≡ Equal) × (b ≡ Equal)
both_equal Less b e = absurd cc
both_equal Equal b e = (refl, e)
both_equal Greater b e = absurd cc

bytes_same : (xs ys : List ℕ) → slice_cmp nat_cmp xs ys ≡ Equal → xs ≡ ys
bytes_same = slice_cmp-IsAntisymmetric nat_cmp-IsAntisymmetric

module _ (cmp : RowKey → RowKey → Ordering) (order : (a b : RowKey) → cmp a b ≡ row_cmp a b) where
  -- a look-up in the map is one among the writes
  pub lookup_is : (k : RowKey) (es : List (RowKey × Option Val)) → lookup (λ x. is_eq (cmp k x)) es ≡ written_at (map write_of es) k.table k.key
  lookup_is k [] = refl
  lookup_is k (e ∷ es) =
      (λ i. cond ((ap is_eq (order k e.0) ∙ sym (at_is k e)) i) (Some e.1) (lookup_is k es i))

  put_step : (k : RowKey) (v : Option Val) (e : RowKey × Option Val) (es : List (RowKey × Option Val)) (rest : List (RowKey × Option Val)) (ws : List Write) → ws ≡ map write_of rest → (o : Ordering) → row_cmp k e.0 ≡ o →
      (if is_eq o then (k.table, k.key, v) ∷ map write_of es else if is_lt o then (k.table, k.key, v) ∷ write_of e ∷ map write_of es else write_of e ∷ ws)
      ≡ map write_of (match_ordering o ((k, v) ∷ e ∷ es) ((e.0, v) ∷ es) (e ∷ rest))
  put_step k v e es rest ws h Less is = refl
  put_step k v e es rest ws h Equal is =
      let parts = both_equal (slice_cmp nat_cmp k.table e.0.table) (slice_cmp nat_cmp k.key e.0.key) is in
      λ i. (bytes_same k.table e.0.table parts.0 i, bytes_same k.key e.0.key parts.1 i, v) ∷ map write_of es
  put_step k v e es rest ws h Greater is = ap (λ l. write_of e ∷ l) h

  -- an insertion into the map is a write more
  pub insert_is : (k : RowKey) (v : Option Val) (es : List (RowKey × Option Val)) → with_write (map write_of es) k.table k.key v ≡ map write_of (insert_entry cmp es k v)
  insert_is k v [] = refl
  insert_is k v (e ∷ es) =
      (λ i. if at_is k e i then (k.table, k.key, v) ∷ map write_of es else if before_is k e i then (k.table, k.key, v) ∷ write_of e ∷ map write_of es else write_of e ∷ with_write (map write_of es) k.table k.key v)
      ∙ put_step k v e es (insert_entry cmp es k v) _ (insert_is k v es) (row_cmp k e.0) refl
      ∙ ap (λ o. map write_of (match_ordering o ((k, v) ∷ e ∷ es) ((e.0, v) ∷ es) (e ∷ insert_entry cmp es k v))) (sym (order k e.0))

  absent_step : (k : RowKey) (v : Option Val) (e : RowKey × Option Val) (es rest : List (RowKey × Option Val)) (o : Ordering) → cond (is_eq o) (Some e.1) (lookup (λ x. is_eq (cmp k x)) es) ≡ None → (lookup (λ x. is_eq (cmp k x)) es ≡ None → length rest ≡ suc (length es)) → length (match_ordering o ((k, v) ∷ e ∷ es) ((e.0, v) ∷ es) (e ∷ rest)) ≡ suc (suc (length es))
  absent_step k v e es rest Less h f = refl
  absent_step k v e es rest Equal h f = absurd cc
  absent_step k v e es rest Greater h f = ap suc (f h)

  -- a key that isn't there is one more
  pub length_absent : (k : RowKey) (v : Option Val) (es : List (RowKey × Option Val)) → lookup (λ x. is_eq (cmp k x)) es ≡ None → length (insert_entry cmp es k v) ≡ suc (length es)
  length_absent k v [] h = refl
  length_absent k v (e ∷ es) h = absent_step k v e es (insert_entry cmp es k v) (cmp k e.0) h (length_absent k v es)

pub length_writes : (es : List (RowKey × Option Val)) → length (map write_of es) ≡ length es
length_writes [] = refl
length_writes (e ∷ es) = ap suc (length_writes es)
