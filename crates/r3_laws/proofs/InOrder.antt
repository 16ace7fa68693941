-- A list that is put in order is sorted, and a sorted one stays as it was.
use Rattle.std.proofs.Common.{◌≡◌, Bool, true, false, ◌&&◌, List, [], ◌∷◌, ◌++◌, Option, refl, sym, ap, ◌∙◌}
use Rattle.std.specs.Prelude.{T, fold}
use Rattle.std.specs.Ordering.{is_lt, ordering_reverse}
use Rattle.std.specs.Cmp.{IsTotalOrder}
use Rattle.std.specs.FinMap.Entries.{put, is_sorted, is_sorted-put, below_all, by_order}
use Rattle.std.specs.declared.cmp.Ordering.{Ordering}
use Rattle.std.specs.declared.cmp.Ordering.TheVariants.{Less, Equal, Greater}
use Rattle.std.proofs.lemmas.List.{append_assoc, append-nil}
use Rattle.r3_rows.specs.declared.rows.Key.{Key}
use Rattle.r3_rows.specs.declared.rows.Cell.{Cell}
use Rattle.r3_rows.specs.Keys.{key_cmp}
use Rattle.r3_rows.specs.KeyOrder.{key_cmp-total}
use Rattle.r3_model.specs.Acts.{Writes, in_order}

-- ---- a sorted list is put in order by leaving it alone

pub parts : (a b : Bool) → (a && b) ≡ true → (a ≡ true) × (b ≡ true)
parts true b e = (refl, e)
parts false b e = absurd cc

pub less : (o : Ordering) → is_lt o ≡ true → o ≡ Less
less Less e = refl
less Equal e = absurd cc
less Greater e = absurd cc

module _ {K X : Type 0} (R : K → K → Ordering) (o : IsTotalOrder R) where
  below-end : (x : K) (es : List (K × X)) (w : K × X) (ws : List (K × X)) → below_all R x (es ++ w ∷ ws) ≡ true → R x w.0 ≡ Less
  below-end x [] w ws below = less (R x w.0) (parts (is_lt (R x w.0)) _ below).0
  below-end x (e ∷ es) w ws below = below-end x es w ws (parts (is_lt (R x e.0)) _ below).1

  put-end : (es : List (K × X)) (w : K × X) (ws : List (K × X)) → is_sorted R (es ++ w ∷ ws) ≡ true → put R w.0 w.1 es ≡ es ++ w ∷ []
  put-end [] w ws sorted = refl
  put-end (e ∷ es) w ws sorted =
      let both = parts (below_all R e.0 (es ++ w ∷ ws)) _ sorted in
      let above : R w.0 e.0 ≡ Greater = o.antisymm w.0 e.0 ∙ ap ordering_reverse (below-end e.0 es w ws both.0) in
      ap (λ (r : Ordering). by_order r (w ∷ e ∷ es) ((e.0, w.1) ∷ es) (e ∷ put R w.0 w.1 es)) above ∙ ap (λ (x : List (K × X)). e ∷ x) (put-end es w ws both.1)

  pub puts-sorted : (es ws : List (K × X)) → is_sorted R (es ++ ws) ≡ true → fold (λ (m : List (K × X)) (w : K × X). put R w.0 w.1 m) es ws ≡ es ++ ws
  puts-sorted es [] sorted = sym (append-nil es)
  puts-sorted es (w ∷ ws) sorted =
      let joined : is_sorted R ((es ++ w ∷ []) ++ ws) ≡ true = ap (λ (x : List (K × X)). is_sorted R x) (append_assoc es (w ∷ []) ws) ∙ sorted in
      ap (λ (m : List (K × X)). fold (λ (m : List (K × X)) (w : K × X). put R w.0 w.1 m) m ws) (put-end es w ws sorted) ∙ puts-sorted (es ++ w ∷ []) ws joined ∙ append_assoc es (w ∷ []) ws

pub true_from : (b : Bool) → T b → b ≡ true
true_from true h = refl
true_from false h = absurd h

pub from_true : (b : Bool) → b ≡ true → T b
from_true true h = tt
from_true false h = absurd cc

module _ {K X : Type 0} (R : K → K → Ordering) (o : IsTotalOrder R) where
  -- whatever is put, what is sorted stays sorted
  pub sorted-puts : {W : Type 0} (f : W → K × X) (es : List (K × X)) (ws : List W) → is_sorted R es ≡ true → is_sorted R (fold (λ (m : List (K × X)) (w : W). put R (f w).0 (f w).1 m) es ws) ≡ true
  sorted-puts f es [] sorted = sorted
  sorted-puts f es (w ∷ ws) sorted = sorted-puts f (put R (f w).0 (f w).1 es) ws (true_from _ (is_sorted-put R o (f w).0 (f w).1 es (from_true _ sorted)))

pub in_order-sorted : (ws : Writes) → is_sorted key_cmp ws ≡ true → in_order ws ≡ ws
in_order-sorted ws sorted = puts-sorted key_cmp key_cmp-total [] ws sorted

pub sorted-in_order : (ws : Writes) → is_sorted key_cmp (in_order ws) ≡ true
sorted-in_order ws = sorted-puts key_cmp key_cmp-total (λ (w : Key × Option Cell). w) [] ws refl
