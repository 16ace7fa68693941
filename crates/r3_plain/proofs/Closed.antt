-- The open snapshots without that of a workflow.
use Rattle.std.proofs.Common.{◌≡◌, Bool, true, false, cond, ◌&&◌, not, List, [], ◌∷◌, refl, sym, ap, ◌∙◌, subst}
use Rattle.std.specs.Prelude.{T, bytes_eq}
use Rattle.std.specs.List.{AllByRecursion}
use Rattle.std.specs.List.Sorted.{IsStrictlySortedBy}
use Rattle.std.specs.Ordering.{is_eq, is_lt, ordering_reverse}
use Rattle.std.specs.declared.cmp.Ordering.{Ordering}
use Rattle.std.specs.declared.cmp.Ordering.TheVariants.{Less, Equal, Greater}
use Rattle.std.specs.Map.{keys_of, remove_entry}
use Rattle.std.specs.BTreeMap.{is_at}
use Rattle.std.specs.FinMap.{nat_cmp-IsAntisymmetric, slice_cmp-IsAntisymmetric}
use Rattle.std.specs.FinMap.Entries.{is_sorted, below_all}
use Rattle.std.proofs.lemmas.Cmp.{nat_list_cmp_total}
use Rattle.std.proofs.lemmas.Map.Text.{is_eq-slice_cmp}
use Rattle.r3_rows.specs.Keys.{bytes_cmp}
use Rattle.r3_model.specs.Language.{Text}
use Rattle.r3_model.specs.Machine.{Begun, closed}

both : (a b : Bool) → T a → T b → T (a && b)
both true b p q = q
both false b p q = absurd p

module _ {K X : Type 0} (cmp : K → K → Ordering) where
  below_keys : (x : K) (es : List (K × X)) → AllByRecursion (λ y. cmp x y ≡ Less) (keys_of es) → T (below_all cmp x es)
  below_keys x [] h = tt
  below_keys x (e ∷ es) h = both _ _ (subst (λ r. T (is_lt r)) (sym h.0) tt) (below_keys x es h.1)

  pub sorted_entries : (es : List (K × X)) → IsStrictlySortedBy cmp (keys_of es) → T (is_sorted cmp es)
  unfolding IsStrictlySortedBy
  sorted_entries [] h = tt
  sorted_entries (e ∷ es) h = both _ _ (below_keys e.0 es h.0) (sorted_entries es h.1)

less_apart : (id i : Text) → bytes_cmp id i ≡ Less → bytes_eq i id ≡ false
less_apart id i is = sym (is_eq-slice_cmp i id) ∙ ap is_eq (nat_list_cmp_total.antisymm i id ∙ ap ordering_reverse is)

and_parts : (a b : Bool) → T (a && b) → T a × T b
and_parts true b h = (tt {0}, h)
and_parts false b h = absurd h

less : (o : Ordering) → T (is_lt o) → o ≡ Less
less Less h = refl
less Equal h = absurd h
less Greater h = absurd h

-- those behind a key are kept
all_kept : (id : Text) (es : Begun) → T (below_all bytes_cmp id es) → closed id es ≡ es
all_kept id [] h = refl
all_kept id (e ∷ es) h =
    let p = and_parts _ _ h in
    ap (λ (b : Bool). cond (not b) (e ∷ closed id es) (closed id es)) (less_apart id e.0 (less _ p.0)) ∙ ap (λ (fs : Begun). e ∷ fs) (all_kept id es p.1)

-- the one of a key is taken out
pub removed : (id : Text) (es : Begun) → T (is_sorted bytes_cmp es) → remove_entry (is_at (bytes_cmp id)) es ≡ closed id es
removed id [] s = refl
removed id (e ∷ es) s =
    let p = and_parts _ _ s in
    elim (bytes_cmp id e.0) as (λ o. bytes_cmp id e.0 ≡ o → cond (is_eq o) es (e ∷ remove_entry (is_at (bytes_cmp id)) es) ≡ closed id (e ∷ es)) [
      | Less ↦ λ is. ap (λ (fs : Begun). e ∷ fs) (removed id es p.1) ∙ ap (λ (b : Bool). cond (not b) (e ∷ closed id es) (closed id es)) (sym (less_apart id e.0 is))
      | Equal ↦ λ is.
          let same : id ≡ e.0 = slice_cmp-IsAntisymmetric nat_cmp-IsAntisymmetric id e.0 is in
          let tie : bytes_eq e.0 id ≡ true = sym (is_eq-slice_cmp e.0 id) ∙ ap is_eq (nat_list_cmp_total.antisymm e.0 id ∙ ap ordering_reverse is) in
          let below : T (below_all bytes_cmp id es) = subst (λ (i : Text). T (below_all bytes_cmp i es)) (sym same) p.0 in
          sym (ap (λ (b : Bool). cond (not b) (e ∷ closed id es) (closed id es)) tie ∙ all_kept id es below)
      | Greater ↦ λ is.
          let apart : bytes_eq e.0 id ≡ false = sym (is_eq-slice_cmp e.0 id) ∙ ap is_eq (nat_list_cmp_total.antisymm e.0 id ∙ ap ordering_reverse is) in
          ap (λ (fs : Begun). e ∷ fs) (removed id es p.1) ∙ ap (λ (b : Bool). cond (not b) (e ∷ closed id es) (closed id es)) (sym apart)
    ] refl
