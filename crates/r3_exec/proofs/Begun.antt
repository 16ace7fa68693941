-- The open snapshots, as the map keeps them and as they are pinned.
use Rattle.std.proofs.Common.{◌≡◌, ℕ, ◌+◌, ◌≤◌, nat_eq, Bool, true, false, cond, ◌&&◌, not, suc, List, [], ◌∷◌, ◌++◌, Option, Some, None, Contains, refl, sym, ap, ◌∙◌, subst, arith}
use Rattle.std.specs.Prelude.{T, sum_by, bytes_eq, if◌then◌else◌}
use Rattle.std.specs.Option.{option_map, unwrap_or}
use Rattle.std.specs.Ordering.{is_eq, is_lt, ordering_reverse}
use Rattle.std.specs.declared.cmp.Ordering.{Ordering}
use Rattle.std.specs.declared.cmp.Ordering.TheVariants.{Less, Equal, Greater}
use Rattle.std.specs.List.Sorted.{IsPermutation, IsStrictlySortedBy}
use Rattle.std.specs.Map.{keys_of, values_of, lookup, remove_entry}
use Rattle.std.specs.BTreeMap.{insert_entry, is_at}
use Rattle.std.specs.FinMap.{find, nat_cmp-IsAntisymmetric, slice_cmp-IsAntisymmetric}
use Rattle.std.specs.FinMap.Entries.{put, is_sorted, below_all}
use Rattle.std.proofs.lemmas.Cmp.{nat_list_cmp_total}
use Rattle.std.proofs.lemmas.Bool.Decides.{nat_tests}
use Rattle.std.proofs.lemmas.List.Sums.{sum_by-append}
use Rattle.std.proofs.lemmas.List.Sorted.{sum_by-IsPermutation}
use Rattle.std.proofs.lemmas.Map.Entries.{sum_by-insert_entry, sum_by-remove_entry}
use Rattle.std.proofs.lemmas.Map.Text.{is_eq-slice_cmp}
use Rattle.r3_chain.proofs.PutLemmas.{found_is, insert_put}
use Rattle.r3_rows.specs.Keys.{bytes_cmp}
use Rattle.r3_model.specs.Language.{Text}
use Rattle.r3_model.specs.Machine.{Begun, opened, closed}
use Rattle.r3_exec.specs.Runs.{ArePinned, is_one}

-- ---- one snapshot more

pub one_more : (pins : List ℕ) (begun : Begun) (id : Text) (s : ℕ) → IsStrictlySortedBy bytes_cmp (keys_of begun) → find bytes_cmp id begun ≡ None
    → ArePinned pins begun → ArePinned (pins ++ s ∷ []) (opened id s begun)
one_more pins begun id s sorted none pinned n =
    let f = is_one n in
    let looked : lookup (is_at (bytes_cmp id)) begun ≡ None = found_is bytes_cmp id begun ∙ none in
    let more : sum_by f (values_of (insert_entry bytes_cmp begun id s)) + unwrap_or (option_map f (lookup (is_at (bytes_cmp id)) begun)) 0 ≡ sum_by f (values_of begun) + f s =
    sum_by-insert_entry f nat_list_cmp_total begun id s sorted in
    let nothing : unwrap_or (option_map f (lookup (is_at (bytes_cmp id)) begun)) 0 ≡ 0 = ap (λ (o : Option ℕ). unwrap_or (option_map f o) 0) looked in
    let same : sum_by f (values_of (insert_entry bytes_cmp begun id s)) ≡ sum_by f (values_of (put bytes_cmp id s begun)) =
    ap (λ (es : Begun). sum_by f (values_of es)) (insert_put bytes_cmp id s begun) in
    let pins_more : sum_by f (pins ++ s ∷ []) ≡ sum_by f pins + sum_by f (s ∷ []) = sum_by-append f pins (s ∷ []) in
    let alone : sum_by f (s ∷ []) ≡ 0 + f s = refl in
    omega (arith, more, nothing, same, pins_more, alone, pinned n)

-- ---- one less

less_apart : (id i : Text) → bytes_cmp id i ≡ Less → bytes_eq i id ≡ false
less_apart id i is = sym (is_eq-slice_cmp i id) ∙ ap is_eq (nat_list_cmp_total.antisymm i id ∙ ap ordering_reverse is)

and_parts : (a b : Bool) → T (a && b) → T a × T b
and_parts true b h = (tt {0}, h)
and_parts false b h = absurd h

less : (o : Ordering) → T (is_lt o) → o ≡ Less
less Less h = refl
less Equal h = absurd h
less Greater h = absurd h

-- those behind a key are kept
all_kept : (id : Text) (es : Begun) → T (below_all bytes_cmp id es) → closed id es ≡ es
all_kept id [] h = refl
all_kept id (e ∷ es) h =
    let p = and_parts _ _ h in
    ap (λ (b : Bool). cond (not b) (e ∷ closed id es) (closed id es)) (less_apart id e.0 (less _ p.0)) ∙ ap (λ (fs : Begun). e ∷ fs) (all_kept id es p.1)

-- the one of a key is taken out
pub removed : (id : Text) (es : Begun) → T (is_sorted bytes_cmp es) → remove_entry (is_at (bytes_cmp id)) es ≡ closed id es
removed id [] s = refl
removed id (e ∷ es) s =
    let p = and_parts _ _ s in
    elim (bytes_cmp id e.0) as (λ o. bytes_cmp id e.0 ≡ o → cond (is_eq o) es (e ∷ remove_entry (is_at (bytes_cmp id)) es) ≡ closed id (e ∷ es)) [
      | Less ↦ λ is. ap (λ (fs : Begun). e ∷ fs) (removed id es p.1) ∙ ap (λ (b : Bool). cond (not b) (e ∷ closed id es) (closed id es)) (sym (less_apart id e.0 is))
      | Equal ↦ λ is.
          let same : id ≡ e.0 = slice_cmp-IsAntisymmetric nat_cmp-IsAntisymmetric id e.0 is in
          let tie : bytes_eq e.0 id ≡ true = sym (is_eq-slice_cmp e.0 id) ∙ ap is_eq (nat_list_cmp_total.antisymm e.0 id ∙ ap ordering_reverse is) in
          let below : T (below_all bytes_cmp id es) = subst (λ (i : Text). T (below_all bytes_cmp i es)) (sym same) p.0 in
          sym (ap (λ (b : Bool). cond (not b) (e ∷ closed id es) (closed id es)) tie ∙ all_kept id es below)
      | Greater ↦ λ is.
          let apart : bytes_eq e.0 id ≡ false = sym (is_eq-slice_cmp e.0 id) ∙ ap is_eq (nat_list_cmp_total.antisymm e.0 id ∙ ap ordering_reverse is) in
          ap (λ (fs : Begun). e ∷ fs) (removed id es p.1) ∙ ap (λ (b : Bool). cond (not b) (e ∷ closed id es) (closed id es)) (sym apart)
    ] refl

one_self : (s : ℕ) → is_one s s ≡ 1
one_self s = let t : nat_eq s s ≡ true = grind (arith, nat_tests) in ap (λ (b : Bool). if b then 1 else 0) t

no_one : (b : Bool) (s x : ℕ) → nat_eq s x ≡ b → (b ≡ false) → is_one s x ≡ 0
no_one true s x is f = absurd cc
no_one false s x is f = ap (λ (b : Bool). if b then 1 else 0) is

first_counts : (f : ℕ → ℕ) (x : ℕ) (xs : List ℕ) → sum_by f (x ∷ xs) ≡ f x + sum_by f xs
first_counts f x xs =
    let split : sum_by f (x ∷ xs) ≡ sum_by f (x ∷ []) + sum_by f xs = sum_by-append f (x ∷ []) xs in
    let alone : sum_by f (x ∷ []) ≡ 0 + f x = refl in
    omega (arith, split, alone)

among : (s : ℕ) (xs : List ℕ) → 1 ≤ sum_by (is_one s) xs → Contains xs s
among s [] h = absurd (omega (arith, h))
among s (x ∷ xs) h =
    elim (nat_eq s x) as (λ b. nat_eq s x ≡ b → Contains (x ∷ xs) s) [
      | true ↦ λ is. let same : x ≡ s = grind (arith, nat_tests) in (0, omega arith, same)
      | false ↦ λ is.
          let rest = among s xs (omega (arith, h, no_one false s x is refl, first_counts (is_one s) x xs)) in
          (suc rest.0, omega (arith, rest.1), rest.2)
    ] refl

found_counts : (begun : Begun) (id : Text) (s n : ℕ) → find bytes_cmp id begun ≡ Some s
    → sum_by (is_one n) (values_of (remove_entry (is_at (bytes_cmp id)) begun)) + is_one n s ≡ sum_by (is_one n) (values_of begun)
found_counts begun id s n found =
    let f = is_one n in
    let looked : lookup (is_at (bytes_cmp id)) begun ≡ Some s = found_is bytes_cmp id begun ∙ found in
    let counted : sum_by f (values_of (remove_entry (is_at (bytes_cmp id)) begun)) + unwrap_or (option_map f (lookup (is_at (bytes_cmp id)) begun)) 0 ≡ sum_by f (values_of begun) =
    sum_by-remove_entry f (is_at (bytes_cmp id)) begun in
    let one : unwrap_or (option_map f (lookup (is_at (bytes_cmp id)) begun)) 0 ≡ f s = ap (λ (o : Option ℕ). unwrap_or (option_map f o) 0) looked in
    omega (arith, counted, one)

-- an open snapshot is pinned
pub is_pinned : (pins : List ℕ) (begun : Begun) (id : Text) (s : ℕ) → ArePinned pins begun → find bytes_cmp id begun ≡ Some s → Contains pins s
is_pinned pins begun id s pinned found = among s pins (omega (arith, found_counts begun id s s found, one_self s, pinned s))

pub one_less : (pins pins' : List ℕ) (begun : Begun) (id : Text) (s : ℕ) → T (is_sorted bytes_cmp begun) → find bytes_cmp id begun ≡ Some s
    → IsPermutation pins (s ∷ pins') → ArePinned pins begun → ArePinned pins' (closed id begun)
one_less pins pins' begun id s sorted found moved pinned n =
    let f = is_one n in
    let counts = found_counts begun id s n found in
    let same : sum_by f (values_of (remove_entry (is_at (bytes_cmp id)) begun)) ≡ sum_by f (values_of (closed id begun)) =
    ap (λ (es : Begun). sum_by f (values_of es)) (removed id begun sorted) in
    let moves : sum_by f (s ∷ pins') ≡ sum_by f pins = sum_by-IsPermutation f pins (s ∷ pins') moved in
    omega (arith, counts, same, moves, first_counts f s pins', pinned n)

-- where none is open, none is closed
pub none_closed : (id : Text) (es : Begun) → T (is_sorted bytes_cmp es) → find bytes_cmp id es ≡ None → remove_entry (is_at (bytes_cmp id)) es ≡ es
none_closed id [] s none = refl
none_closed id (e ∷ es) s none =
    let p = and_parts _ _ s in
    elim (bytes_cmp id e.0) as (λ o. cond (is_eq o) (Some e.1) (find bytes_cmp id es) ≡ None → cond (is_eq o) es (e ∷ remove_entry (is_at (bytes_cmp id)) es) ≡ e ∷ es) [
      | Less ↦ λ n. ap (λ (fs : Begun). e ∷ fs) (none_closed id es p.1 n)
      | Equal ↦ λ n. absurd cc
      | Greater ↦ λ n. ap (λ (fs : Begun). e ∷ fs) (none_closed id es p.1 n)
    ] none
