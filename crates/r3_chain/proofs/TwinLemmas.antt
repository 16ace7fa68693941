-- Indexes that rise, for the test that keeps a plain list beside the chains.
use Rattle.std.proofs.Common.{◌≡◌, ℕ, ◌+◌, ◌<◌, ◌≤◌, true, false, cond, ◌||◌, List, [], ◌∷◌, Option, sym, ap, subst, arith}
use Rattle.std.specs.Prelude.{nat_le}
use Rattle.std.specs.List.{AllByRecursion}
use Rattle.std.specs.Ordering.{nat_cmp, eq_by_cmp, is_eq}
use Rattle.std.specs.Cmp.{nat_cmp_total, tied_itself}
use Rattle.r3_chain.specs.Versions.{Version, Versions, versions_of, installed, trimmed, trimmed_all, IsNext, has_room, key_set}
use Rattle.r3_chain.specs.VersionLaws.{versions_of-installed, versions_of-trimmed}
use Rattle.r3_chain.proofs.HeadLemmas.{all_map}

pub one_key : (key : ℕ) → has_room nat_cmp key (key_set nat_cmp (key ∷ [])) ≡ true
one_key key = ap (λ r. is_eq r || false) (tied_itself nat_cmp_total key)

module _ {V : Type 0} where
  pub next_up : (next index : ℕ) (es : Versions ℕ V) → next ≤ index → ((q : ℕ) → IsNext nat_cmp next q es) → (q : ℕ) → IsNext nat_cmp index q es
  next_up next index es le h q = all_map (λ v. v.0 < next) (λ v. v.0 < index) (λ v p. omega arith) (versions_of nat_cmp q es) (h q)

  pub next_after : (next index key : ℕ) (x : Option V) (es : Versions ℕ V) → next ≤ index → ((q : ℕ) → IsNext nat_cmp next q es) → (q : ℕ) → IsNext nat_cmp (index + 1) q (installed nat_cmp index key x es)
  next_after next index key x es le h q =
      let old : AllByRecursion (λ v. v.0 < index + 1) (versions_of nat_cmp q es) = all_map (λ v. v.0 < next) (λ v. v.0 < index + 1) (λ v p. omega arith) (versions_of nat_cmp q es) (h q) in
      subst (AllByRecursion (λ v. v.0 < index + 1)) (sym (versions_of-installed nat_cmp nat_cmp_total q key index x es))
      (elim (eq_by_cmp nat_cmp q key) as (λ b. AllByRecursion (λ v. v.0 < index + 1) (cond b ((index, x) ∷ versions_of nat_cmp q es) (versions_of nat_cmp q es))) [ true ↦ (omega arith, old) | false ↦ old ])

  all_cut : (P : Version V → Type 0) (oldest : ℕ) (vs : List (Version V)) → AllByRecursion P vs → AllByRecursion P (trimmed oldest vs)
  all_cut P oldest [] h = tt
  all_cut P oldest (v ∷ vs) h = elim (nat_le v.0 oldest) as (λ b. AllByRecursion P (cond b (v ∷ []) (v ∷ trimmed oldest vs))) [ true ↦ (h.0, tt) | false ↦ (h.0, all_cut P oldest vs h.1) ]

  pub next_trimmed : (next oldest : ℕ) (es : Versions ℕ V) → ((q : ℕ) → IsNext nat_cmp next q es) → (q : ℕ) → IsNext nat_cmp next q (trimmed_all oldest es)
  next_trimmed next oldest es h q = subst (AllByRecursion (λ v. v.0 < next)) (sym (versions_of-trimmed nat_cmp oldest q es)) (all_cut (λ v. v.0 < next) oldest (versions_of nat_cmp q es) (h q))
