-- What chains answer, in terms of the map as of an index.
use Rattle.std.proofs.Common.{◌≡◌, ℕ, Bool, true, false, List, [], ◌∷◌, map, Option, Some, None, refl, sym, ap, ◌∙◌, rules, cond, Bor, nat_lt, arith}
use Rattle.std.proofs.lemmas.Bool.Decides.{nat_tests}
use Rattle.std.specs.Prelude.{filter, IsSome, IsTrue, ◌↔◌, ◌&&◌, ◌==◌}
use Rattle.std.specs.List.{filter_map, cons_option}
use Rattle.std.specs.Ordering.{nat_cmp, is_eq, is_le, is_lt, is_gt, ordering_reverse, ordering_then}
use Rattle.std.specs.Cmp.{IsTotalOrder}
use Rattle.std.specs.Cmp.Rules.{comparing}
use Rattle.std.specs.declared.cmp.Ordering.{Ordering}
use Rattle.std.specs.declared.cmp.Ordering.TheVariants.{Less, Equal, Greater}
use Rattle.r3_rows.specs.declared.rows.Key.{Key}
use Rattle.r3_rows.specs.declared.rows.Key.TheVariants.{User, Flow, Step}
use Rattle.r3_rows.specs.declared.rows.Cell.{Cell}
use Rattle.r3_rows.specs.Keys.{key_cmp, bytes_cmp}
use Rattle.r3_rows.specs.contracts.rows.KeyOrd.TheImpl as derived
use Rattle.r3_entry.specs.History.{Map, Write, is_between}
use Rattle.r3_chain.specs.Versions.{Versions, present_keys, as_of, range_at}
use Rattle.r3_snap.specs.DerivedOrder.{same_cmp}
use Rattle.r3_formed.specs.Answers.{name, flow_in}
use Rattle.r3_formed.specs.Rules.{range_in, named_between}

bytes_total : IsTotalOrder bytes_cmp
bytes_total = search (comparing, rules) depth 9

then_none : (r : Ordering) → ordering_then r Equal ≡ r
then_none Less = refl
then_none Equal = refl
then_none Greater = refl

gt_is_lt : (r : Ordering) → is_gt r ≡ is_lt (ordering_reverse r)
gt_is_lt Less = refl
gt_is_lt Equal = refl
gt_is_lt Greater = refl

-- the keys between two of one table are of that table
abbrev is_within : Key → Key → Key → Bool
is_within lo hi key = is_le (key_cmp lo key) && is_gt (key_cmp hi key)

both_sides : (t lo hi u k : List ℕ) (r : Ordering) → bytes_cmp t u ≡ r
    → (is_le (ordering_then r (ordering_then (bytes_cmp lo k) Equal)) && is_gt (ordering_then r (ordering_then (bytes_cmp hi k) Equal))) ≡ (is_eq (bytes_cmp u t) && is_between lo hi k)
both_sides t lo hi u k Less p = ap (λ r. is_eq r && is_between lo hi k) (sym (bytes_total.antisymm u t ∙ ap ordering_reverse p))
both_sides t lo hi u k Greater p = ap (λ r. is_eq r && is_between lo hi k) (sym (bytes_total.antisymm u t ∙ ap ordering_reverse p))
both_sides t lo hi u k Equal p =
    ap (λ r. is_le r && is_gt (ordering_then (bytes_cmp hi k) Equal)) (then_none (bytes_cmp lo k))
    ∙ ap (λ r. is_le (bytes_cmp lo k) && is_gt r) (then_none (bytes_cmp hi k))
    ∙ ap (λ b. is_le (bytes_cmp lo k) && b) (gt_is_lt (bytes_cmp hi k) ∙ ap is_lt (sym (bytes_total.antisymm k hi)))
    ∙ ap (λ r. is_eq r && is_between lo hi k) (sym (bytes_total.antisymm u t ∙ ap ordering_reverse p))

within_table : (t lo hi u k : List ℕ) → is_within (User t lo) (User t hi) (User u k) ≡ (is_eq (bytes_cmp u t) && is_between lo hi k)
within_table t lo hi u k = both_sides t lo hi u k (bytes_cmp t u) refl

abbrev named : Key × ℕ → List ℕ × ℕ
named p = (name p.0, p.1)

pub rows_between : (t lo hi : List ℕ) (m : Map) → named_between (User t lo) (User t hi) m ≡ range_in m t lo hi
rows_between t lo hi [] = refl
rows_between t lo hi ((User u k, (j, None)) ∷ m) =
    elim (is_within (User t lo) (User t hi) (User u k)) as (λ b. map named (present_keys (cond b ((User u k, (j, None)) ∷ filter (λ e. is_within (User t lo) (User t hi) e.0) m) (filter (λ e. is_within (User t lo) (User t hi) e.0) m))) ≡ range_in m t lo hi) [
      | true ↦ rows_between t lo hi m
      | false ↦ rows_between t lo hi m
    ]
rows_between t lo hi ((User u k, (j, Some c)) ∷ m) =
    ap (λ b. map named (present_keys (cond b ((User u k, (j, Some c)) ∷ filter (λ e. is_within (User t lo) (User t hi) e.0) m) (filter (λ e. is_within (User t lo) (User t hi) e.0) m)))) (within_table t lo hi u k)
    ∙ elim (is_eq (bytes_cmp u t) && is_between lo hi k) as (λ b. map named (present_keys (cond b ((User u k, (j, Some c)) ∷ filter (λ e. is_within (User t lo) (User t hi) e.0) m) (filter (λ e. is_within (User t lo) (User t hi) e.0) m))) ≡ cons_option (cond b (Some (k, j)) None) (range_in m t lo hi)) [
      | true ↦ ap (λ ks. (k, j) ∷ ks) (rows_between t lo hi m)
      | false ↦ rows_between t lo hi m
    ]
rows_between t lo hi ((Flow id, (j, c)) ∷ m) = rows_between t lo hi m
rows_between t lo hi ((Step id n, (j, c)) ∷ m) = rows_between t lo hi m

within_flow : (id : List ℕ) → is_within (Flow []) (Step [] 0) (Flow id) ≡ true
within_flow [] = refl
within_flow (x ∷ xs) = refl

within_step : (id : List ℕ) (n : ℕ) → is_within (Flow []) (Step [] 0) (Step id n) ≡ false
within_step [] n = not_above n
  where
    not_above : (n : ℕ) → is_gt (nat_cmp 0 n) ≡ false
    not_above n = elim (nat_lt 0 n) as (λ b. nat_lt 0 n ≡ b → is_gt (cond b Less (cond (0 == n) Equal Greater)) ≡ false) [
      | true ↦ λ lt. refl
      | false ↦ λ ge. ap (λ b. is_gt (cond b Equal Greater)) (let same : (0 == n) ≡ true = grind (arith, nat_tests) in same)
    ] refl
within_step (x ∷ xs) n = refl

abbrev of_flows : Bool → Key → Write → Map → List (List ℕ)
of_flows b k w m = map (λ p. p.0) (map named (present_keys (cond b ((k, w) ∷ filter (λ e. is_within (Flow []) (Step [] 0) e.0) m) (filter (λ e. is_within (Flow []) (Step [] 0) e.0) m))))

-- the keys between the first flow key and the first step key are all flow keys
pub flows_between : (m : Map) → map (λ p. p.0) (named_between (Flow []) (Step [] 0) m) ≡ filter_map flow_in m
flows_between [] = refl
flows_between ((Flow id, (j, Some c)) ∷ m) = ap (λ b. of_flows b (Flow id) (j, Some c) m) (within_flow id) ∙ ap (λ ids. id ∷ ids) (flows_between m)
flows_between ((Flow id, (j, None)) ∷ m) = ap (λ b. of_flows b (Flow id) (j, None) m) (within_flow id) ∙ flows_between m
flows_between ((User table key, w) ∷ m) = flows_between m
flows_between ((Step id n, w) ∷ m) = ap (λ b. of_flows b (Step id n) w m) (within_step id n) ∙ flows_between m

map_named : (xs : List (Bor Key × ℕ)) → map (λ r. (name r.0.now, r.1)) xs ≡ map named (map (λ r. (r.0.now, r.1)) xs)
map_named [] = refl
map_named (x ∷ xs) = ap (λ ks. (name x.0.now, x.1) ∷ ks) (map_named xs)

pub named_range : (es : Versions Key Cell) (index : ℕ) (lo hi : Key) (found : List (Bor Key × ℕ)) → map (λ r. (r.0.now, r.1)) found ≡ range_at derived.cmp-value.it lo hi index es
    → map (λ r. (name r.0.now, r.1)) found ≡ named_between lo hi (as_of index es)
named_range es index lo hi found is =
    map_named found ∙ ap (map named) (is ∙ ap (λ (R : Key → Key → Ordering). range_at R lo hi index es) same_cmp)

pub some_cell : (v : Option Cell) (c : Cell) → Some c ≡ v → IsTrue true ↔ IsSome v
some_cell None c is = absurd cc
some_cell (Some d) c is = (λ _. refl, λ _. refl)

pub none_cell : (v : Option Cell) → None ≡ v → IsTrue false ↔ IsSome v
none_cell None is = (λ a. absurd cc, λ a. absurd cc)
none_cell (Some d) is = absurd cc
