-- The first entry past a snapshot that wrote a key is that: the definition that computes, as a statement.
use Rattle.std.specs.Prelude.{◌≡◌, ℕ, ◌+◌, ◌<◌, Bool, true, false, cond, ◌&&◌, nat_lt, zero, suc, List, [], ◌∷◌, slice_get, Some, refl}
use Rattle.std.proofs.Common.{subst, arith}
use Rattle.std.proofs.lemmas.Bool.Decides.{nat_tests}
use Rattle.r3_rows.specs.declared.rows.Key.{Key}
use Rattle.r3_entry.specs.declared.entry.Entry.{Entry}
use Rattle.r3_entry.specs.History.{writes_key}
use Rattle.r3_formed.specs.Past.{first_from}

-- of the entries, numbered from j on, n is the first past the snapshot that writes the key
pub record IsFirstWrite (j snap : ℕ) (key : Key) (h : List Entry) (n : ℕ) : Type 0 where
  pub place : ℕ
  pub entry : Entry
  pub number : n ≡ j + place
  pub past : snap < n
  pub there : slice_get h place ≡ Some entry
  pub writes : writes_key entry key ≡ true
  pub before : (m : ℕ) (e : Entry) → m < place → snap < j + m → slice_get h m ≡ Some e → writes_key e key ≡ false

both_true : (a b : Bool) → (a && b) ≡ true → (a ≡ true) × (b ≡ true)
both_true true b h = (refl, h)
both_true false b h = absurd cc

second_false : (a b : Bool) → (a && b) ≡ false → a ≡ true → b ≡ false
second_false true b h t = h
second_false false b h t = absurd cc

pub first_is : (j snap : ℕ) (key : Key) (h : List Entry) (n : ℕ) → first_from j snap key h ≡ Some n → IsFirstWrite j snap key h n
first_is j snap key [] n found = absurd cc
first_is j snap key (x ∷ xs) n found =
    elim (nat_lt snap j && writes_key x key) as (λ b. (nat_lt snap j && writes_key x key) ≡ b → cond b (Some j) (first_from (j + 1) snap key xs) ≡ Some n → IsFirstWrite j snap key (x ∷ xs) n) [
      | true ↦ λ test is.
          let same : j ≡ n = cc in
          let parts : (nat_lt snap j ≡ true) × (writes_key x key ≡ true) = both_true _ _ test in
          let lt : nat_lt snap j ≡ true = parts.0 in
          let below : snap < j = grind (arith, nat_tests) in
          record { place = 0; entry = x; number = omega arith; past = omega arith; there = refl; writes = parts.1; before = λ m e lt' p at. absurd (omega arith) }
      | false ↦ λ test is.
          let rest : IsFirstWrite (j + 1) snap key xs n = first_is (j + 1) snap key xs n is in
          record {
            place = suc rest.place;
            entry = rest.entry;
            number = omega (arith, rest.number);
            past = rest.past;
            there = rest.there;
            writes = rest.writes;
            before = first_before j snap key x xs rest.place test (λ m e lt' p at. rest.before m e lt' p at);
          }
    ] refl found
  where
    first_before : (j snap : ℕ) (key : Key) (x : Entry) (xs : List Entry) (place : ℕ) → (nat_lt snap j && writes_key x key) ≡ false
        → ((m : ℕ) (e : Entry) → m < place → snap < (j + 1) + m → slice_get xs m ≡ Some e → writes_key e key ≡ false)
        → (m : ℕ) (e : Entry) → m < suc place → snap < j + m → slice_get (x ∷ xs) m ≡ Some e → writes_key e key ≡ false
    first_before j snap key x xs place test rest zero e lt p at =
        let below : snap < j = omega arith in
        let lt' : nat_lt snap j ≡ true = grind (arith, nat_tests) in
        let same : x ≡ e = cc in
        subst (λ (y : Entry). writes_key y key ≡ false) same (second_false _ _ test lt')
    first_before j snap key x xs place test rest (suc m) e lt p at = rest m e (omega arith) (omega arith) at
