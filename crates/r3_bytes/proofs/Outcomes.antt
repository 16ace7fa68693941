-- From the fields of an outcome to the outcome.
use Rattle.std.proofs.Common.{◌≡◌, ℕ, ◌<◌, List, [], ◌∷◌, ◌++◌, refl, ap, ◌∙◌, sym, arith}
use Rattle.r3_value.specs.declared.value.Val.{Val}
use Rattle.r3_value.specs.declared.value.Val.TheVariants.{Null, Bool, Int, Text, List as ListOf}
use Rattle.r3_value.specs.declared.value.Outcome.{Outcome}
use Rattle.r3_value.specs.declared.value.Outcome.TheVariants.{Value as Success, Failure}
use Rattle.r3_value.specs.View.{value_of, val_of}
use Rattle.r3_bytes.proofs.Found.{misses}
use Rattle.r3_bytes.proofs.Unique.{value_one, string_one}
use Rattle.r3_bytes.specs.Spelling as spell
use Rattle.r3_bytes.specs.Field.{BeginsNone, Misses}
use Rattle.r3_bytes.specs.declared.slices.Miss.{Miss}

no_success : (rest : List ℕ) → BeginsNone spell.value (spell.IsValueTo 16) rest → BeginsNone spell.outcome spell.IsOutcome (0 ∷ rest)
no_success rest none (Success v) after is e = none (value_of v) after is cc
no_success rest none (Failure word) after is e = absurd cc

pub success_misses : (rest : List ℕ) (m : Miss) → Misses spell.value (spell.IsValueTo 16) rest m → Misses spell.outcome spell.IsOutcome (0 ∷ rest) m
success_misses rest m = misses spell.value (spell.IsValueTo 16) rest spell.outcome spell.IsOutcome (0 ∷ rest) m (no_success rest)

no_failure : (rest : List ℕ) → BeginsNone spell.string spell.IsTxt rest → BeginsNone spell.outcome spell.IsOutcome (1 ∷ rest)
no_failure rest none (Success v) after is e = absurd cc
no_failure rest none (Failure word) after is e = none word after is cc

pub failure_misses : (rest : List ℕ) (m : Miss) → Misses spell.string spell.IsTxt rest m → Misses spell.outcome spell.IsOutcome (1 ∷ rest) m
failure_misses rest m = misses spell.string spell.IsTxt rest spell.outcome spell.IsOutcome (1 ∷ rest) m (no_failure rest)

-- no first byte is above 1
pub no_outcome : (tag : ℕ) (rest : List ℕ) → 1 < tag → BeginsNone spell.outcome spell.IsOutcome (tag ∷ rest)
no_outcome tag rest big (Success v) after is e = let t : tag ≡ 0 = cc in omega arith
no_outcome tag rest big (Failure word) after is e = let t : tag ≡ 1 = cc in omega arith

pub no_outcome-nil : BeginsNone spell.outcome spell.IsOutcome []
no_outcome-nil (Success v) after is e = absurd cc
no_outcome-nil (Failure word) after is e = absurd cc

-- ---- no spelling begins another

val_back : (v : Val) → val_of (value_of v) ≡ v
val_back Null = refl
val_back (Bool b) = refl
val_back (Int z) = refl
val_back (Text s) = refl
val_back (ListOf vs) = refl

same_val : (v w : Val) → value_of v ≡ value_of w → v ≡ w
same_val v w e = sym (val_back v) ∙ ap val_of e ∙ val_back w

pub outcome_one : (o p : Outcome) (a b : List ℕ) → spell.IsOutcome o → spell.IsOutcome p → spell.outcome o ++ a ≡ spell.outcome p ++ b → (o ≡ p) × (a ≡ b)
outcome_one (Success v) (Success w) a b hv hw e =
    let tail : spell.value (value_of v) ++ a ≡ spell.value (value_of w) ++ b = cc in
    let one = value_one (value_of v) (value_of w) a b (record { proper = hv.proper; small = hv.small }) (record { proper = hw.proper; small = hw.small }) tail in
    (ap Success (same_val v w one.0), one.1)
outcome_one (Failure s) (Failure t) a b hs ht e =
    let tail : spell.string s ++ a ≡ spell.string t ++ b = cc in
    let one = string_one s t a b (record { short = omega (arith, hs.short); utf8 = hs.utf8 }) (record { short = omega (arith, ht.short); utf8 = ht.utf8 }) tail in
    (ap Failure one.0, one.1)
outcome_one (Success v) (Failure t) a b hv ht e = absurd cc
outcome_one (Failure s) (Success w) a b hs hw e = absurd cc
