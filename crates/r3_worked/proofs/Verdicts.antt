-- Worked cases of verdicts: on one workflow, and where one of the two histories is shorter at its end.
use Rattle.std.proofs.Common.{◌≡◌, ℕ, List, [], ◌∷◌, ◌++◌, length, take, Option, Some, None, refl, ap, subst, arith}
use Rattle.std.specs.Prelude.{unwrap_or}
use Rattle.r3_entry.specs.declared.entry.Act.TheVariants as acts
use Rattle.r3_entry.specs.declared.entry.Entry.{Entry}
use Rattle.r3_model.specs.Event.{EntryOf}
use Rattle.r3_model.specs.Made.{Agrees}
use Rattle.r3_model.specs.Verdict.{Same, Differs, IsFirstDifference, IsFirstDisagreement, IsVerdict, IsVerdictOn}
use Rattle.r3_model.proofs.Bank.{bank}
use Rattle.r3_model.proofs.WorkedReplay.{m1, plain}
use Rattle.r3_worked.proofs.Made.{program, loaded, started, paid, told, before, another_outcome}

-- ---- on one workflow

-- the step of the transaction says 4, and its workflow's start stands before it and agrees
abbrev changed : List Entry
changed = before ++ paid 3 4 ∷ told ∷ []

m1_differs : IsVerdictOn bank m1 changed (Differs 4)
m1_differs = (
  3,
  refl,
  record {
    entry = paid 3 4;
    at = refl;
    of_id = refl;
    before = (tt, (tt, (record { reply = EntryOf 3 m1; gives = refl; fits = refl; program = refl; below = omega arith; own = refl }, tt)));
    here = another_outcome.0;
  },
)

-- an entry of no workflow, that agrees with nothing, is of no verdict on a workflow
m1_is_the_same : IsVerdictOn bank m1 (program ∷ loaded ∷ started ∷ plain 3 acts.Load [] ∷ []) (Same 1)
m1_is_the_same = (
  (tt, (tt, (record { reply = EntryOf 3 m1; gives = refl; fits = refl; program = refl; below = omega arith; own = refl }, (tt, tt)))),
  refl,
)

-- `same` counts the entries of the workflow
not_the_same_of_two : IsVerdictOn bank m1 before (Same 2) → ⊥
not_the_same_of_two v = let z : 2 ≡ 1 = v.1 in absurd (omega (arith, z))

-- and it isn't said where one of them disagrees
not_the_same : IsVerdictOn bank m1 changed (Same 2) → ⊥
not_the_same v = another_outcome.0 v.0.1.1.1.0

-- nor is an entry told that agrees
start_agrees : Agrees bank (program ∷ loaded ∷ []) started
start_agrees = record { reply = EntryOf 3 m1; gives = refl; fits = refl; program = refl; below = omega arith; own = refl }

not_at_the_start : IsVerdictOn bank m1 changed (Differs 3) → ⊥
not_at_the_start v =
    let two : v.0 ≡ 2 = omega (arith, v.1) in
    let d : IsFirstDisagreement bank m1 changed 2 = subst (λ (k : ℕ). IsFirstDisagreement bank m1 changed k) two v.2 in
    let is : started ≡ d.entry = ap (λ (o : Option Entry). unwrap_or o started) d.at in
    d.here (subst (λ (e : Entry). Agrees bank (program ∷ loaded ∷ []) e) is start_agrees)

-- ---- the history has one entry more than its replay: a load of no rows tells of nothing

abbrev longer : List Entry
longer = before ++ plain 3 acts.Load [] ∷ []

abbrev is_there : Option Entry → ℕ
is_there None = 0
is_there (Some e) = 1

it_is_longer : IsVerdict bank longer (Differs 4)
it_is_longer = (3, refl, record { before = refl; here = λ same. let z : 0 ≡ 1 = ap is_there same in absurd (omega (arith, z)) })

it_is_not_the_same : IsVerdict bank longer (Same 4) → ⊥
it_is_not_the_same v = let z : 3 ≡ 4 = ap (λ (h : List Entry). length h) v.0 in absurd (omega (arith, z))

-- `same` counts the entries
not_the_same_of_five : IsVerdict bank before (Same 5) → ⊥
not_the_same_of_five v = let z : 5 ≡ 3 = v.1 in absurd (omega (arith, z))

-- ---- the first difference of two lists

one_more : IsFirstDifference before (take 2 before) 2
one_more = record { before = refl; here = λ same. let z : 1 ≡ 0 = ap is_there same in absurd (omega (arith, z)) }

one_less : IsFirstDifference (take 2 before) before 2
one_less = record { before = refl; here = λ same. let z : 0 ≡ 1 = ap is_there same in absurd (omega (arith, z)) }

-- a later place is no first difference, and none is past the end of both
not_a_later_one : IsFirstDifference (take 1 before) before 2 → ⊥
not_a_later_one d = let z : 1 ≡ 2 = ap (λ (h : List Entry). length h) d.before in absurd (omega (arith, z))

none_past_the_end : IsFirstDifference before before 3 → ⊥
none_past_the_end d = d.here refl
