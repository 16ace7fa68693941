-- Worked cases of runs and maps beyond the limits of a language.
use Rattle.std.proofs.Common.{◌≡◌, ℕ, ◌≤◌, ◌<◌, ◌^◌, List, [], ◌∷◌, length, replicate, Some, ap, arith, lit≤, lit<}
use Rattle.std.specs.Prelude.{codes}
use Rattle.r3_value.specs.declared.value.Val.{Val}
use Rattle.r3_value.specs.declared.value.Val.TheVariants.{Null, Text as TextVal, List as ListOf}
use Rattle.r3_value.specs.Value.{no_items}
use Rattle.r3_value.specs.declared.value.Outcome.TheVariants as outcomes
use Rattle.r3_entry.specs.Limits.{IsArgs}
use Rattle.fn_tree.specs.declared.flow.AskKind.TheVariants as asking
use Rattle.fn_tree.specs.declared.flow.FlowEnd.{FlowEnd}
use Rattle.fn_tree.specs.declared.flow.FlowEnd.TheVariants.{Asks, Unexpected}
use Rattle.fn_tree.specs.declared.look.Look.TheVariants.{At, Range}
use Rattle.fn_tree.specs.declared.look.TxnRun.{TxnRun}
use Rattle.r3_model.specs.Language.{Text}
use Rattle.r3_model.specs.Lawful.{IsLawful, IsLimited, IsWithinLimits, RunsWell}
use Rattle.r3_worked.proofs.Languages.{with_flow, with_txn, no_run, empty, function}

abbrev no_args : Val
no_args = ListOf no_items

they_are_args : IsArgs no_args
they_are_args = (record { proper = tt; small = lit≤ tt; shallow = lit≤ tt }, lit≤ tt)

-- ---- workflows

-- no step stands there that could be another one
unexpected_before_its_answer : IsLawful (with_flow (λ answers. Unexpected 0 (codes "t") (codes "u"))) → ⊥
unexpected_before_its_answer l = let z : 0 < 0 = l.counts function Null [] in absurd (omega (arith, z))

abbrev asks_for : Text → Val → FlowEnd
asks_for name args = Asks (record { n = 0; kind = asking.Txn; name = name; args = args })

asks_for_no_name : IsLimited (with_flow (λ answers. asks_for [] no_args)) → ⊥
asks_for_no_name l = let z : 1 ≤ 0 = (l.ends function no_args [] they_are_args tt).0.long in absurd (omega (arith, z))

-- a transaction is asked for with a list
asks_with_null : IsLimited (with_flow (λ answers. asks_for (codes "t") Null)) → ⊥
asks_with_null l = absurd (l.ends function no_args [] they_are_args tt).1

-- ---- transactions

-- a key in a range, where there is none
looks_at_a_key_too_many : IsLawful (with_txn (record no_run { reads = Range (codes "t") [] (codes "z") ((codes "k", 1) ∷ []) ∷ [] })) → ⊥
looks_at_a_key_too_many l = let z : 1 ≡ 0 = ap (λ (ks : List (Text × ℕ)). length ks) (l.looks_true function Null empty).looks.0 in absurd (omega (arith, z))

it_is_within : IsWithinLimits empty
it_is_within = record { cells = λ table key. tt; versions = λ table key. lit< tt; keys = λ table lo hi. tt }

-- what the limits ask of a body that gives just this
run_of : (run : TxnRun) → IsLimited (with_txn run) → RunsWell run
run_of run l = l.runs function no_args empty they_are_args it_is_within

txn_fails_with_a_long_word : IsLimited (with_txn (record no_run { outcome = outcomes.Failure (replicate 4092 97) })) → ⊥
txn_fails_with_a_long_word l =
    let z : 4092 ≤ 4091 = (run_of (record no_run { outcome = outcomes.Failure (replicate 4092 97) }) l).outcome.short in
    absurd (omega (arith, z))

looks_at_no_table : IsLimited (with_txn (record no_run { reads = At [] (codes "k") 0 ∷ [] })) → ⊥
looks_at_no_table l =
    let z : 1 ≤ 0 = (run_of (record no_run { reads = At [] (codes "k") 0 ∷ [] }) l).looks.0.0.long in
    absurd (omega (arith, z))

-- a range's bound has at most 256 bytes
looks_past_a_long_bound : IsLimited (with_txn (record no_run { reads = Range (codes "t") (replicate 257 97) [] [] ∷ [] })) → ⊥
looks_past_a_long_bound l =
    let z : 257 ≤ 256 = (run_of (record no_run { reads = Range (codes "t") (replicate 257 97) [] [] ∷ [] }) l).looks.0.1.short in
    absurd (omega (arith, z))

-- ---- maps

abbrev table : Text
table = codes "t"

abbrev key : Text
key = codes "k"

a_map_of_a_heavy_value : IsWithinLimits (record empty { cell = λ t k. Some (TextVal (replicate 4092 97)) }) → ⊥
a_map_of_a_heavy_value m = let z : 4097 ≤ 4096 = (m.cells table key).small in absurd (omega (arith, z))

a_map_of_a_large_version : IsWithinLimits (record empty { version = λ t k. 2 ^ 32 }) → ⊥
a_map_of_a_large_version m = let z : 2 ^ 32 < 2 ^ 32 = m.versions table key in absurd (omega (arith, z))

a_map_of_an_empty_key : IsWithinLimits (record empty { keys = λ t lo hi. [] ∷ [] }) → ⊥
a_map_of_an_empty_key m = let z : 1 ≤ 0 = (m.keys table [] []).0.long in absurd (omega (arith, z))
