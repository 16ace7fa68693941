-- What the laws of steps speak of: lines, histories and replies that are so, and some that aren't.
use Rattle.std.proofs.Common.{◌≡◌, suc, zero, [], ◌∷◌, Some, None, refl, arith}
use Rattle.std.specs.Prelude.{codes}
use Rattle.r3_value.specs.Value as value
use Rattle.r3_value.specs.declared.value.Outcome.TheVariants as outcomes
use Rattle.r3_value.specs.declared.value.Val.TheVariants.{Null, List as ListOf}
use Rattle.r3_rows.specs.declared.rows.StepKind.TheVariants as kinds
use Rattle.r3_rows.specs.declared.rows.StepRow.{StepRow}
use Rattle.r3_entry.specs.declared.entry.Act.TheVariants as acts
use Rattle.r3_entry.specs.declared.entry.Entry.{Entry}
use Rattle.sys_flow.specs.declared.command.Command.TheVariants.{Load}
use Rattle.r3_model.specs.Acts.{step_write}
use Rattle.r3_model.specs.Event.{Append, Run, Unexpects, EntryOf}
use Rattle.r3_model.specs.Script.{Does, Drain}
use Rattle.r3_laws.specs.OfHistories.{WritesStepsOnce}
use Rattle.r3_repeats.specs.Steps.{IsOfScript, IsExpected}

-- ---- lines

a_row : IsOfScript (Does (Run (Load (codes "t") ((codes "k", Null) ∷ []))))
a_row = (omega arith, omega arith)

no_rows : IsOfScript (Does (Run (Load (codes "t") []))) → ⊥
no_rows is = omega (arith, is.0)

a_program : IsOfScript (Does (Append (codes "t"))) → ⊥
a_program is = is

a_drain : IsOfScript (Drain 3)
a_drain = tt

-- ---- steps

abbrev paid : StepRow
paid = record { name = codes "pay"; kind = kinds.Txn; outcome = outcomes.Value Null }

abbrev commit : Entry
commit = record { act = acts.Txn (codes "a") 0 (ListOf value.no_items); snap = 2; reads = []; writes = step_write (codes "a") 0 paid ∷ [] }

is_once : WritesStepsOnce (commit ∷ [])
is_once id n zero zero e f at_i at_j one two = refl
is_once id n zero (suc j) e f at_i at_j one two = absurd (let z : None ≡ Some f = at_j in cc)
is_once id n (suc i) j e f at_i at_j one two = absurd (let z : None ≡ Some e = at_i in cc)

is_twice : WritesStepsOnce (commit ∷ commit ∷ []) → ⊥
is_twice once = let z : 0 ≡ 1 = once (codes "a") 0 0 1 commit commit refl refl refl refl in omega (arith, z)

-- ---- replies

is_expected : IsExpected (EntryOf 2 (codes "a"))
is_expected = tt

is_unexpected : IsExpected (Unexpects 0 (codes "pay") (codes "send")) → ⊥
is_unexpected is = is
