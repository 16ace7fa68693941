-- The language of a program has what the laws ask for.
use Rattle.std.proofs.Common.{◌≡◌, List, [], Option, Some, None, refl, arith}
use Rattle.std.specs.Prelude.{unwrap_or}
use Rattle.r3_value.specs.declared.value.Val.{Val}
use Rattle.fn_tree.specs.declared.look.TxnRun.{TxnRun}
use Rattle.fn_tree.specs.declared.program.Item.{Item}
use Rattle.fn_tree.specs.Expression.{calls_of}
use Rattle.fn_tree.specs.Flow.{flow_of}
use Rattle.fn_tree.specs.Limits.{IsWithin}
use Rattle.fn_tree.specs.Transaction.{Versions, Counted, txn_meaning}
use Rattle.fn_tree.specs.Values.{items_of}
use Rattle.fn_meaning.proofs.LimitLemmas.{runs_within}
use Rattle.r3_model.specs.Language.{Text}
use Rattle.r3_model.specs.Lawful.{IsLawful, RunsTrue}
use Rattle.r3_model.specs.Functions.{run_of, language_of}
use Rattle.r3_laws.proofs.FlowRuns.{flow-counts, stays-over, goes-on}
use Rattle.r3_laws.proofs.TxnRuns.{IfRun, items-read, among-true}

run-true : (items : List Item) (m : Versions) (name : Text) (args : List Val) (o : Option (Counted TxnRun)) → txn_meaning items m name args ≡ o → IfRun m o → RunsTrue m (run_of o)
run-true items m name args None is t = record { looks = tt; few_looks = omega arith; few_puts = omega arith; rising = refl }
run-true items m name args (Some r) is t =
    let w : IsWithin r.run.reads r.run.writes = runs_within items m name args r is in
    record { looks = t.0; few_looks = omega (arith, items-read r.run.reads, w.few_items); few_puts = w.few_keys; rising = t.1 }

pub programs-lawful : (items : List Item) → IsLawful (language_of items)
programs-lawful items = record {
  counts = flow-counts items;
  over = λ function args answers more over. stays-over (flow_of items function args) answers more over;
  goes_on = λ function args answers a q is same. goes-on (flow_of items function args) answers a q is same;
  looks_true = λ name args m. run-true items m name (unwrap_or (items_of args) []) (txn_meaning items m name (unwrap_or (items_of args) [])) refl (among-true m (calls_of items) items name (unwrap_or (items_of args) []));
}
