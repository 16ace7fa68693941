-- Longer lists of answers, and runs from a later count.
use Rattle.std.proofs.Common.{◌≡◌, Bool, true, false, List, [], ◌∷◌, ◌++◌, Option, refl}
use Rattle.std.specs.Prelude.{if◌then◌else◌}
use Rattle.std.specs.Str.{bytes_eq}
use Rattle.fn_tree.specs.declared.flow.FlowEnd.{FlowEnd}
use Rattle.fn_tree.specs.declared.flow.Answer.{Answer}
use Rattle.fn_tree.specs.Statement.{Goes, Returns, Failed, Asks, Stuck}
use Rattle.fn_tree.specs.Transaction.{Counted, on_versions}
use Rattle.fn_tree.specs.Expression.{calls_of}
use Rattle.fn_tree.specs.Flow.{flow_of, Left, answered, on_asks}
use Rattle.fn_tree.specs.LongerAnswers.{IsOver, RunsOn}
use Rattle.fn_tree.specs.Cost.{TransactionsShift, FlowsShift}
use Rattle.fn_meaning.proofs.ExpressionCost.{calls_of_shifts}
use Rattle.fn_meaning.proofs.StatementCost.{body_shifts}
use Rattle.fn_meaning.proofs.EffectsCost.{versions_shift, asks_shift}

-- the same branch of both, by one test
by_branch : (b : Bool) (x x' y : Option (Counted FlowEnd)) → IsOver (if b then x else y) → (IsOver x → x' ≡ x) → (if b then x' else y) ≡ (if b then x else y)
by_branch true x x' y over e = e over
by_branch false x x' y over e = refl

-- a run that is over stays so on every longer list of answers
pub longer : (d : Left (Unit {0})) (answers more : List Answer) → IsOver (answered d answers) → answered d (answers ++ more) ≡ answered d answers
longer (Goes a at) answers more over = refl
longer (Returns v at) answers more over = refl
longer (Failed word at) answers more over = refl
longer (Asks q at next) [] more over = absurd over
longer (Asks q at next) (a ∷ answers) more over = by_branch (bytes_eq a.name q.name) (answered (next a.outcome) answers) _ _ over (longer (next a.outcome) answers more)
longer Stuck answers more over = refl

pub runs_on : RunsOn
runs_on items name args answers more over = longer (flow_of items name args) answers more over

pub transactions_shift : TransactionsShift
transactions_shift items base body at k = body_shifts (on_versions base) (calls_of items) (versions_shift base) (calls_of_shifts items) body at k

pub flows_shift : FlowsShift
flows_shift items body at k = body_shifts (on_asks items) (calls_of items) (asks_shift items) (calls_of_shifts items) body at k
