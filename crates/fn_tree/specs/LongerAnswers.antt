-- A run that is over stays so on every longer list of answers.
use Rattle.fn_tree.specs.declared.flow.Answer.{Answer}
use Rattle.fn_tree.specs.declared.flow.FlowEnd.{FlowEnd}
use Rattle.fn_tree.specs.declared.program.Item.{Item}
use Rattle.r3_value.specs.declared.value.Val.{Val}
use Rattle.std.specs.Prelude.{◌≡◌, ℕ, List, ◌++◌, Option, Some, None}
use Rattle.fn_tree.specs.declared.flow.FlowEnd.TheVariants as flow
use Rattle.fn_tree.specs.Transaction.{Counted}
use Rattle.fn_tree.specs.Flow.{flow_meaning}

-- a run that no further answer changes
abbrev pub IsEnd : FlowEnd → Type 0
IsEnd (flow.Done outcome) = Unit {0}
IsEnd (flow.Asks request) = ⊥
IsEnd (flow.Unexpected n recorded asked) = Unit {0}

abbrev pub IsOver : Option (Counted FlowEnd) → Type 0
IsOver None = ⊥
IsOver (Some r) = IsEnd r.run

-- A run that is over is the same on every longer list of answers, its cost included.
abbrev pub RunsOn : Type 0
RunsOn = (items : List Item) (name : List ℕ) (args : Val) (answers more : List Answer) → IsOver (flow_meaning items name args answers) → flow_meaning items name args (answers ++ more) ≡ flow_meaning items name args answers
