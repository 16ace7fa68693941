-- What a workflow's run asks for is in its program.
use Rattle.std.specs.Prelude.{◌≡◌, ℕ, List, length, Some, IsSome}
use Rattle.r3_value.specs.declared.value.Val.{Val}
use Rattle.fn_tree.specs.declared.flow.Answer.{Answer}
use Rattle.fn_tree.specs.declared.flow.AskKind.TheVariants as kinds
use Rattle.fn_tree.specs.declared.flow.FlowEnd.TheVariants as flow
use Rattle.fn_tree.specs.declared.flow.Request.{Request}
use Rattle.fn_tree.specs.declared.program.Item.{Item}
use Rattle.fn_tree.specs.Declarations.{called}
use Rattle.fn_tree.specs.Values.{items_of}
use Rattle.fn_txn.specs.Runs.{arguments_of}
use Rattle.r3_model.specs.Functions.{language_of}

-- the program has the transaction, with as many parameters as there are arguments
pub record IsCall (items : List Item) (q : Request) : Type 0 where
  pub list : IsSome (items_of q.args)
  pub called : called items q.name (length (arguments_of (items_of q.args))) ≡ Some kinds.Txn

-- a transaction that a run asks for is there
abbrev pub AsksWhatIsThere : Type 0
AsksWhatIsThere = (items : List Item) (f : List ℕ) (args : Val) (answers : List Answer) (q : Request)
    → (language_of items).flow f args answers ≡ flow.Asks q → q.kind ≡ kinds.Txn → IsCall items q
