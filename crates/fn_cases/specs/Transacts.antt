-- A transaction of a program that is called by its name.
use Rattle.std.specs.Prelude.{◌≡◌, ℕ, List, length, Option, Some, None}
use Rattle.r3_value.specs.declared.value.Val.{Val}
use Rattle.fn_tree.specs.declared.flow.AskKind.{AskKind}
use Rattle.fn_tree.specs.declared.flow.AskKind.TheVariants.{Txn}
use Rattle.fn_tree.specs.declared.look.TxnRun.{TxnRun}
use Rattle.fn_tree.specs.declared.program.Item.{Item}
use Rattle.fn_tree.specs.Declarations.{called}
use Rattle.fn_tree.specs.Transaction.{txn_meaning}
use Rattle.fn_tree.specs.Values.{items_of}
use Rattle.fn_tree.specs.Writes.{Versions}
use Rattle.fn_txn.specs.Runs.{Runs}

-- what a call of the name with the arguments that a value lists asks for
abbrev pub called_on : List Item → List ℕ → Option (List Val) → Option AskKind
called_on items name (Some args) = called items name (length args)
called_on items name None = None

-- the run of the transaction that is called
abbrev pub RunsOn : List Item → Versions → List ℕ → Option (List Val) → TxnRun → ℕ → ℕ → Type 0
RunsOn items base name (Some args) run before now = Runs (txn_meaning items base name args) run before now
RunsOn items base name None run before now = ⊥

-- The run, or None where no transaction of the program is called so.
abbrev pub Transacts : List Item → Versions → List ℕ → Val → Option TxnRun → ℕ → ℕ → Type 0
Transacts items base name args (Some run) before now = RunsOn items base name (items_of args) run before now
Transacts items base name args None before now = called_on items name (items_of args) ≡ Some Txn → ⊥
