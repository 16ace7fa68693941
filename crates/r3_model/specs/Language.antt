-- What the machine asks of a program: what it declares, and what its bodies do. Nothing of their syntax.
use Rattle.std.specs.Prelude.{ℕ, Bool, List, Option}
use Rattle.r3_value.specs.declared.value.Val.{Val}
use Rattle.fn_tree.specs.declared.flow.Answer.{Answer}
use Rattle.fn_tree.specs.declared.flow.FlowEnd.{FlowEnd}
use Rattle.fn_tree.specs.declared.look.TxnRun.{TxnRun}
use Rattle.fn_tree.specs.Writes.{Versions}

-- an ID, a name or a row key, as its bytes
abbrev pub Text : Type 0
Text = List ℕ

-- a queue, with the number of its workflows that may run at a time
pub record Queue : Type 0 where
  pub name : Text
  pub bound : ℕ

pub record Language : Type 0 where
  pub has_table : Text → Bool
  -- in declared order
  pub queues : List Queue
  -- the number of a workflow's parameters, if it is declared
  pub arity : Text → Option ℕ
  -- how far a workflow comes on its arguments and its recorded steps
  pub flow : Text → Val → List Answer → FlowEnd
  -- what a transaction's body gives on a map with versions
  pub txn : Text → Val → Versions → TxnRun
