-- What a run of a transaction answers.
use Rattle.std.specs.Prelude.{◌≡◌, ℕ, ◌+◌, List, [], Option, Some, None}
use Rattle.r3_value.specs.declared.value.Val.{Val}
use Rattle.fn_tree.specs.declared.look.TxnRun.{TxnRun}
use Rattle.fn_tree.specs.Transaction.{Counted}

-- the run is the one that the meaning gives, and the counter rose by its cost
pub record Runs (meaning : Option (Counted TxnRun)) (run : TxnRun) (before now : ℕ) : Type 0 where
  pub cost : ℕ
  pub same : meaning ≡ Some (record { run = run; cost = cost })
  pub rose : now ≡ before + cost

-- the same, where None is a run that is stuck
abbrev pub RunsOrStuck : Option (Counted TxnRun) → Option TxnRun → ℕ → ℕ → Type 0
RunsOrStuck meaning (Some run) before now = Runs meaning run before now
RunsOrStuck meaning None before now = meaning ≡ None

abbrev pub counted : Option TxnRun → ℕ → Option (Counted TxnRun)
counted (Some run) cost = Some (record { run = run; cost = cost })
counted None cost = None

-- the arguments that a value lists
abbrev pub arguments_of : Option (List Val) → List Val
arguments_of (Some vs) = vs
arguments_of None = []
