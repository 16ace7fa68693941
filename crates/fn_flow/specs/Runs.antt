-- What a counted run of a workflow answers.
use Rattle.std.specs.Prelude.{◌≡◌, ℕ, ◌+◌, Option, Some, None}
use Rattle.fn_tree.specs.declared.flow.FlowEnd.{FlowEnd}
use Rattle.fn_tree.specs.Transaction.{Counted}

-- the run is the one that the meaning gives, and the counter rose by its cost
pub record Runs (meaning : Option (Counted FlowEnd)) (run : FlowEnd) (before now : ℕ) : Type 0 where
  pub cost : ℕ
  pub same : meaning ≡ Some (record { run = run; cost = cost })
  pub rose : now ≡ before + cost

-- the same, where None is a run that is stuck
abbrev pub RunsOrStuck : Option (Counted FlowEnd) → Option FlowEnd → ℕ → ℕ → Type 0
RunsOrStuck meaning (Some run) before now = Runs meaning run before now
RunsOrStuck meaning None before now = meaning ≡ None

abbrev pub counted : Option FlowEnd → ℕ → Option (Counted FlowEnd)
counted (Some run) cost = Some (record { run = run; cost = cost })
counted None cost = None
