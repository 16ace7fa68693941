-- A run from a later count is the same run with the count raised.
use Rattle.std.specs.Prelude.{◌≡◌, ℕ, ◌+◌, List}
use Rattle.fn_tree.specs.Expression.{Binding}
use Rattle.fn_tree.specs.declared.expr.Expr.{Expr}
use Rattle.fn_tree.specs.declared.program.Item.{Item}
use Rattle.fn_tree.specs.declared.stmt.Stmt.{Stmt}
use Rattle.fn_tree.specs.Expression.{End, Gives, Fails, Stuck as NoEnd, evaluated, calls_of}
use Rattle.fn_tree.specs.Statement.{At, Ends, Goes, Returns, Failed, Asks, Stuck, body_of}
use Rattle.fn_tree.specs.Transaction.{Versions, on_versions, Log}
use Rattle.fn_tree.specs.Flow.{on_asks}

-- the same end, k nodes later
abbrev pub raised : {A : Type 0} → ℕ → End A → End A
raised k (Gives a units cost) = Gives a units (cost + k)
raised k (Fails word units cost) = Fails word units (cost + k)
raised k NoEnd = NoEnd

-- the same place, k nodes later
abbrev pub later : {W : Type 0} → ℕ → At W → At W
later k at = record at { cost = at.cost + k }

abbrev pub raised_ends : {Q W A : Type 0} → ℕ → Ends Q W A → Ends Q W A
raised_ends k (Goes a at) = Goes a (later k at)
raised_ends k (Returns v at) = Returns v (later k at)
raised_ends k (Failed word at) = Failed word (later k at)
raised_ends k (Asks q at next) = Asks q (later k at) (λ o. raised_ends k (next o))
raised_ends k Stuck = Stuck

abbrev pub ExpressionsShift : Type 0
ExpressionsShift = (items : List Item) (e : Expr) (env : List Binding) (units cost k : ℕ) → evaluated (calls_of items) e env units (cost + k) ≡ raised k (evaluated (calls_of items) e env units cost)

abbrev pub TransactionsShift : Type 0
TransactionsShift = (items : List Item) (base : Versions) (body : List Stmt) (at : At Log) (k : ℕ) → body_of (on_versions base) (calls_of items) body (later k at) ≡ raised_ends k (body_of (on_versions base) (calls_of items) body at)

abbrev pub FlowsShift : Type 0
FlowsShift = (items : List Item) (body : List Stmt) (at : At ℕ) (k : ℕ) → body_of (on_asks items) (calls_of items) body (later k at) ≡ raised_ends k (body_of (on_asks items) (calls_of items) body at)
