use Rattle.std.proofs.Common.{ℕ, length, Option}
use Rattle.fn_walk.specs.Newest.{IsNewest}
use Rattle.fn_walk.proofs.names.newest.Given as goal

abbrev pub invariant-loop-last : goal.invariant-loop-last
invariant-loop-last l = (r : Option ℕ) → IsNewest l.rest l.name r → IsNewest l.names l.name r

abbrev pub decreases-loop-last : goal.decreases-loop-last
decreases-loop-last l = length l.rest
