use Rattle.std.proofs.Common.{◌≡◌, drop, take, length}
use Rattle.std.specs.Prelude.{map}
use Rattle.fn_check.specs.BodyCheck.{in_order, stmt_check, kind_of}
use Rattle.fn_check.proofs.statement.+statement.Given as goal

abbrev pub invariant-block-loop-s : goal.invariant-block-loop-s
invariant-block-loop-s l =
    (in_order (map (stmt_check l.items (kind_of l.kind)) (drop l.s-index l.body)) l.scope
    ≡ in_order (map (stmt_check l.items (kind_of l.kind)) l.body) l.fn.scope)
    × (take (length l.fn.scope) l.scope ≡ l.fn.scope)
