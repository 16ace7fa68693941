use Rattle.std.proofs.Common.{◌≡◌, drop}
use Rattle.fn_tree.specs.Literals.{body_fits}
use Rattle.fn_tree.proofs.literals.+statements.Given as goal

abbrev pub invariant-block-loop-s : goal.invariant-block-loop-s
invariant-block-loop-s l = body_fits (drop l.s-index l.body) ≡ body_fits l.body
