use Rattle.std.proofs.Common.{◌≡◌, drop}
use Rattle.std.specs.Prelude.{map}
use Rattle.fn_grammar.specs.Steps.{chosen}
use Rattle.fn_grammar.specs.Written.{seen}
use Rattle.fn_grammar.proofs.choice.choose.Given as goal

abbrev pub invariant-loop-rule : goal.invariant-loop-rule
invariant-loop-rule l = chosen (map (λ r. r.now) l.rules) (seen l.next) ≡ chosen (map (λ r. r.now) (drop l.rule-index l.rules)) (seen l.next)
