use Rattle.std.proofs.Common.{◌≡◌, take, map}
use Rattle.r3_formed.specs.Answers.{name}
use Rattle.r3_formed.proofs.looks.names_of.Given as goal

abbrev pub invariant-keys : goal.invariant-keys
invariant-keys l = l.names.items ≡ map (λ r. (name r.0.now, r.1)) (take l.seen-index l.keys)
