use Rattle.std.proofs.Common.{rules}
use Rattle.fn_check.proofs.KnownLemmas.{known_pushed}
use Rattle.fn_check.proofs.variables.Variables.bind.Goals as goal

pub invariant_of-self-in-Ok : goal.invariant_of-self-in-Ok
invariant_of-self-in-Ok c =
    known_pushed _ _ _ _ _ c.args.name.now _ c.in_ok-copy.field-0 c.self.invariant c.requires.new c.in-Ok.ensures.updates
    (search rules) (search rules) (search rules) (search rules)
