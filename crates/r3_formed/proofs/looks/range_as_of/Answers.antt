use Rattle.std.proofs.Common.{◌∙◌, ap, map}
use Rattle.r3_formed.specs.Answers.{name}
use Rattle.r3_formed.proofs.LookLemmas.{named_range}
use Rattle.r3_formed.proofs.looks.range_as_of.Goals as goal

pub returns : goal.returns
returns c =
    c.in_ok-names.ensures ∙ ap (map (λ r. (name r.0.now, r.1))) c.deref.ensures.value
    ∙ named_range c.args.chains.now.versions c.args.index c.args.lo.now c.args.hi.now c.in_ok-keys.keys.items c.in_ok-keys.ensures
