use Rattle.std.proofs.Common.{◌∙◌, ap}
use Rattle.r3_entry.specs.History.{Map}
use Rattle.r3_chain.specs.Versions.{as_of}
use Rattle.r3_formed.specs.Rules.{range_in}
use Rattle.r3_formed.proofs.looks.texts_between.Goals as goal

pub returns : goal.returns
returns c =
    let m : Map = as_of c.args.index c.args.chains.now.versions in
    c.in_ok-keys.ensures ∙ ap (λ t. range_in m t c.in_ok-lo.lo c.in_ok-hi.hi) c.in_ok-table.ensures
    ∙ ap (λ t. range_in m c.args.table.now t c.in_ok-hi.hi) c.in_ok-lo.ensures ∙ ap (λ t. range_in m c.args.table.now c.args.lo.now t) c.in_ok-hi.ensures
