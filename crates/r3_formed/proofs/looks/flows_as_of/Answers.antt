use Rattle.std.proofs.Common.{◌∙◌, ap, map, []}
use Rattle.r3_rows.specs.declared.rows.Key.TheVariants.{Flow}
use Rattle.r3_entry.specs.History.{Map}
use Rattle.r3_chain.specs.Versions.{as_of}
use Rattle.r3_formed.specs.Rules.{named_between}
use Rattle.r3_formed.proofs.LookLemmas.{flows_between}
use Rattle.r3_formed.proofs.looks.flows_as_of.Goals as goal

pub returns : goal.returns
returns c =
    let m : Map = as_of c.args.index c.args.chains.now.versions in
    c.in_ok-ids.ensures
    ∙ ap (map (λ p. p.0)) (c.deref.ensures.value ∙ c.in_ok-names.ensures ∙ ap (λ k. named_between k c.in_ok-hi.hi m) c.in_ok-lo.ensures ∙ ap (λ k. named_between (Flow []) k m) c.in_ok-hi.ensures)
    ∙ flows_between m
