use Rattle.std.proofs.Common.{◌∙◌, ap}
use Rattle.r3_rows.specs.declared.rows.Key.TheVariants.{User}
use Rattle.r3_entry.specs.History.{Map}
use Rattle.r3_chain.specs.Versions.{as_of}
use Rattle.r3_formed.specs.Rules.{named_between}
use Rattle.r3_formed.proofs.LookLemmas.{rows_between}
use Rattle.r3_formed.proofs.looks.rows_as_of.Goals as goal

pub returns : goal.returns
returns c =
    let m : Map = as_of c.args.index c.args.chains.now.versions in
    c.in_ok-keys.ensures ∙ ap (λ k. named_between k c.in_ok-to.to m) c.in_ok-from.ensures
    ∙ ap (λ k. named_between (User c.args.table.now c.args.lo.now) k m) c.in_ok-to.ensures
    ∙ rows_between c.args.table.now c.args.lo.now c.args.hi.now m
