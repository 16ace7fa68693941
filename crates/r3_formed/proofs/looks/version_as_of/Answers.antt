use Rattle.std.proofs.Common.{ap, ◌∙◌, Option}
use Rattle.std.specs.Option.{option_map_or}
use Rattle.r3_rows.specs.declared.rows.Cell.{Cell}
use Rattle.r3_chain.specs.Versions.{Version}
use Rattle.r3_formed.specs.LookLaws.{found_in}
use Rattle.r3_formed.proofs.looks.version_as_of.Goals as goal

pub returns : goal.returns
returns c =
    c.version.ensures ∙ ap (λ (v : Option (Version Cell)). option_map_or (λ w. w.0) v 0) (found_in c.args.chains.now.versions c.args.index c.args.key.now c.requires)
