use Rattle.std.proofs.Common.{ap, ◌∙◌, Option, ℕ}
use Rattle.std.specs.Prelude.{option_and_then}
use Rattle.std.specs.Option.{option_map}
use Rattle.r3_rows.specs.declared.rows.Cell.{Cell}
use Rattle.r3_chain.specs.Versions.{Version}
use Rattle.r3_formed.specs.LookLaws.{found_in, cell_of}
use Rattle.r3_formed.proofs.LookLemmas.{some_cell, none_cell}
use Rattle.r3_formed.proofs.looks.is_present.Goals as goal

pub returns-in-Some : goal.returns-in-Some
returns-in-Some c =
    some_cell _ _ (ap (λ (r : Option (Cell × ℕ)). option_map (λ x. x.0) r) c.in-Some.ensures ∙ cell_of _
    ∙ ap (λ (v : Option (Version Cell)). option_and_then (λ w. w.1) v) (found_in c.args.chains.now.versions c.args.index c.args.key.now c.requires))

pub returns-in-None : goal.returns-in-None
returns-in-None c =
    none_cell _ (ap (λ (r : Option (Cell × ℕ)). option_map (λ x. x.0) r) c.in-None.ensures ∙ cell_of _
    ∙ ap (λ (v : Option (Version Cell)). option_and_then (λ w. w.1) v) (found_in c.args.chains.now.versions c.args.index c.args.key.now c.requires))
