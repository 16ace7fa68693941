use Rattle.std.proofs.Common.{ap, ◌∙◌, Option, ℕ}
use Rattle.std.specs.Option.{option_map}
use Rattle.std.specs.Prelude.{option_and_then}
use Rattle.r3_rows.specs.declared.rows.Cell.{Cell}
use Rattle.r3_chain.specs.Versions.{Version}
use Rattle.r3_formed.specs.LookLaws.{cell_of}
use Rattle.r3_store.proofs.Found.{found_at}
use Rattle.r3_store.proofs.store.Store.read_at.Goals as goal

pub returns-in-Some : goal.returns-in-Some
returns-in-Some c = λ h stands readable.
    ap (λ (r : Option (Cell × ℕ)). option_map (λ x. x.0) r) c.in-Some.ensures ∙ cell_of _
    ∙ ap (λ (v : Option (Version Cell)). option_and_then (λ w. w.1) v) (found_at c.args.self.now h c.args.index c.args.key.now stands readable)

pub returns-in-None : goal.returns-in-None
returns-in-None c = λ h stands readable.
    ap (λ (r : Option (Cell × ℕ)). option_map (λ x. x.0) r) c.in-None.ensures ∙ cell_of _
    ∙ ap (λ (v : Option (Version Cell)). option_and_then (λ w. w.1) v) (found_at c.args.self.now h c.args.index c.args.key.now stands readable)
