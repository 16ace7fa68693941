use Rattle.std.proofs.Common.{ap, ◌∙◌, Option}
use Rattle.std.specs.Option.{option_map_or}
use Rattle.r3_rows.specs.declared.rows.Cell.{Cell}
use Rattle.r3_chain.specs.Versions.{Version}
use Rattle.r3_store.proofs.Found.{found_at}
use Rattle.r3_store.proofs.store.Store.version_at.Goals as goal

pub returns : goal.returns
returns c = λ h stands readable.
    c.version.ensures ∙ ap (λ (v : Option (Version Cell)). option_map_or (λ w. w.0) v 0) (found_at c.args.self.now h c.args.index c.args.key.now stands readable)
