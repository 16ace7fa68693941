use Rattle.std.proofs.Common.{ap, ◌∙◌}
use Rattle.r3_entry.specs.History.{Map}
use Rattle.r3_formed.specs.Rules.{range_in}
use Rattle.r3_store.proofs.Found.{map_is}
use Rattle.r3_store.proofs.store.Store.range_at.Goals as goal

pub returns : goal.returns
returns c = λ h stands readable.
    c.in_ok-keys.ensures ∙ ap (λ (m : Map). range_in m c.args.table.now c.args.lo.now c.args.hi.now) (map_is c.args.self.now h c.args.index stands readable)
