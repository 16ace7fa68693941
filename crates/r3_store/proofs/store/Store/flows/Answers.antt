use Rattle.std.proofs.Common.{ap, ◌∙◌, inr}
use Rattle.std.specs.List.{filter_map}
use Rattle.r3_entry.specs.History.{Map, map_at}
use Rattle.r3_formed.specs.Answers.{flow_in}
use Rattle.r3_store.proofs.Found.{map_is}
use Rattle.r3_store.proofs.store.Store.flows.Goals as goal

pub returns : goal.returns
returns c = λ h stands.
    c.in_ok-ids.ensures ∙ ap (λ (m : Map). filter_map flow_in m) (map_is c.args.self.now h c.count.result stands (inr c.count.ensures) ∙ ap (map_at h) (c.count.ensures ∙ stands.count))
