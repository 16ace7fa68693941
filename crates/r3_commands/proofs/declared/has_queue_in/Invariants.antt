use Rattle.std.proofs.Common.{◌≡◌, drop, filter_map, bytes_eq}
use Rattle.std.specs.List.{list_any}
use Rattle.r3_model.specs.Language.{Queue}
use Rattle.r3_model.specs.Functions.{queue_of}
use Rattle.r3_commands.proofs.declared.has_queue_in.Given as goal

abbrev pub invariant-items : goal.invariant-items
invariant-items l =
    list_any (λ (q : Queue). bytes_eq q.name l.queue) (filter_map queue_of l.items)
    ≡ list_any (λ (q : Queue). bytes_eq q.name l.queue) (filter_map queue_of (drop l.item-index l.items))
