use Rattle.std.proofs.Common.{◌≡◌, drop, filter_map, bytes_eq}
use Rattle.std.specs.Prelude.{find}
use Rattle.r3_model.specs.Language.{Queue}
use Rattle.r3_model.specs.Functions.{queue_of}
use Rattle.r3_plain.proofs.declared.queue_in.Given as goal

abbrev pub invariant-items : goal.invariant-items
invariant-items l =
    find (λ (q : Queue). bytes_eq q.name l.called) (filter_map queue_of l.items)
    ≡ find (λ (q : Queue). bytes_eq q.name l.called) (filter_map queue_of (drop l.item-index l.items))
