use Rattle.std.proofs.Common.{◌≡◌, ◌++◌, drop, map}
use Rattle.std.specs.List.{filter_map}
use Rattle.r3_model.specs.Language.{Queue}
use Rattle.r3_model.specs.Functions.{queue_of}
use Rattle.r3_exec.proofs.exec.Exec.queues.Given as goal

abbrev pub invariant-items : goal.invariant-items
invariant-items l = map (λ (q : Queue). q.name) (filter_map queue_of l.fn.self.program) ≡ l.names.items ++ map (λ (q : Queue). q.name) (filter_map queue_of (drop l.item-index l.item-items))
