use Rattle.std.proofs.Common.{◌≡◌, ◌++◌, map}
use Rattle.sys_queue.specs.Lines.{Place}
use Rattle.sys_pending.proofs.pending.Pending.ids.Given as goal

abbrev pub invariant-loop-place : goal.invariant-loop-place
invariant-loop-place l = l.ids.items ++ map (λ (p : Place). p.1) l.place-iterator ≡ map (λ (p : Place). p.1) l.self
