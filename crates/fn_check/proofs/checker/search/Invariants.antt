use Rattle.std.proofs.Common.{◌≡◌, drop, take}
use Rattle.fn_check.specs.FirstFault.{fault_after, first_fault}
use Rattle.fn_check.proofs.checker.search.Given as goal

abbrev pub invariant-loop-item : goal.invariant-loop-item
invariant-loop-item l = (l.before ≡ l.item-index) × (fault_after (take l.item-index l.items) l.items (drop l.item-index l.items) ≡ first_fault l.items)
