use Rattle.std.proofs.Common.{List, length}
use Rattle.r3_entry.specs.declared.entry.Entry.{Entry}
use Rattle.r3_past.proofs.Steps.{AreFirst}
use Rattle.r3_past.proofs.step_rows.recorded_below.Given as goal

abbrev pub invariant-steps : goal.invariant-steps
invariant-steps g l = (h : List Entry) → g.P.Past.stands l.past h → AreFirst h (length h) l.id l.below l.n l.rows.items
