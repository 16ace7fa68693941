use Rattle.std.proofs.Common.{◌≡◌, ◌-◌, ◌^◌, List, ℕ, false}
use Rattle.r3_script.specs.Lines.{Text}
use Rattle.r3_script.specs.Script.{Reads}
use Rattle.r3_script.proofs.Going.{Since}
use Rattle.r3_script.proofs.script.Script.next_line.Given as goal

abbrev pub invariant-bytes : goal.invariant-bytes
invariant-bytes g l = record {
  open_still : l.self.ended ≡ false;
  faults : g.S.Source.faults l.source ≡ g.S.Source.faults l.fn.source;
  lines : (given : Text) (handed : List Text) → Reads l.fn.self given handed → Since (g.S.Source.left l.fn.source) (g.S.Source.left l.source) l.self.chunk l.self.piece given handed;
}

abbrev pub decreases-bytes : goal.decreases-bytes
decreases-bytes g l = 2 ^ 26 - l.self.piece.passed
