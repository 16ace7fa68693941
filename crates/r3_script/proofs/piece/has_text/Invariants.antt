use Rattle.std.proofs.Common.{◌≡◌, drop}
use Rattle.r3_script.specs.Lines.{is_line}
use Rattle.r3_script.proofs.piece.has_text.Given as goal

abbrev pub invariant-bytes : goal.invariant-bytes
invariant-bytes l = is_line l.bytes ≡ is_line (drop l.byte-index l.bytes)
