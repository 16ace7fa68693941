use Rattle.std.proofs.Common.{◌≡◌, ◌++◌, drop}
use Rattle.fn_spell.specs.Pieces.{escaped}
use Rattle.fn_spell.proofs.texts.put_bytes.Given as goal

abbrev pub invariant-loop-b : goal.invariant-loop-b
invariant-loop-b l = l.out.items ++ escaped (drop l.b-index l.bytes) ≡ l.fn.out.items ++ escaped l.bytes
