use Rattle.std.proofs.Common.{◌≡◌, ◌++◌, drop}
use Rattle.fn_spell.specs.Pieces.{spaced}
use Rattle.fn_spell.specs.Spelling.{program_pieces}
use Rattle.fn_spell.proofs.items.items.Given as goal

abbrev pub invariant-loop-i : goal.invariant-loop-i
invariant-loop-i l = l.out.items ++ spaced (program_pieces (drop l.i-index l.all)) ≡ spaced (program_pieces l.all)
