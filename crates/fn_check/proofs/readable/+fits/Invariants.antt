use Rattle.std.proofs.Common.{◌≡◌, drop}
use Rattle.fn_check.specs.FirstFault.{all_fit}
use Rattle.fn_check.proofs.readable.+fits.Given as goal

abbrev pub invariant-block_fits-loop-s : goal.invariant-block_fits-loop-s
invariant-block_fits-loop-s l = all_fit (drop l.s-index l.body) ≡ all_fit l.body
