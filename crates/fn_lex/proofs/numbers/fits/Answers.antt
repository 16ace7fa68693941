use Rattle.std.proofs.Common.{◌<◌, ◌+◌, ◌*◌, arith}
use Rattle.fn_lex.proofs.NumberLemmas.{past}
use Rattle.fn_lex.proofs.numbers.fits.Goals as goal

pub returns-then-n-digit : goal.returns-then-n-digit
returns-then-n-digit c =
    let over : 9223372036854775807 < c.loop-d.n * 10 + c.saturating_sub.result = omega (arith, c.if-n-digit.true, c.from-digit.ensures) in
    past c.loop-d.n c.loop-d.d-index c.saturating_sub.result _ 9223372036854775807 c.args.digits.now c.loop-d-test.true c.saturating_sub.ensures c.loop-d.invariant.value over
