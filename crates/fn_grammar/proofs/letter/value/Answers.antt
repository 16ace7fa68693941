use Rattle.std.proofs.Common.{◌-◌, get_or, refl, arith}
use Rattle.std.proofs.lemmas.Bool.{leb-true, and_parts}
use Rattle.fn_lex.specs.Lexemes.{value_from}
use Rattle.fn_grammar.proofs.NumberLemmas.{value_more, value_within}
use Rattle.fn_grammar.proofs.letter.value.Goals as goal

pub overflow_mul-n : goal.overflow_mul-n
overflow_mul-n c =
    let w = c.args.digits.now in
    let le = leb-true (value_from 0 w) 9223372036854775807 (and_parts _ _ c.requires).1 in
    let h = value_within c.loop-d.n c.loop-d.d-index (get_or w c.loop-d.d-index 0 - 48) _ 9223372036854775807 w c.loop-d-test.true refl c.loop-d.invariant.value le in
    omega (arith, h)

pub overflow_add-n : goal.overflow_add-n
overflow_add-n c =
    let w = c.args.digits.now in
    let le = leb-true (value_from 0 w) 9223372036854775807 (and_parts _ _ c.requires).1 in
    let h = value_within c.loop-d.n c.loop-d.d-index c.saturating_sub.result _ 9223372036854775807 w c.loop-d-test.true c.saturating_sub.ensures c.loop-d.invariant.value le in
    omega (arith, h, c.from-digit.ensures)

pub loop-d-preserved : goal.loop-d-preserved
loop-d-preserved c =
    let w = c.args.digits.now in
    let le = leb-true (value_from 0 w) 9223372036854775807 (and_parts _ _ c.requires).1 in
    let h = value_within c.loop-d.n c.loop-d.d-index c.saturating_sub.result _ 9223372036854775807 w c.loop-d-test.true c.saturating_sub.ensures c.loop-d.invariant.value le in
    record { within = omega (arith, h, c.from-digit.ensures); value = rw c.from-digit.ensures (value_more c.loop-d.n c.loop-d.d-index c.saturating_sub.result _ w c.loop-d-test.true c.saturating_sub.ensures c.loop-d.invariant.value) }
