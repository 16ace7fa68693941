use Rattle.std.proofs.Common.{rules, ◌≡◌, true, sym}
use Rattle.r3_words.specs.Numbers.{is_decimal}
use Rattle.r3_words.proofs.NumberLemmas.{none_past}
use Rattle.r3_words.proofs.number.number.Goals as goal

pub returns-in_default : goal.returns-in_default
returns-in_default c =
    let d : is_decimal c.args.text.now ≡ true = search rules in
    sym (none_past c.args.least c.args.most c.args.text.now c.in_default.field-0 c.ranges.most.fits
    c.in_default.ensures.value.0 d)
