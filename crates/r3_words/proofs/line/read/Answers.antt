use Rattle.std.proofs.Common.{◌≡◌, Some, map, string_bytes, subst, sym, rules}
use Rattle.std.specs.Option.{option_map}
use Rattle.r3_words.specs.Forms.{HasLimits, asked, form_of}
use Rattle.r3_words.proofs.LimitLemmas.{Limited, form-limits}
use Rattle.r3_words.proofs.line.read.Goals as goal

pub returns-clause-limits : goal.returns-clause-limits
returns-clause-limits c =
    let e : option_map asked (Some c.in-Some-2.command) ≡ form_of (map string_bytes c.in-Some.rest.now) = search rules in
    subst Limited (sym e) (form-limits (map string_bytes c.in-Some.rest.now))
