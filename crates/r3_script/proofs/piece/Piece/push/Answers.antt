use Rattle.std.proofs.Common.{◌≡◌, ◌==◌, ℕ, Bool, true, false, not, refl, sym, ap, ◌∙◌, rules, arith, append_assoc}
use Rattle.r3_script.specs.Lines.{is_line}
use Rattle.r3_script.proofs.Pushing.{cuts_more, completes, cuts_blank, too_long}
use Rattle.r3_script.proofs.piece.Piece.push.Goals as goal

pub returns-then-self-ge-LIMIT-clause-pushed : goal.returns-then-self-ge-LIMIT-clause-pushed
returns-then-self-ge-LIMIT-clause-pushed c = λ bytes handed cuts. too_long c.args.self.now bytes handed cuts c.if-self-ge-LIMIT.true c.args.self.now.limit

pub returns-then-byte-ne-NEWLINE-clause-pushed : goal.returns-then-byte-ne-NEWLINE-clause-pushed
returns-then-byte-ne-NEWLINE-clause-pushed c = λ bytes handed cuts.
    let t : (c.args.byte == 10) ≡ false = search rules in
    cuts_more c.args.self.now _ bytes c.args.byte handed cuts c.in_ok-push.ensures.items refl t

pub returns-then-has_text-clause-pushed : goal.returns-then-has_text-clause-pushed
returns-then-has_text-clause-pushed c = λ bytes handed cuts.
    let l : is_line c.args.self.now.bytes.items ≡ true = search rules in
    let t : c.args.byte ≡ 10 = search rules in
    completes c.args.self.now _ bytes c.args.byte handed cuts refl refl t l

pub returns-clause-pushed : goal.returns-clause-pushed
returns-clause-pushed c = λ bytes handed cuts.
    let l : is_line c.args.self.now.bytes.items ≡ false = search rules in
    let t : c.args.byte ≡ 10 = search rules in
    cuts_blank c.args.self.now _ bytes c.args.byte handed cuts c.clear.ensures.items refl t l
