use Rattle.std.proofs.Common.{◌≡◌, ◌≤◌, ◌+◌, ◌++◌, drop, length, sym, ap, subst, ◌∙◌, arith}
use Rattle.std.specs.Prelude.{IfOk}
use Rattle.std.specs.Str.{IsAscii}
use Rattle.fn_lex.specs.Lexemes.{denoted}
use Rattle.fn_syntax.proofs.TextLemmas.{text_ascii, at_place, closed_text, ended_text}
use Rattle.fn_syntax.proofs.texts.unquoted.Goals as goal

pub txt-requires-clause-ascii : goal.txt-requires-clause-ascii
txt-requires-clause-ascii c =
    let e : denoted c.args.word.now ≡ c.as_slice.result.now = closed_text c.args.word.now c.split_at.result.1.now c.loop-b.bytes.items _ c.loop-b.escaped c.loop-b.b-index c.closes.result c.split_at.ensures.back c.loop-b-test.true c.closes.ensures c.if-closes.true c.loop-b.invariant c.as_slice.ensures.value in
    subst IsAscii e (text_ascii c.args.word.now c.requires.quoted)

pub txt-requires-clause-short : goal.txt-requires-clause-short
txt-requires-clause-short c =
    let e : denoted c.args.word.now ≡ c.as_slice.result.now = closed_text c.args.word.now c.split_at.result.1.now c.loop-b.bytes.items _ c.loop-b.escaped c.loop-b.b-index c.closes.result c.split_at.ensures.back c.loop-b-test.true c.closes.ensures c.if-closes.true c.loop-b.invariant c.as_slice.ensures.value in
    subst (λ w. length w ≤ 4091) e c.requires.short

pub returns-then-closes : goal.returns-then-closes
returns-then-closes c =
    let e : denoted c.args.word.now ≡ c.as_slice.result.now = closed_text c.args.word.now c.split_at.result.1.now c.loop-b.bytes.items _ c.loop-b.escaped c.loop-b.b-index c.closes.result c.split_at.ensures.back c.loop-b-test.true c.closes.ensures c.if-closes.true c.loop-b.invariant c.as_slice.ensures.value in
    subst (λ w. IfOk c.txt.result (λ t. t ≡ w)) (sym e) c.txt.ensures

pub loop-b-preserved : goal.loop-b-preserved
loop-b-preserved c = c.loop-b.invariant ∙ (ap (λ r. c.loop-b.bytes.items ++ r) (at_place c.loop-b.escaped c.loop-b.b-index c.split_at.result.1.now c.loop-b-test.true) ∙ sym (c.in_ok-escaped.ensures (drop (c.loop-b.b-index + 1) c.split_at.result.1.now)))

pub txt-requires-2-clause-ascii : goal.txt-requires-2-clause-ascii
txt-requires-2-clause-ascii c =
    let e : denoted c.args.word.now ≡ c.as_slice-2.result.now = ended_text c.args.word.now c.split_at.result.1.now c.loop-b.bytes.items _ c.loop-b.escaped c.loop-b.b-index c.split_at.ensures.back (omega (arith, c.loop-b-test.false)) c.loop-b.invariant c.as_slice-2.ensures.value in
    subst IsAscii e (text_ascii c.args.word.now c.requires.quoted)
