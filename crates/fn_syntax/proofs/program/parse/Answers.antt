use Rattle.std.proofs.Common.{◌≡◌, length, Some, None, true, false, refl, sym, subst, ◌∙◌, arith}
use Rattle.std.specs.Prelude.{slice_range, slice_index_or}
use Rattle.fn_lex.specs.declared.span.Token.{Token}
use Rattle.fn_lex.specs.declared.span.TokenKind.TheVariants as kind
use Rattle.fn_grammar.specs.Letters.{letter, letters}
use Rattle.fn_grammar.specs.Derivation.{IsProgram}
use Rattle.fn_grammar.specs.Place.{IsPlace}
use Rattle.fn_syntax.specs.Machine.{state_of}
use Rattle.fn_syntax.proofs.MachineLemmas.{takes_true, takes_false}
use Rattle.fn_syntax.proofs.ParseLemmas.{ahead_start, start_tame, ahead_token, place_token, none_token, ahead_all, program_is, program_only, place_end, none_end, at_of}
use Rattle.fn_syntax.proofs.ReadableLemmas.{program_names, program_few}
use Rattle.fn_syntax.proofs.SpelledLemmas.{read_with}
use Rattle.fn_syntax.proofs.program.parse.Goals as goal

pub loop-token-init : goal.loop-token-init
loop-token-init c = record { tame = start_tame c.in_ok-parser.parser c.in_ok-parser.ensures.todo; ahead = ahead_start c.in_ok-parser.parser c.in_ok-parser.ensures.todo c.in_ok-parser.ensures.state }

pub returns-then-not-branch-clause-place : goal.returns-then-not-branch-clause-place
returns-then-not-branch-clause-place c = λ at e.
    let text = c.args.text.now in
    let ts = c.args.tokens.now in
    let i = c.loop-token.token-index in
    let p = c.loop-token.parser in
    let d : Token = record { kind = kind.Name; from = 0; to = 0 } in
    let t : Token = slice_index_or ts i d in
    let no : c.in_ok-step.field-0 ≡ false = c.if-not-branch.true in
    let r = takes_false c.in_ok-step.field-0 (Some (letter t.kind (slice_range text t.from t.to))) p.todo (state_of p) c.step.new.self no c.in_ok-step.ensures in
    subst (IsPlace text ts) (at_of t.from at _ _ refl refl e) (place_token text ts i d t p c.loop-token-test.true refl c.loop-token.invariant.ahead r)

pub returns-then-not-branch-clause-none : goal.returns-then-not-branch-clause-none
returns-then-not-branch-clause-none c = λ at e q h.
    let text = c.args.text.now in
    let ts = c.args.tokens.now in
    let i = c.loop-token.token-index in
    let p = c.loop-token.parser in
    let d : Token = record { kind = kind.Name; from = 0; to = 0 } in
    let t : Token = slice_index_or ts i d in
    let no : c.in_ok-step.field-0 ≡ false = c.if-not-branch.true in
    let r = takes_false c.in_ok-step.field-0 (Some (letter t.kind (slice_range text t.from t.to))) p.todo (state_of p) c.step.new.self no c.in_ok-step.ensures in
    none_token text ts i d t p c.loop-token-test.true refl c.loop-token.invariant.ahead r q h

pub returns-then-not-branch-clause-spelled : goal.returns-then-not-branch-clause-spelled
returns-then-not-branch-clause-spelled c = λ q s.
    let text = c.args.text.now in
    let ts = c.args.tokens.now in
    let i = c.loop-token.token-index in
    let p = c.loop-token.parser in
    let d : Token = record { kind = kind.Name; from = 0; to = 0 } in
    let t : Token = slice_index_or ts i d in
    let no : c.in_ok-step.field-0 ≡ false = c.if-not-branch.true in
    let r = takes_false c.in_ok-step.field-0 (Some (letter t.kind (slice_range text t.from t.to))) p.todo (state_of p) c.step.new.self no c.in_ok-step.ensures in
    absurd (none_token text ts i d t p c.loop-token-test.true refl c.loop-token.invariant.ahead r q (read_with text ts q c.one_reading.ensures c.requires.lexed s))

pub loop-token-preserved : goal.loop-token-preserved
loop-token-preserved c =
    let text = c.args.text.now in
    let ts = c.args.tokens.now in
    let i = c.loop-token.token-index in
    let p = c.loop-token.parser in
    let d : Token = record { kind = kind.Name; from = 0; to = 0 } in
    let t : Token = slice_index_or ts i d in
    let yes : c.in_ok-step.field-0 ≡ true = c.if-not-branch.false in
    let k = takes_true c.in_ok-step.field-0 (Some (letter t.kind (slice_range text t.from t.to))) p.todo (state_of p) c.step.new.self yes c.in_ok-step.ensures in
    record { tame = k.tame; ahead = ahead_token text ts i d t p c.step.new.self c.loop-token-test.true refl c.loop-token.invariant.ahead k.went }

pub returns-then-branch-clause-tree : goal.returns-then-branch-clause-tree
returns-then-branch-clause-tree c =
    let text = c.args.text.now in
    let ts = c.args.tokens.now in
    let p = c.loop-token.parser in
    let a = ahead_all text ts c.loop-token.token-index p (omega (arith, c.loop-token-test.false)) c.loop-token.invariant.ahead in
    let k = takes_true c.in_ok-step-2.field-0 None p.todo (state_of p) c.step-2.new.self c.if-branch.true c.in_ok-step-2.ensures in
    subst (IsProgram (letters text ts)) (sym c.into_items.ensures) (program_is (letters text ts) p c.step-2.new.self a k.went)

pub returns-then-branch-clause-only : goal.returns-then-branch-clause-only
returns-then-branch-clause-only c = λ q h.
    let text = c.args.text.now in
    let ts = c.args.tokens.now in
    let p = c.loop-token.parser in
    let a = ahead_all text ts c.loop-token.token-index p (omega (arith, c.loop-token-test.false)) c.loop-token.invariant.ahead in
    let k = takes_true c.in_ok-step-2.field-0 None p.todo (state_of p) c.step-2.new.self c.if-branch.true c.in_ok-step-2.ensures in
    program_only (letters text ts) p c.step-2.new.self a k.went q h ∙ sym c.into_items.ensures

pub returns-then-branch-clause-names : goal.returns-then-branch-clause-names
returns-then-branch-clause-names c =
    let text = c.args.text.now in
    let ts = c.args.tokens.now in
    let p = c.loop-token.parser in
    let a = ahead_all text ts c.loop-token.token-index p (omega (arith, c.loop-token-test.false)) c.loop-token.invariant.ahead in
    let k = takes_true c.in_ok-step-2.field-0 None p.todo (state_of p) c.step-2.new.self c.if-branch.true c.in_ok-step-2.ensures in
    let d = subst (IsProgram (letters text ts)) (sym c.into_items.ensures) (program_is (letters text ts) p c.step-2.new.self a k.went) in
    program_names text ts _ (c.spans_are_slices.ensures text ts None c.requires.lexed) d

pub returns-then-branch-clause-few_params : goal.returns-then-branch-clause-few_params
returns-then-branch-clause-few_params c =
    let text = c.args.text.now in
    let ts = c.args.tokens.now in
    let p = c.loop-token.parser in
    let a = ahead_all text ts c.loop-token.token-index p (omega (arith, c.loop-token-test.false)) c.loop-token.invariant.ahead in
    let k = takes_true c.in_ok-step-2.field-0 None p.todo (state_of p) c.step-2.new.self c.if-branch.true c.in_ok-step-2.ensures in
    let d = subst (IsProgram (letters text ts)) (sym c.into_items.ensures) (program_is (letters text ts) p c.step-2.new.self a k.went) in
    program_few text ts _ (c.spans_are_slices.ensures text ts None c.requires.lexed) d

pub returns-then-branch-clause-spelled : goal.returns-then-branch-clause-spelled
returns-then-branch-clause-spelled c = λ q s.
    let text = c.args.text.now in
    let ts = c.args.tokens.now in
    let p = c.loop-token.parser in
    let a = ahead_all text ts c.loop-token.token-index p (omega (arith, c.loop-token-test.false)) c.loop-token.invariant.ahead in
    let k = takes_true c.in_ok-step-2.field-0 None p.todo (state_of p) c.step-2.new.self c.if-branch.true c.in_ok-step-2.ensures in
    let h = read_with text ts q c.one_reading.ensures c.requires.lexed s in
    c.into_items.ensures ∙ sym (program_only (letters text ts) p c.step-2.new.self a k.went q h)

pub returns-else-branch-clause-place : goal.returns-else-branch-clause-place
returns-else-branch-clause-place c = λ at e.
    let text = c.args.text.now in
    let ts = c.args.tokens.now in
    let p = c.loop-token.parser in
    let a = ahead_all text ts c.loop-token.token-index p (omega (arith, c.loop-token-test.false)) c.loop-token.invariant.ahead in
    let r = takes_false c.in_ok-step-2.field-0 None p.todo (state_of p) c.step-2.new.self c.if-branch.false c.in_ok-step-2.ensures in
    subst (IsPlace text ts) (at_of (length text) at _ _ refl refl e) (place_end text ts p a r)

pub returns-else-branch-clause-none : goal.returns-else-branch-clause-none
returns-else-branch-clause-none c = λ at e q h.
    let text = c.args.text.now in
    let ts = c.args.tokens.now in
    let p = c.loop-token.parser in
    let a = ahead_all text ts c.loop-token.token-index p (omega (arith, c.loop-token-test.false)) c.loop-token.invariant.ahead in
    let r = takes_false c.in_ok-step-2.field-0 None p.todo (state_of p) c.step-2.new.self c.if-branch.false c.in_ok-step-2.ensures in
    none_end (letters text ts) p a r q h

pub returns-else-branch-clause-spelled : goal.returns-else-branch-clause-spelled
returns-else-branch-clause-spelled c = λ q s.
    let text = c.args.text.now in
    let ts = c.args.tokens.now in
    let p = c.loop-token.parser in
    let a = ahead_all text ts c.loop-token.token-index p (omega (arith, c.loop-token-test.false)) c.loop-token.invariant.ahead in
    let r = takes_false c.in_ok-step-2.field-0 None p.todo (state_of p) c.step-2.new.self c.if-branch.false c.in_ok-step-2.ensures in
    absurd (none_end (letters text ts) p a r q (read_with text ts q c.one_reading.ensures c.requires.lexed s))
