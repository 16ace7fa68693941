use Rattle.std.proofs.Common.{◌≡◌, ℕ, ◌+◌, ◌≤◌, ◌<◌, List, drop, length, Some, Err, sym, ap, ◌∙◌, subst, arith}
use Rattle.std.proofs.lemmas.List.{length-drop}
use Rattle.fn_lex.specs.declared.span.Token.{Token}
use Rattle.fn_lex.specs.Lexed.{Lexed}
use Rattle.fn_lex.specs.Pieces.{HasByte}
use Rattle.fn_lex.proofs.LexLemmas.{GoesOn, goes_end, goes_bad, goes_gap, goes_token}
use Rattle.fn_lex.proofs.FrontLemmas.{stands_at, has_byte}
use Rattle.fn_lex.proofs.lexer.tokens.Goals as goal

pub returns-in-End-clause-tokens : goal.returns-in-End-clause-tokens
returns-in-End-clause-tokens c = goes_end c.args.text.now _ c.loop-all.at c.loop-all.left.now c.loop-all.invariant.goes_on (stands_at c.loop-all.left.now _ c.in-End.ensures.piece)

pub returns-in-Bad-clause-refused : goal.returns-in-Bad-clause-refused
returns-in-Bad-clause-refused c = λ at h.
    let same : c.loop-all.at + c.in-Bad.n ≡ at = cc h in
    let F : ℕ → Type 0 = λ at. (ts : List Token) × Lexed 0 c.args.text.now ts (Some at) in
    subst F same (c.loop-all.all.items, goes_bad c.args.text.now c.loop-all.all.items c.loop-all.at c.loop-all.left.now c.in-Bad.n c.loop-all.invariant.goes_on (stands_at c.loop-all.left.now _ c.in-Bad.ensures.piece))

pub loop-all-preserved-in-Gap : goal.loop-all-preserved-in-Gap
loop-all-preserved-in-Gap c = record {
  place = omega (arith, c.loop-all.invariant.place, ap length c.tail-left.ensures, length-drop c.in-Gap.n c.loop-all.left.now, c.in-Gap.ensures.within);
  goes_on = goes_gap c.args.text.now c.loop-all.all.items c.loop-all.at c.loop-all.left.now c.tail-left.result.now c.in-Gap.n c.loop-all.invariant.goes_on (stands_at c.loop-all.left.now _ c.in-Gap.ensures.piece) c.tail-left.ensures;
}

pub loop-all-preserved : goal.loop-all-preserved
loop-all-preserved c = record {
  place = omega (arith, c.loop-all.invariant.place, ap length c.tail-left-in-Token.ensures, length-drop c.in-Token.n c.loop-all.left.now, c.in-Token.ensures.within);
  goes_on = goes_token c.args.text.now c.loop-all.all.items c.push.new.self.items c.loop-all.at c.loop-all.left.now c.tail-left-in-Token.result.now c.in-Token.kind c.in-Token.n c.loop-all.invariant.goes_on (stands_at c.loop-all.left.now _ c.in-Token.ensures.piece) c.tail-left-in-Token.ensures (c.in_ok-push-in-Token.ensures.items);
}

pub loop-all-smaller-in-Gap : goal.loop-all-smaller-in-Gap
loop-all-smaller-in-Gap c =
    let some : 0 < c.in-Gap.n = subst HasByte (sym c.in-Gap.ensures.piece) (has_byte c.loop-all.left.now) in
    omega (arith, some, ap length c.tail-left.ensures, length-drop c.in-Gap.n c.loop-all.left.now, c.in-Gap.ensures.within)

pub loop-all-smaller : goal.loop-all-smaller
loop-all-smaller c =
    let some : 0 < c.in-Token.n = subst HasByte (sym c.in-Token.ensures.piece) (has_byte c.loop-all.left.now) in
    omega (arith, some, ap length c.tail-left-in-Token.ensures, length-drop c.in-Token.n c.loop-all.left.now, c.in-Token.ensures.within)
