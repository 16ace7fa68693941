use Rattle.std.proofs.Common.{◌≡◌, ◌+◌, length, drop}
use Rattle.fn_lex.proofs.LexLemmas.{GoesOn}
use Rattle.fn_lex.proofs.lexer.tokens.Given as goal

abbrev pub invariant-loop-all : goal.invariant-loop-all
invariant-loop-all l = record {
  place : l.at + length l.left ≡ length l.fn.text;
  goes_on : GoesOn l.fn.text l.all.items l.at l.left;
}

abbrev pub decreases-loop-all : goal.decreases-loop-all
decreases-loop-all l = length l.left
