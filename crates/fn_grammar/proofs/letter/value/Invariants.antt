use Rattle.std.proofs.Common.{◌≡◌, ◌≤◌, drop}
use Rattle.fn_lex.specs.Lexemes.{value_from}
use Rattle.fn_grammar.proofs.letter.value.Given as goal

abbrev pub invariant-loop-d : goal.invariant-loop-d
invariant-loop-d l = record {
  within : l.n ≤ 9223372036854775807;
  value : value_from 0 l.digits ≡ value_from l.n (drop l.d-index l.digits);
}
