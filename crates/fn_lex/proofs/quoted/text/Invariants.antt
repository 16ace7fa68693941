use Rattle.std.proofs.Common.{◌≡◌, ◌≤◌, drop, false}
use Rattle.fn_lex.specs.Pieces.{closing}
use Rattle.fn_lex.proofs.quoted.text.Given as goal

abbrev pub invariant-loop-b : goal.invariant-loop-b
invariant-loop-b l = record {
  place : l.i ≡ l.b-index;
  few : l.denoted ≤ l.i;
  closing : closing false 0 0 l.rest ≡ closing l.escaped l.denoted l.i (drop l.b-index l.rest);
}
