use Rattle.std.proofs.Common.{take}
use Rattle.fn_grammar.specs.Letters.{letters}
use Rattle.fn_grammar.specs.Steps.{AllTame}
use Rattle.fn_syntax.proofs.ParseLemmas.{Ahead}
use Rattle.fn_syntax.proofs.program.parse.Given as goal

abbrev pub invariant-loop-token : goal.invariant-loop-token
invariant-loop-token l = record {
  tame : AllTame l.parser.todo;
  ahead : Ahead (letters l.text (take l.token-index l.tokens)) l.parser;
}
