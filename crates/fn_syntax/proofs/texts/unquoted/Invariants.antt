use Rattle.std.proofs.Common.{◌≡◌, ◌++◌, drop, false}
use Rattle.fn_lex.specs.Lexemes.{denoted_from}
use Rattle.fn_syntax.proofs.texts.unquoted.Given as goal

abbrev pub invariant-loop-b : goal.invariant-loop-b
invariant-loop-b l = denoted_from false l.rest ≡ l.bytes.items ++ denoted_from l.escaped (drop l.b-index l.rest)
