use Rattle.std.proofs.Common.{◌≡◌, ◌++◌, drop, true}
use Rattle.std.specs.Prelude.{map}
use Rattle.fn_grammar.specs.declared.lexeme.Lexeme.TheVariants as lex
use Rattle.fn_spell.specs.Pieces.{spaced}
use Rattle.fn_spell.specs.Spelling.{outer_pieces, separated}
use Rattle.fn_spell.proofs.expressions.outers.Given as goal

abbrev pub invariant-loop-e : goal.invariant-loop-e
invariant-loop-e l =
    l.out.items ++ spaced (separated l.first lex.CloseParen (map outer_pieces (drop l.e-index l.es)))
    ≡ l.fn.out.items ++ spaced (separated true lex.CloseParen (map outer_pieces l.es))
