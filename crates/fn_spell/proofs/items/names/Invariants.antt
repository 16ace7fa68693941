use Rattle.std.proofs.Common.{◌≡◌, ◌++◌, drop, true}
use Rattle.std.specs.Prelude.{map}
use Rattle.fn_grammar.specs.declared.lexeme.Lexeme.TheVariants as lex
use Rattle.fn_spell.specs.Pieces.{spaced}
use Rattle.fn_spell.specs.Spelling.{name_pieces, separated}
use Rattle.fn_spell.proofs.items.names.Given as goal

abbrev pub invariant-loop-x : goal.invariant-loop-x
invariant-loop-x l =
    l.out.items ++ spaced (separated l.first lex.CloseParen (map name_pieces (drop l.x-index l.xs)))
    ≡ l.fn.out.items ++ spaced (separated true lex.CloseParen (map name_pieces l.xs))
