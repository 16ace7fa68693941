use Rattle.std.proofs.Common.{[], ◌∷◌, ◌++◌}
use Rattle.fn_grammar.specs.declared.lexeme.Lexeme.TheVariants as lex
use Rattle.fn_spell.specs.Pieces.{a_word, a_name}
use Rattle.fn_spell.specs.Spelling.{params_pieces}
use Rattle.fn_spell.proofs.SpacedLemmas.{joins}
use Rattle.fn_spell.proofs.items.outside.Goals as goal

pub returns : goal.returns
returns c =
    joins c.args.out.now.items c.word.new.out.items c.word-2.new.out.items (a_word lex.Outside ∷ []) ((a_name c.args.x.now ∷ []) ++ ((params_pieces c.args.xs.now) ++ (a_word lex.Semicolon ∷ []))) c.in_ok-word.ensures (joins c.word.new.out.items c.name.new.out.items c.word-2.new.out.items (a_name c.args.x.now ∷ []) ((params_pieces c.args.xs.now) ++ (a_word lex.Semicolon ∷ [])) c.in_ok-name.ensures (joins c.name.new.out.items c.params.new.out.items c.word-2.new.out.items (params_pieces c.args.xs.now) (a_word lex.Semicolon ∷ []) c.in_ok-params.ensures c.in_ok-word-2.ensures))
