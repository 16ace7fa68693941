use Rattle.std.proofs.Common.{[], ◌∷◌, ◌++◌}
use Rattle.fn_grammar.specs.declared.lexeme.Lexeme.TheVariants as lex
use Rattle.fn_spell.specs.Pieces.{a_word}
use Rattle.fn_spell.specs.Spelling.{ask_pieces}
use Rattle.fn_spell.proofs.SpacedLemmas.{joins}
use Rattle.fn_spell.proofs.statements.done.Goals as goal

pub returns : goal.returns
returns c =
    joins c.args.out.now.items c.word.new.out.items c.word-2.new.out.items (a_word lex.Do ∷ []) ((ask_pieces c.args.a.now) ++ (a_word lex.Semicolon ∷ [])) c.in_ok-word.ensures (joins c.word.new.out.items c.ask.new.out.items c.word-2.new.out.items (ask_pieces c.args.a.now) (a_word lex.Semicolon ∷ []) c.in_ok-ask.ensures c.in_ok-word-2.ensures)
