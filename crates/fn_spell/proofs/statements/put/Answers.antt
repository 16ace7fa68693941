use Rattle.std.proofs.Common.{[], ◌∷◌, ◌++◌}
use Rattle.fn_grammar.specs.declared.lexeme.Lexeme.TheVariants as lex
use Rattle.fn_spell.specs.Pieces.{a_word, a_name}
use Rattle.fn_spell.specs.Spelling.{outer_pieces, key_pieces}
use Rattle.fn_spell.proofs.SpacedLemmas.{joins}
use Rattle.fn_spell.proofs.statements.put.Goals as goal

pub returns : goal.returns
returns c =
    joins c.args.out.now.items c.word.new.out.items c.word-3.new.out.items (a_word lex.Put ∷ []) ((a_name c.args.table.now ∷ []) ++ ((key_pieces c.args.k.now) ++ ((a_word lex.Assign ∷ []) ++ ((outer_pieces c.args.e.now) ++ (a_word lex.Semicolon ∷ []))))) c.in_ok-word.ensures (joins c.word.new.out.items c.name.new.out.items c.word-3.new.out.items (a_name c.args.table.now ∷ []) ((key_pieces c.args.k.now) ++ ((a_word lex.Assign ∷ []) ++ ((outer_pieces c.args.e.now) ++ (a_word lex.Semicolon ∷ [])))) c.in_ok-name.ensures (joins c.name.new.out.items c.key.new.out.items c.word-3.new.out.items (key_pieces c.args.k.now) ((a_word lex.Assign ∷ []) ++ ((outer_pieces c.args.e.now) ++ (a_word lex.Semicolon ∷ []))) c.in_ok-key.ensures (joins c.key.new.out.items c.word-2.new.out.items c.word-3.new.out.items (a_word lex.Assign ∷ []) ((outer_pieces c.args.e.now) ++ (a_word lex.Semicolon ∷ [])) c.in_ok-word-2.ensures (joins c.word-2.new.out.items c.outer.new.out.items c.word-3.new.out.items (outer_pieces c.args.e.now) (a_word lex.Semicolon ∷ []) c.in_ok-outer.ensures c.in_ok-word-3.ensures))))
