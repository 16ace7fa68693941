use Rattle.std.proofs.Common.{[], ◌∷◌, ◌++◌}
use Rattle.fn_grammar.specs.declared.lexeme.Lexeme.TheVariants as lex
use Rattle.fn_spell.specs.Pieces.{a_word, a_name}
use Rattle.fn_spell.specs.Spelling.{outer_pieces}
use Rattle.fn_spell.proofs.SpacedLemmas.{joins}
use Rattle.fn_spell.proofs.statements.scan.Goals as goal

pub returns : goal.returns
returns c =
    joins c.args.out.now.items c.word.new.out.items c.word-4.new.out.items (a_word lex.Scan ∷ []) ((a_name c.args.table.now ∷ []) ++ ((a_word lex.OpenBracket ∷ []) ++ (((outer_pieces c.args.lo.now) ++ ((a_word lex.Comma ∷ []) ++ (outer_pieces c.args.hi.now))) ++ (a_word lex.CloseBracket ∷ [])))) c.in_ok-word.ensures (joins c.word.new.out.items c.name.new.out.items c.word-4.new.out.items (a_name c.args.table.now ∷ []) ((a_word lex.OpenBracket ∷ []) ++ (((outer_pieces c.args.lo.now) ++ ((a_word lex.Comma ∷ []) ++ (outer_pieces c.args.hi.now))) ++ (a_word lex.CloseBracket ∷ []))) c.in_ok-name.ensures (joins c.name.new.out.items c.word-2.new.out.items c.word-4.new.out.items (a_word lex.OpenBracket ∷ []) (((outer_pieces c.args.lo.now) ++ ((a_word lex.Comma ∷ []) ++ (outer_pieces c.args.hi.now))) ++ (a_word lex.CloseBracket ∷ [])) c.in_ok-word-2.ensures (joins c.word-2.new.out.items c.outer-2.new.out.items c.word-4.new.out.items ((outer_pieces c.args.lo.now) ++ ((a_word lex.Comma ∷ []) ++ (outer_pieces c.args.hi.now))) (a_word lex.CloseBracket ∷ []) (joins c.word-2.new.out.items c.outer.new.out.items c.outer-2.new.out.items (outer_pieces c.args.lo.now) ((a_word lex.Comma ∷ []) ++ (outer_pieces c.args.hi.now)) c.in_ok-outer.ensures (joins c.outer.new.out.items c.word-3.new.out.items c.outer-2.new.out.items (a_word lex.Comma ∷ []) (outer_pieces c.args.hi.now) c.in_ok-word-3.ensures c.in_ok-outer-2.ensures)) c.in_ok-word-4.ensures)))
