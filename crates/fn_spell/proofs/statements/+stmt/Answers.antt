use Rattle.std.proofs.Common.{[], ◌∷◌, ◌++◌, ◌∙◌}
use Rattle.fn_grammar.specs.declared.lexeme.Lexeme.TheVariants as lex
use Rattle.fn_spell.specs.Pieces.{a_word, a_name}
use Rattle.fn_spell.specs.Spelling.{outer_pieces, body_pieces}
use Rattle.fn_spell.proofs.SpacedLemmas.{joins, turn_of_block}
use Rattle.fn_spell.proofs.statements.+stmt.Goals as goal

pub headed-returns : goal.headed-returns
headed-returns t c =
    joins c.args.out.now.items c.word.new.out.items c.block.new.out.items (a_word c.args.l ∷ []) ((outer_pieces c.args.e.now) ++ (body_pieces c.args.body.now)) c.in_ok-word.ensures (joins c.word.new.out.items c.outer.new.out.items c.block.new.out.items (outer_pieces c.args.e.now) (body_pieces c.args.body.now) c.in_ok-outer.ensures c.in_ok-block.ensures)

pub if_else-returns : goal.if_else-returns
if_else-returns t c =
    joins c.args.out.now.items c.word.new.out.items c.block-2.new.out.items (a_word lex.If ∷ []) ((outer_pieces c.args.e.now) ++ ((body_pieces c.args.yes.now) ++ ((a_word lex.Else ∷ []) ++ (body_pieces c.args.no.now)))) c.in_ok-word.ensures (joins c.word.new.out.items c.outer.new.out.items c.block-2.new.out.items (outer_pieces c.args.e.now) ((body_pieces c.args.yes.now) ++ ((a_word lex.Else ∷ []) ++ (body_pieces c.args.no.now))) c.in_ok-outer.ensures (joins c.outer.new.out.items c.block.new.out.items c.block-2.new.out.items (body_pieces c.args.yes.now) ((a_word lex.Else ∷ []) ++ (body_pieces c.args.no.now)) c.in_ok-block.ensures (joins c.block.new.out.items c.word-2.new.out.items c.block-2.new.out.items (a_word lex.Else ∷ []) (body_pieces c.args.no.now) c.in_ok-word-2.ensures c.in_ok-block-2.ensures)))

pub each-returns : goal.each-returns
each-returns t c =
    joins c.args.out.now.items c.word.new.out.items c.block.new.out.items (a_word lex.Each ∷ []) ((a_name c.args.x.now ∷ []) ++ ((a_word lex.In ∷ []) ++ ((outer_pieces c.args.e.now) ++ (body_pieces c.args.body.now)))) c.in_ok-word.ensures (joins c.word.new.out.items c.name.new.out.items c.block.new.out.items (a_name c.args.x.now ∷ []) ((a_word lex.In ∷ []) ++ ((outer_pieces c.args.e.now) ++ (body_pieces c.args.body.now))) c.in_ok-name.ensures (joins c.name.new.out.items c.word-2.new.out.items c.block.new.out.items (a_word lex.In ∷ []) ((outer_pieces c.args.e.now) ++ (body_pieces c.args.body.now)) c.in_ok-word-2.ensures (joins c.word-2.new.out.items c.outer.new.out.items c.block.new.out.items (outer_pieces c.args.e.now) (body_pieces c.args.body.now) c.in_ok-outer.ensures c.in_ok-block.ensures)))

pub attempt-returns : goal.attempt-returns
attempt-returns t c =
    joins c.args.out.now.items c.word.new.out.items c.block-2.new.out.items (a_word lex.Try ∷ []) ((body_pieces c.args.body.now) ++ ((a_word lex.Catch ∷ []) ++ ((a_name c.args.x.now ∷ []) ++ (body_pieces c.args.handler.now)))) c.in_ok-word.ensures (joins c.word.new.out.items c.block.new.out.items c.block-2.new.out.items (body_pieces c.args.body.now) ((a_word lex.Catch ∷ []) ++ ((a_name c.args.x.now ∷ []) ++ (body_pieces c.args.handler.now))) c.in_ok-block.ensures (joins c.block.new.out.items c.word-2.new.out.items c.block-2.new.out.items (a_word lex.Catch ∷ []) ((a_name c.args.x.now ∷ []) ++ (body_pieces c.args.handler.now)) c.in_ok-word-2.ensures (joins c.word-2.new.out.items c.name.new.out.items c.block-2.new.out.items (a_name c.args.x.now ∷ []) (body_pieces c.args.handler.now) c.in_ok-name.ensures c.in_ok-block-2.ensures)))

pub block-loop-s-preserved : goal.block-loop-s-preserved
block-loop-s-preserved t c =
    turn_of_block c.args.body.now c.loop-s.s-index c.s-item.result c.loop-s.out.items c.stmt.new.out.items c.loop-s-test.true c.s-item.is c.in_ok-stmt.ensures
    ∙ c.loop-s.invariant
