use Rattle.std.proofs.Common.{[], ◌∷◌, ◌++◌, ◌∙◌}
use Rattle.fn_grammar.specs.declared.lexeme.Lexeme.TheVariants as lex
use Rattle.fn_spell.specs.Pieces.{a_word}
use Rattle.fn_spell.specs.Spelling.{expr_pieces}
use Rattle.fn_spell.proofs.SpacedLemmas.{joins, turn_of_list}
use Rattle.fn_spell.proofs.expressions.+expr.Goals as goal

pub one-returns : goal.one-returns
one-returns t c =
    joins c.args.out.now.items c.word.new.out.items c.word-3.new.out.items (a_word lex.OpenParen ∷ []) (((a_word c.args.op ∷ []) ++ (expr_pieces c.args.a.now)) ++ (a_word lex.CloseParen ∷ [])) c.in_ok-word.ensures (joins c.word.new.out.items c.expr.new.out.items c.word-3.new.out.items ((a_word c.args.op ∷ []) ++ (expr_pieces c.args.a.now)) (a_word lex.CloseParen ∷ []) (joins c.word.new.out.items c.word-2.new.out.items c.expr.new.out.items (a_word c.args.op ∷ []) (expr_pieces c.args.a.now) c.in_ok-word-2.ensures c.in_ok-expr.ensures) c.in_ok-word-3.ensures)

pub two-returns : goal.two-returns
two-returns t c =
    joins c.args.out.now.items c.word.new.out.items c.word-3.new.out.items (a_word lex.OpenParen ∷ []) (((expr_pieces c.args.a.now) ++ ((a_word c.args.op ∷ []) ++ (expr_pieces c.args.b.now))) ++ (a_word lex.CloseParen ∷ [])) c.in_ok-word.ensures (joins c.word.new.out.items c.expr-2.new.out.items c.word-3.new.out.items ((expr_pieces c.args.a.now) ++ ((a_word c.args.op ∷ []) ++ (expr_pieces c.args.b.now))) (a_word lex.CloseParen ∷ []) (joins c.word.new.out.items c.expr.new.out.items c.expr-2.new.out.items (expr_pieces c.args.a.now) ((a_word c.args.op ∷ []) ++ (expr_pieces c.args.b.now)) c.in_ok-expr.ensures (joins c.expr.new.out.items c.word-2.new.out.items c.expr-2.new.out.items (a_word c.args.op ∷ []) (expr_pieces c.args.b.now) c.in_ok-word-2.ensures c.in_ok-expr-2.ensures)) c.in_ok-word-3.ensures)

pub apply-returns : goal.apply-returns
apply-returns t c =
    joins c.args.out.now.items c.word.new.out.items c.word-3.new.out.items (a_word c.args.f ∷ []) ((a_word lex.OpenParen ∷ []) ++ ((expr_pieces c.args.a.now) ++ (a_word lex.CloseParen ∷ []))) c.in_ok-word.ensures (joins c.word.new.out.items c.word-2.new.out.items c.word-3.new.out.items (a_word lex.OpenParen ∷ []) ((expr_pieces c.args.a.now) ++ (a_word lex.CloseParen ∷ [])) c.in_ok-word-2.ensures (joins c.word-2.new.out.items c.expr.new.out.items c.word-3.new.out.items (expr_pieces c.args.a.now) (a_word lex.CloseParen ∷ []) c.in_ok-expr.ensures c.in_ok-word-3.ensures))

pub index-returns : goal.index-returns
index-returns t c =
    joins c.args.out.now.items c.expr.new.out.items c.word-2.new.out.items (expr_pieces c.args.a.now) ((a_word lex.OpenBracket ∷ []) ++ ((expr_pieces c.args.b.now) ++ (a_word lex.CloseBracket ∷ []))) c.in_ok-expr.ensures (joins c.expr.new.out.items c.word.new.out.items c.word-2.new.out.items (a_word lex.OpenBracket ∷ []) ((expr_pieces c.args.b.now) ++ (a_word lex.CloseBracket ∷ [])) c.in_ok-word.ensures (joins c.word.new.out.items c.expr-2.new.out.items c.word-2.new.out.items (expr_pieces c.args.b.now) (a_word lex.CloseBracket ∷ []) c.in_ok-expr-2.ensures c.in_ok-word-2.ensures))

pub exprs-loop-e-preserved : goal.exprs-loop-e-preserved
exprs-loop-e-preserved t c =
    turn_of_list expr_pieces c.loop-e.first c.args.close c.args.es.now c.loop-e.e-index c.e-item.result c.loop-e.out.items c.comma.new.out.items c.expr.new.out.items c.loop-e-test.true c.e-item.is c.in_ok-comma.ensures c.in_ok-expr.ensures
    ∙ c.loop-e.invariant
