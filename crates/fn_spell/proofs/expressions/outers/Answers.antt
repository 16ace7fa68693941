use Rattle.std.proofs.Common.{◌∙◌}
use Rattle.fn_grammar.specs.declared.lexeme.Lexeme.TheVariants as lex
use Rattle.fn_spell.specs.Spelling.{outer_pieces}
use Rattle.fn_spell.proofs.SpacedLemmas.{turn_of_list}
use Rattle.fn_spell.proofs.expressions.outers.Goals as goal

pub loop-e-preserved : goal.loop-e-preserved
loop-e-preserved c =
    turn_of_list outer_pieces c.loop-e.first lex.CloseParen c.args.es.now c.loop-e.e-index c.e-item.result c.loop-e.out.items c.comma.new.out.items c.outer.new.out.items c.loop-e-test.true c.e-item.is c.in_ok-comma.ensures c.in_ok-outer.ensures
    ∙ c.loop-e.invariant
