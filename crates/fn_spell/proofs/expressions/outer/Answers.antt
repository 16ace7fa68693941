use Rattle.std.proofs.Common.{[], ◌∷◌, sym, append-nil}
use Rattle.fn_spell.specs.Pieces.{expr_ends}
use Rattle.fn_spell.specs.Spelling.{expr_pieces}
use Rattle.fn_spell.proofs.SpacedLemmas.{joins}
use Rattle.fn_spell.proofs.expressions.outer.Goals as goal

pub returns : goal.returns
returns c = joins c.args.out.now.items c.expr.new.out.items c.expr.new.out.items (expr_pieces c.args.e.now) (expr_ends ∷ []) c.in_ok-expr.ensures (sym (append-nil c.expr.new.out.items))
