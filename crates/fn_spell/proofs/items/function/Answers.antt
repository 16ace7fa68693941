use Rattle.std.proofs.Common.{[], ◌∷◌, ◌++◌}
use Rattle.fn_spell.specs.Pieces.{a_word, a_name}
use Rattle.fn_spell.specs.Spelling.{body_pieces, params_pieces}
use Rattle.fn_spell.proofs.SpacedLemmas.{joins}
use Rattle.fn_spell.proofs.items.function.Goals as goal

pub returns : goal.returns
returns c =
    joins c.args.out.now.items c.word.new.out.items c.block.new.out.items (a_word c.args.l ∷ []) ((a_name c.args.x.now ∷ []) ++ ((params_pieces c.args.xs.now) ++ (body_pieces c.args.body.now))) c.in_ok-word.ensures (joins c.word.new.out.items c.name.new.out.items c.block.new.out.items (a_name c.args.x.now ∷ []) ((params_pieces c.args.xs.now) ++ (body_pieces c.args.body.now)) c.in_ok-name.ensures (joins c.name.new.out.items c.params.new.out.items c.block.new.out.items (params_pieces c.args.xs.now) (body_pieces c.args.body.now) c.in_ok-params.ensures c.in_ok-block.ensures))
