use Rattle.sys_flow.specs.declared.command.Refusal.TheVariants.{UnknownId}
use Rattle.r3_model.specs.Event.{Turn, Refused}
use Rattle.r3_model.specs.Script as script
use Rattle.r3_session.proofs.Looking.{told-by, turn-unknown}
use Rattle.r3_session.proofs.looks.unknown_turn.Goals as goal

pub returns : goal.returns
returns c = λ P st none. told-by (λ v. v.items) c.reply_text.result P st (script.Does (Turn c.args.id.now)) (Refused UnknownId) (turn-unknown P st c.args.id.now none) c.reply_text.ensures
