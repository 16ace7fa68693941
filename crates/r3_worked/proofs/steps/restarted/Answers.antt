use Rattle.r3_model.specs.Functions.{language_of}
use Rattle.r3_worked.proofs.steps.restarted.Goals as goal

pub pending-requires : goal.pending-requires
pending-requires c = (c.restart.ensures (language_of c.args.program.now)).formed

pub returns-in_err-ids : goal.returns-in_err-ids
returns-in_err-ids c = c.restart.ensures (language_of c.args.program.now)

pub ids-init : goal.ids-init
ids-init c = c.restart.ensures (language_of c.args.program.now)
