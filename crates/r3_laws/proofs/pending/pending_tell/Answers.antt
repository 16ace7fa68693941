use Rattle.r3_laws.proofs.PendingRule.{pending-tells}
use Rattle.r3_laws.proofs.pending.pending_tell.Goals as goal

pub returns : goal.returns
returns c = pending-tells
