use Rattle.r3_laws.proofs.QueueRule.{queues-tell}
use Rattle.r3_laws.proofs.events.queues_tell.Goals as goal

pub returns : goal.returns
returns c = queues-tell
