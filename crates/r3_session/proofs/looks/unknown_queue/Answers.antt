use Rattle.sys_flow.specs.declared.command.Refusal.TheVariants.{UnknownQueue}
use Rattle.r3_model.specs.Event.{Dequeue, Refused}
use Rattle.r3_model.specs.Script as script
use Rattle.r3_session.proofs.Looking.{queue-unknown, told-by}
use Rattle.r3_session.proofs.looks.unknown_queue.Goals as goal

pub returns : goal.returns
returns c = λ P st none. told-by (λ v. v.items) c.reply_text.result P st (script.Does (Dequeue c.args.queue.now)) (Refused UnknownQueue) (queue-unknown P st c.args.queue.now none) c.reply_text.ensures
