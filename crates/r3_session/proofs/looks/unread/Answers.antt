use Rattle.r3_model.specs.Event.{NotRead}
use Rattle.r3_model.specs.Script as script
use Rattle.r3_session.proofs.Looking.{told-by}
use Rattle.r3_session.proofs.Nexts.{unread-answers}
use Rattle.r3_session.proofs.looks.unread.Goals as goal

pub returns : goal.returns
returns c = λ P st. told-by (λ v. v.items) c.reply_text.result P st script.Unread NotRead (unread-answers P st) c.reply_text.ensures
