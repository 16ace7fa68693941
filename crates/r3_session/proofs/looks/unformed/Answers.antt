use Rattle.r3_model.specs.Event.{NotForm}
use Rattle.r3_model.specs.Script as script
use Rattle.r3_session.proofs.Looking.{told-by}
use Rattle.r3_session.proofs.Nexts.{unformed-answers}
use Rattle.r3_session.proofs.looks.unformed.Goals as goal

pub returns : goal.returns
returns c = λ P st. told-by (λ v. v.items) c.reply_text.result P st script.Unformed NotForm (unformed-answers P st) c.reply_text.ensures
