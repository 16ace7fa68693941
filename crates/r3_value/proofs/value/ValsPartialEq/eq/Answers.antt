use Rattle.r3_value.specs.SameLaws.{same_items-answer}
use Rattle.r3_value.proofs.value.ValsPartialEq.eq.Goals as goal

pub returns : goal.returns
returns c = same_items-answer c.args.self.now c.args.other.now c.same.result c.same.ensures.0 c.same.ensures.1
