use Rattle.r3_model.specs.Functions.{language_of}
use Rattle.r3_worked.proofs.play.retold.Goals as goal

pub play-requires : goal.play-requires
play-requires g c = c.restart.ensures (language_of c.args.program.now)
