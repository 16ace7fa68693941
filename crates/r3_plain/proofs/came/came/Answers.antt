use Rattle.std.proofs.Common.{ap}
use Rattle.r3_plain.specs.Words.{given_of, reply_of}
use Rattle.r3_plain.specs.declared.given.Given.{Given}
use Rattle.r3_plain.proofs.came.came.Goals as goal

pub entered-requires-clause-limits : goal.entered-requires-clause-limits
entered-requires-clause-limits c = λ room.
    c.requires.limits c.in-Enters.entry (reply_of c.in-Enters.reply) (ap (λ (g : Given). given_of g) c.in-Enters.is) room
