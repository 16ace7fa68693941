use Rattle.r3_bytes.specs.Spelling as spell
use Rattle.r3_bytes.proofs.Places.{went_on}
use Rattle.r3_bytes.proofs.reader.Reader.outcome.Goals as goal

pub returns-in-Ok : goal.returns-in-Ok
returns-in-Ok c =
    (c.in-Ok.ensures.0, rw (← c.self.view_is) (went_on c.self.inside.bytes.now c.in-Ok.rest.now (spell.outcome c.in-Ok.outcome) c.self.inside.at c.self.invariant.0 c.in-Ok.ensures.1))
