use Rattle.r3_laws.proofs.TellsEvent.{given-tells}
use Rattle.r3_laws.proofs.events.tells_its_event.Goals as goal

pub returns : goal.returns
returns c = given-tells
