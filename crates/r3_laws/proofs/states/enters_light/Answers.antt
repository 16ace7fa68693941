use Rattle.r3_laws.proofs.Light.{enters-light, light-fits}
use Rattle.r3_laws.proofs.states.enters_light.Goals as goal

pub returns-clause-enters : goal.returns-clause-enters
returns-clause-enters c = enters-light

pub returns-clause-payload : goal.returns-clause-payload
returns-clause-payload c = light-fits
