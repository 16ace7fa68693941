use Rattle.std.proofs.Common.{ap}
use Rattle.r3_past.specs.Maps.{versions_in}
use Rattle.r3_past.proofs.past.view_is.Goals as goal

pub returns : goal.returns
returns g c = λ h k stands reads. ap versions_in (c.is_past.ensures.maps h k stands reads)
