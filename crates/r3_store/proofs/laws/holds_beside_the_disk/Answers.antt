use Rattle.r3_store.proofs.Carried.{holds_elsewhere}
use Rattle.r3_store.proofs.laws.holds_beside_the_disk.Goals as goal

pub returns : goal.returns
returns g c = λ old new store h k size image left holds. holds_elsewhere _ _ _ old new store h k size image left holds
