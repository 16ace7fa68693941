use Rattle.r3_store.proofs.Carried.{holds_with, stands_same}
use Rattle.r3_store.proofs.laws.holds_in_memory.Goals as goal

pub returns-clause-gate : goal.returns-clause-gate
returns-clause-gate g c = λ desk old new h k gate stands holds. holds_with _ _ _ desk old new h k gate stands holds

pub returns-clause-same : goal.returns-clause-same
returns-clause-same g c = λ desk old new h k same holds.
    holds_with _ _ _ desk old new h k same.gate (stands_same old new h same holds.stands) holds
