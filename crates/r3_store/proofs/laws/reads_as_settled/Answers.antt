use Rattle.std.proofs.Common.{take, drop}
use Rattle.r3_formed.specs.Load.{payloads}
use Rattle.r3_store.proofs.Images.{history_of_log}
use Rattle.r3_store.proofs.laws.reads_as_settled.Goals as goal

pub returns-clause-read : goal.returns-clause-read
returns-clause-read g c = λ d s h k i holds told.
    history_of_log i (take k h) holds.settled_formed (c.reads_as_published.ensures.read d s.gate (payloads (take k h)) (payloads (drop k h)) i holds.tracks told)

pub returns-clause-crash : goal.returns-clause-crash
returns-clause-crash g c = λ d s h k i holds left.
    history_of_log i (take k h) holds.settled_formed (c.reads_as_published.ensures.crash d s.gate (payloads (take k h)) (payloads (drop k h)) i holds.tracks left)
