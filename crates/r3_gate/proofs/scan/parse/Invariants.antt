use Rattle.std.proofs.Common.{◌≡◌, ◌<◌, ◌-◌, length, take}
use Rattle.r3_gate.specs.Log.{front, Fits}
use Rattle.r3_gate.specs.Payloads.{contents}
use Rattle.r3_gate.proofs.scan.parse.Given as goal

abbrev pub invariant-records : goal.invariant-records
invariant-records l = record { split : take l.gate l.bytes ≡ front (contents l.payloads); fits : Fits (contents l.payloads); some : l.gate < length l.bytes }

abbrev pub decreases-records : goal.decreases-records
decreases-records l = length l.bytes - l.gate
