use Rattle.std.proofs.Common.{take}
use Rattle.std.specs.List.{AllByRecursion}
use Rattle.r3_gate.specs.Log.{IsPayload}
use Rattle.r3_formed.proofs.tests.are_short.Given as goal

abbrev pub invariant-payloads : goal.invariant-payloads
invariant-payloads l = AllByRecursion (λ p. IsPayload p.items) (take l.payload-index l.payloads)
