use Rattle.r3_gate.specs.Log.{IsPayload}
use Rattle.r3_formed.proofs.Loops.{all_next}
use Rattle.r3_formed.proofs.tests.are_short.Goals as goal

pub payloads-preserved : goal.payloads-preserved
payloads-preserved c =
    all_next (λ p. IsPayload p.items) c.args.payloads.now c.payloads.payload-index c.payload-item.result c.payloads-test.true c.payload-item.is c.payloads.invariant (c.is_short.ensures c.if-not-is_short.false)
