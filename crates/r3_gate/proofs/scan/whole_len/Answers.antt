use Rattle.std.proofs.Common.{◌≡◌, ◌+◌, ◌≤◌, length, get_or, ◌<◌, ◌^◌, rules, ◌∙◌, arith}
use Rattle.std.specs.Int.{from_be_bytes, w32}
use Rattle.r3_gate.proofs.Frames.{quad, frame_at, frame_tells}
use Rattle.r3_gate.proofs.scan.whole_len.Goals as goal
use Rattle.r3_gate.proofs.scan.whole_len.Goals.{then-len-eq0-via-then-len-eq0, then-len-eq0-via-else-len-eq0+then-len-gt-MAX_PAYLOAD, then-len-eq0-via-else-len-eq0+else-len-gt-MAX_PAYLOAD+then-after-len}

pub returns-clause-some : goal.returns-clause-some
returns-clause-some c =
    let is : c.from_be_bytes-len.result ≡ from_be_bytes w32 (quad c.args.after.now) = c.from_be_bytes-len.ensures in
    let enough : 5 + c.from_be_bytes-len.result ≤ length c.args.after.now = omega arith in
    (omega arith, omega arith, enough, frame_at c.args.after.now c.from_be_bytes-len.result (λ i. let f = c.type_inv.after i in (let h : get_or c.args.after.now i 0 < 2 ^ 8 = search rules in h)) is enough)

pub returns-then-after-lt5-clause-none : goal.returns-then-after-lt5-clause-none
returns-then-after-lt5-clause-none c = λ p gate rest payload is. let t = frame_tells c.args.after.now p gate rest payload is in omega (arith, t.1)

pub returns-then-len-eq0-clause-none : goal.returns-then-len-eq0-clause-none
returns-then-len-eq0-clause-none c = λ p gate rest payload is.
    let t = frame_tells c.args.after.now p gate rest payload is in
    let len : c.from_be_bytes-len.result ≡ from_be_bytes w32 (quad c.args.after.now) = c.from_be_bytes-len.ensures in
    let same : c.from_be_bytes-len.result ≡ length p = len ∙ t.0 in
    elim c.then-len-eq0.branch [
      | then-len-eq0-via-then-len-eq0 w ↦ omega (arith, same, payload.0, w.if-len-eq0.true)
      | then-len-eq0-via-else-len-eq0+then-len-gt-MAX_PAYLOAD w ↦ omega (arith, same, payload.1, w.if-len-gt-MAX_PAYLOAD.true)
      | then-len-eq0-via-else-len-eq0+else-len-gt-MAX_PAYLOAD+then-after-len w ↦ omega (arith, same, t.1, w.if-after-len.true)
    ]
