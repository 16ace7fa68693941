use Rattle.std.proofs.Common.{reverse}
use Rattle.r3_desk.proofs.Replay.{Replayed}
use Rattle.r3_desk.proofs.crash.image_left.Given as goal

abbrev pub invariant-loop-i : goal.invariant-loop-i
invariant-loop-i l = Replayed l.fn.first (reverse l.steps) l.written l.i l.torn l.image.items l.left.items l.from
