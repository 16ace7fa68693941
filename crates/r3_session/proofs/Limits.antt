-- A limit of room, in the executor's words and in those of replies.
use Rattle.std.proofs.Common.{◌≡◌, refl}
use Rattle.r3_gate.specs.declared.fault.Limit.{Limit}
use Rattle.r3_gate.specs.declared.fault.Limit.TheVariants as limits
use Rattle.r3_exec.specs.Ends.{limit_of}
use Rattle.r3_reply.specs.Replies.{as_limit}

pub limits-agree : (limit : Limit) → as_limit limit ≡ limit_of limit
limits-agree limits.Entries = refl
limits-agree limits.Bytes = refl
