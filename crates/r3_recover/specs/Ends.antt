-- The machine's reply to a drain.
use Rattle.r3_model.specs.Event.{Reply}
use Rattle.r3_model.specs.Event as reply
use Rattle.r3_recover.specs.declared.ends.DrainEnd.{DrainEnd}
use Rattle.r3_recover.specs.declared.ends.DrainEnd.TheVariants as drains

abbrev pub drain_reply : DrainEnd → Reply
drain_reply (drains.Idle turns) = reply.Idle turns
drain_reply (drains.Spent turns) = reply.Spent turns
