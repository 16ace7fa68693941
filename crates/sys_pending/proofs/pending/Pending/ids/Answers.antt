use Rattle.std.specs.Map.Iter.{deref}
use Rattle.std.proofs.lemmas.Map.Iter.{rest_all}
use Rattle.sys_queue.specs.Lines.{Place}
use Rattle.sys_pending.proofs.Ids.{all_ids}
use Rattle.sys_pending.proofs.pending.Pending.ids.Goals as goal

pub returns : goal.returns
returns c =
    all_ids c.loop-place.ids.items c.loop-place.place-iterator c.args.self.now c.loop-place.invariant
    (rest_all (deref {X = Place}) c.loop-place.place-iterator c.next.new.self c.next.result c.in-None.is c.next.ensures.steps)
