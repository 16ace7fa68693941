use Rattle.std.proofs.Common.{◌<◌}
use Rattle.sys_queue.specs.Told.{IsLeast}
use Rattle.sys_queue.proofs.line.Line.next.Goals as goal

pub returns-in-Some : goal.returns-in-Some
returns-in-Some c =
    let least : IsLeast c.args.self.now (c.in-Some.place.now.0, c.in-Some.place.now.1) =
    rw (← c.self.view_is) (record { stands = c.in-Some.ensures.member; least = λ q h. c.in-Some.ensures.least q h }) in
    let below : c.args.self.now.running < c.args.self.now.bound = rw (← c.self.view_is) c.if-self.false in
    (below, (c.in-Some.place.now.0, rw c.id_of.ensures least))
