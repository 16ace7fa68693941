use Rattle.std.proofs.Common.{◌≡◌, List, Some, subst}
use Rattle.sys_queue.specs.Lines.{Line}
use Rattle.sys_queue.specs.Found.{StandsAt}
use Rattle.sys_queue.specs.Moves.{Leaves}
use Rattle.sys_queue.proofs.Changed.{changed_in}
use Rattle.sys_queue.proofs.queues.leave.Goals as goal

pub returns-in-Some-line_at : goal.returns-in-Some-line_at
returns-in-Some-line_at c =
    let named : c.args.row.now.queue ≡ Some c.as_str.result.now = rw c.as_str.ensures.text c.in-Some.is in
    let at : StandsAt c.as_str.result.now c.args.lines.now.items c.in-Some-line_at.i =
    subst (λ (ls : List Line). StandsAt c.as_str.result.now ls c.in-Some-line_at.i) c.deref.ensures.value c.in-Some-line_at.ensures in
    changed_in c.args.row.now.queue c.as_str.result.now (Leaves c.args.row.now.status c.args.place.now) c.args.lines.now.items c.in-Some-line_at.i c.leave.new.self c.index_mut.result.now named at c.index_mut.ensures.value c.leave.ensures.name c.leave.ensures.bound c.leave.ensures
