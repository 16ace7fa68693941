use Rattle.std.proofs.Common.{◌≡◌, List, Some, subst}
use Rattle.sys_queue.specs.Lines.{Line}
use Rattle.sys_queue.specs.Found.{StandsAt}
use Rattle.sys_queue.specs.Moves.{Enters}
use Rattle.sys_queue.proofs.Changed.{on_ok, changed_in}
use Rattle.sys_queue.proofs.queues.enter.Goals as goal

pub returns-in-Some-line_at-clause-ok : goal.returns-in-Some-line_at-clause-ok
returns-in-Some-line_at-clause-ok c =
    let named : c.args.row.now.queue ≡ Some c.as_str.result.now = rw c.as_str.ensures.text c.in-Some.is in
    let at : StandsAt c.as_str.result.now c.args.lines.now.items c.in-Some-line_at.i =
    subst (λ (ls : List Line). StandsAt c.as_str.result.now ls c.in-Some-line_at.i) c.deref.ensures.value c.in-Some-line_at.ensures in
    on_ok {A = Enters c.args.row.now.status c.args.place c.index_mut.result.now c.enter.new.self} c.enter.result
    (λ e. changed_in c.args.row.now.queue c.as_str.result.now (Enters c.args.row.now.status c.args.place) c.args.lines.now.items c.in-Some-line_at.i c.enter.new.self c.index_mut.result.now named at c.index_mut.ensures.value e.name e.bound e)
    c.enter.ensures.ok
