use Rattle.std.proofs.Common.{◌≡◌, List, ◌∙◌, subst}
use Rattle.sys_queue.specs.Lines.{Line}
use Rattle.sys_queue.specs.Found.{StandsAt}
use Rattle.sys_queue.proofs.Told.{told_at}
use Rattle.sys_queue.proofs.queues.Queues.next.Goals as goal

pub returns-in-Some : goal.returns-in-Some
returns-in-Some c = λ rows l index e.
    let lines : c.deref.result.now ≡ c.args.self.now = c.deref.ensures.value ∙ c.self.view_is in
    told_at rows c.args.self.now c.args.queue.now c.in-Some.i c.index.result.now l c.next.result
    (subst (λ (ls : List Line). StandsAt c.args.queue.now ls c.in-Some.i) lines c.in-Some.ensures) (rw (← c.self.view_is) c.index.ensures) index e c.next.ensures
