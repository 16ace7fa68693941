use Rattle.std.proofs.Common.{Bool, ◌||◌, sym, subst, ap, ◌∙◌}
use Rattle.std.specs.Prelude.{IsTrue}
use Rattle.std.specs.List.{list_any}
use Rattle.std.specs.Str.{bytes_eq}
use Rattle.r3_model.specs.Language.{Queue, Text}
use Rattle.r3_exec.specs.Ends.{dequeue_reply}
use Rattle.r3_exec.specs.Runs.{language}
use Rattle.r3_recover.specs.Kept.{settled_by}
use Rattle.r3_recover.proofs.Taking.{dequeue-done, dequeue-ends}
use Rattle.r3_recover.proofs.dequeues.dequeue_next.Goals as goal

pub dequeue-requires : goal.dequeue-requires
dequeue-requires g c =
    let x = c.requires.point in
    let p = x.5 in
    record {
      declared = subst (λ (name : Text). IsTrue (list_any (λ (q : Queue). bytes_eq q.name name) (language c.args.exec.now).queues)) (sym c.as_str.ensures.text) p.there.0;
      runs = (p.after, settled_by x.2 p.marks, p.runs);
    }

pub returns-in-Ok-clause-goes : goal.returns-in-Ok-clause-goes
returns-in-Ok-clause-goes g c = λ from st k turns names p.
    dequeue-done g.D.Desk.size g.D.Desk.image g.D.Desk.may_leave g.D.Desk.moment g.D.Desk.reach g.D.Desk.said g.D.Desk.asked g.D.Desk.syncs c.only_appends.ensures
    from c.args.desk.now c.dequeue.new.desk c.args.exec.now c.dequeue.new.self st k turns c.args.round.now.left c.take.new.self.left c.args.queue.now c.as_str.result.now names c.args.round.now.changed c.take.new.self.changed (dequeue_reply c.in-Ok.end)
    p c.as_str.ensures.text c.requires.left c.take.ensures.left (c.take.ensures.changed ∙ ap (λ (b : Bool). c.args.round.now.changed || b) c.has_started.ensures)
    c.dequeue.ensures.program c.in-Ok.ensures.does c.dequeue.ensures.crash c.dequeue.ensures.said

pub returns-in-Err-clause-goes : goal.returns-in-Err-clause-goes
returns-in-Err-clause-goes g c = λ from st k turns names p.
    dequeue-ends g.D.Desk.size g.D.Desk.image g.D.Desk.may_leave g.D.Desk.moment g.D.Desk.reach g.D.Desk.said g.D.Desk.asked g.D.Desk.syncs c.only_appends.ensures
    from c.args.desk.now c.dequeue.new.desk c.args.exec.now st k turns _ _ _ p c.dequeue.ensures.asked c.dequeue.ensures.syncs c.dequeue.ensures.crash c.dequeue.ensures.reads
