use Rattle.std.proofs.Common.{◌≡◌, Option, sym, ap, ◌∙◌}
use Rattle.std.specs.Option.{is_some}
use Rattle.sys_queue.specs.Lines.{Line}
use Rattle.r3_model.specs.Given.{Answers}
use Rattle.r3_exec.specs.Ends.{dequeue_reply}
use Rattle.r3_exec.specs.Runs.{language}
use Rattle.r3_exec.specs.declared.ends.DequeueEnd.{DequeueEnd}
use Rattle.r3_exec.specs.declared.ends.DequeueEnd.TheVariants as ends
use Rattle.r3_exec.proofs.Dequeuing.{at_limit, declared_is, empty, next_is, starts}
use Rattle.r3_exec.proofs.exec.Exec.dequeued.Goals as goal

pub next-requires : goal.next-requires
next-requires c =
    let x = c.requires.stands in
    ap (λ (o : Option Line). is_some o) (declared_is c.args.self.now x.0 c.args.queue.now x.1 c.requires.declared).3

pub start_of-requires : goal.start_of-requires
start_of-requires c =
    let x = c.requires.stands in
    let r = next_is c.queues_tell.ensures c.args.self.now x.0 c.args.queue.now x.1 c.requires.declared c.in-Ready.id c.in-Ready.ensures in
    record { there = (x.0.history, r.0, x.1.keeps.store, r.1) }

pub returns-in_ok-entry-in-Ready-clause-starts : goal.returns-in_ok-entry-in-Ready-clause-starts
returns-in_ok-entry-in-Ready-clause-starts c = λ st entry id stands same.
    let found = c.in_ok-entry-in-Ready in
    let same_entry : found.entry ≡ entry = cc in
    let same_id : found.id ≡ id = cc in
    let r = next_is c.queues_tell.ensures c.args.self.now st c.args.queue.now stands c.requires.declared c.in-Ready.id c.in-Ready.ensures in
    let s = found.ensures st.history r.0 stands.keeps.store r.1 in
    starts (language c.args.self.now) st c.args.queue.now c.in-Ready.id.now id r.0 entry stands.valid r.2 (sym same_entry ∙ s.0) (sym same_id ∙ s.1)

pub returns-in-Empty-clause-stays : goal.returns-in-Empty-clause-stays
returns-in-Empty-clause-stays c = λ st end stands same.
    let is : ends.Empty ≡ end = cc in
    empty c.queues_tell.ensures c.args.self.now st c.args.queue.now stands c.requires.declared c.in-Empty.ensures ∙ ap (λ (e : DequeueEnd). Answers (dequeue_reply e)) is

pub returns-in-Limit-clause-stays : goal.returns-in-Limit-clause-stays
returns-in-Limit-clause-stays c = λ st end stands same.
    let is : ends.Limit c.in-Limit.running ≡ end = cc in
    at_limit c.queues_tell.ensures c.args.self.now st c.args.queue.now stands c.requires.declared c.in-Limit.running c.in-Limit.ensures ∙ ap (λ (e : DequeueEnd). Answers (dequeue_reply e)) is
