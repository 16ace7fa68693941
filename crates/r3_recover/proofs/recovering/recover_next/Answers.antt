use Rattle.std.proofs.Common.{subst}
use Rattle.sys_flow.specs.declared.command.Command.{Command}
use Rattle.r3_model.specs.Event.{Run}
use Rattle.r3_exec.specs.Does.{Does}
use Rattle.r3_exec.specs.Ends.{command_reply}
use Rattle.r3_recover.proofs.Openings.{left-next, read-next, recovers-next}
use Rattle.r3_recover.proofs.recovering.recover_next.Goals as goal

pub returns-in-Ok-append-clause-crash : goal.returns-in-Ok-append-clause-crash
returns-in-Ok-append-clause-crash g c = λ from h ids p.
    left-next g.D.Desk.size g.D.Desk.image g.D.Desk.may_leave g.D.Desk.moment g.D.Desk.reach g.D.Desk.said g.D.Desk.asked g.D.Desk.syncs
    from c.args.desk.now c.append.new.desk c.args.exec.now h c.args.id.now ids p c.append.ensures.staged

pub returns-in-Ok-append-clause-reads : goal.returns-in-Ok-append-clause-reads
returns-in-Ok-append-clause-reads g c = λ from h ids p.
    read-next g.D.Desk.size g.D.Desk.image g.D.Desk.may_leave g.D.Desk.moment g.D.Desk.reach g.D.Desk.said g.D.Desk.asked g.D.Desk.syncs
    from c.args.desk.now c.append.new.desk c.args.exec.now h c.args.id.now ids p c.append.ensures.reads_settled

pub returns-in-Ok-append-clause-goes : goal.returns-in-Ok-append-clause-goes
returns-in-Ok-append-clause-goes g c = λ from h ids p.
    recovers-next g.D.Desk.size g.D.Desk.image g.D.Desk.may_leave g.D.Desk.moment g.D.Desk.reach g.D.Desk.said g.D.Desk.asked g.D.Desk.syncs
    c.only_appends.ensures from c.args.desk.now c.append.new.desk c.args.exec.now c.append.new.self h c.args.id.now ids (command_reply c.in-Ok-append.field-0) p
    c.append.ensures.program
    (λ s k r. subst (λ (command : Command). Does g.D.Desk.size g.D.Desk.image g.D.Desk.may_leave g.D.Desk.asked g.D.Desk.syncs c.args.desk.now c.append.new.desk c.append.new.self s k (Run command) (command_reply c.in-Ok-append.field-0))
    c.in-Ok.ensures (c.in-Ok-append.ensures.does s k r))
    c.append.ensures.crash
    (left-next g.D.Desk.size g.D.Desk.image g.D.Desk.may_leave g.D.Desk.moment g.D.Desk.reach g.D.Desk.said g.D.Desk.asked g.D.Desk.syncs
    from c.args.desk.now c.append.new.desk c.args.exec.now h c.args.id.now ids p c.append.ensures.staged)
    (read-next g.D.Desk.size g.D.Desk.image g.D.Desk.may_leave g.D.Desk.moment g.D.Desk.reach g.D.Desk.said g.D.Desk.asked g.D.Desk.syncs
    from c.args.desk.now c.append.new.desk c.args.exec.now h c.args.id.now ids p c.append.ensures.reads_settled)
    c.append.ensures.said c.append.ensures.asked

pub returns-clause-crash : goal.returns-clause-crash
returns-clause-crash g c = λ from h ids p.
    left-next g.D.Desk.size g.D.Desk.image g.D.Desk.may_leave g.D.Desk.moment g.D.Desk.reach g.D.Desk.said g.D.Desk.asked g.D.Desk.syncs
    from c.args.desk.now c.append.new.desk c.args.exec.now h c.args.id.now ids p c.append.ensures.staged
