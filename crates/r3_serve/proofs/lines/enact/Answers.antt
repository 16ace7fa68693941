use Rattle.r3_lines.specs.Lines.{as_line}
use Rattle.r3_serve.specs.Served.{Quiet}
use Rattle.r3_serve.proofs.Serving.{went, served-quiet}
use Rattle.r3_serve.proofs.Stopping.{stopped}
use Rattle.r3_serve.proofs.lines.enact.Goals as goal

pub returns-in-Err-Disk-clause-stops : goal.returns-in-Err-Disk-clause-stops
returns-in-Err-Disk-clause-stops g c = λ from text h lines s.
    stopped g.D.Desk.size g.D.Desk.image g.D.Desk.may_leave g.D.Desk.moment g.D.Desk.reach g.D.Desk.said g.D.Desk.asked g.D.Desk.syncs
    c.only_appends.ensures c.drains_by_turns.ensures from c.args.desk.now c.answer.new.desk c.args.session.now.exec Quiet text h lines (as_line c.args.line.now)
    c.answer.ensures.said s (c.in-Err-Disk.ensures.stops s.after s.runs)

pub returns-in-Err-Memory-clause-stops : goal.returns-in-Err-Memory-clause-stops
returns-in-Err-Memory-clause-stops g c = λ from text h lines s.
    stopped g.D.Desk.size g.D.Desk.image g.D.Desk.may_leave g.D.Desk.moment g.D.Desk.reach g.D.Desk.said g.D.Desk.asked g.D.Desk.syncs
    c.only_appends.ensures c.drains_by_turns.ensures from c.args.desk.now c.answer.new.desk c.args.session.now.exec Quiet text h lines (as_line c.args.line.now)
    c.answer.ensures.said s (c.in-Err-Memory.ensures.stops s.after s.runs)

pub returns-clause-serves : goal.returns-clause-serves
returns-clause-serves g c = λ from text h lines s.
    served-quiet g.D.Desk.size g.D.Desk.image g.D.Desk.may_leave g.D.Desk.moment g.D.Desk.reach g.D.Desk.said g.D.Desk.asked g.D.Desk.syncs from c.answer.new.desk c.answer.new.self.exec text h lines (as_line c.args.line.now) c.in-Ok.reply.items
    (went g.D.Desk.size g.D.Desk.image g.D.Desk.may_leave g.D.Desk.moment g.D.Desk.reach g.D.Desk.said g.D.Desk.asked g.D.Desk.syncs
    c.only_appends.ensures c.drains_by_turns.ensures from c.args.desk.now c.answer.new.desk c.args.session.now.exec c.answer.new.self.exec Quiet text h lines (as_line c.args.line.now) c.in-Ok.reply.items
    c.answer.ensures.program c.answer.ensures.said s (c.in-Ok.ensures.does s.after s.runs))
