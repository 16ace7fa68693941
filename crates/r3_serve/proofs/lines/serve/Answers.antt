use Rattle.std.proofs.Common.{◌≡◌, take, ap, ◌∙◌}
use Rattle.r3_desk.specs.Disk.{told_push}
use Rattle.r3_model.specs.Language.{Text}
use Rattle.r3_model.specs.Functions.{language_of}
use Rattle.r3_exec.specs.Runs.{language}
use Rattle.r3_lines.specs.Lines.{as_line}
use Rattle.r3_serve.specs.Served.{Loud}
use Rattle.r3_serve.proofs.Serving.{went, served-loud}
use Rattle.r3_serve.proofs.Stopping.{stopped, unsaid, reply-failed}
use Rattle.r3_serve.proofs.lines.serve.Goals as goal

pub returns-in-Err-Disk-clause-stops : goal.returns-in-Err-Disk-clause-stops
returns-in-Err-Disk-clause-stops g c = λ from text h lines s.
    stopped g.D.Desk.size g.D.Desk.image g.D.Desk.may_leave g.D.Desk.moment g.D.Desk.reach g.D.Desk.said g.D.Desk.asked g.D.Desk.syncs
    c.only_appends.ensures c.drains_by_turns.ensures from c.args.desk.now c.answer.new.desk c.args.session.now.exec Loud text h lines (as_line c.args.line.now)
    c.answer.ensures.said s (c.in-Err-Disk.ensures.stops s.after s.runs)

pub returns-in-Err-Memory-clause-stops : goal.returns-in-Err-Memory-clause-stops
returns-in-Err-Memory-clause-stops g c = λ from text h lines s.
    stopped g.D.Desk.size g.D.Desk.image g.D.Desk.may_leave g.D.Desk.moment g.D.Desk.reach g.D.Desk.said g.D.Desk.asked g.D.Desk.syncs
    c.only_appends.ensures c.drains_by_turns.ensures from c.args.desk.now c.answer.new.desk c.args.session.now.exec Loud text h lines (as_line c.args.line.now)
    c.answer.ensures.said s (c.in-Err-Memory.ensures.stops s.after s.runs)

pub returns-in-Ok-say-clause-serves : goal.returns-in-Ok-say-clause-serves
returns-in-Ok-say-clause-serves g c = λ from text h lines s.
    let says : g.D.Desk.said c.say.new.self ≡ told_push (g.D.Desk.said c.answer.new.desk) c.in-Ok.reply.items =
    c.in-Ok-say.ensures.all ∙ ap (λ (t : Text). told_push (g.D.Desk.said c.answer.new.desk) t) c.as_slice.ensures.value in
    served-loud g.D.Desk.size g.D.Desk.image g.D.Desk.may_leave g.D.Desk.moment g.D.Desk.reach g.D.Desk.said g.D.Desk.asked g.D.Desk.syncs
    c.reads_as_settled.ensures.crash c.holds_beside_the_disk.ensures from c.answer.new.desk c.say.new.self c.answer.new.self.exec text h lines (as_line c.args.line.now) c.in-Ok.reply.items
    says c.say.ensures.asked c.say.ensures.same_size c.say.ensures.image c.say.ensures.pending c.say.ensures.time
    (went g.D.Desk.size g.D.Desk.image g.D.Desk.may_leave g.D.Desk.moment g.D.Desk.reach g.D.Desk.said g.D.Desk.asked g.D.Desk.syncs
    c.only_appends.ensures c.drains_by_turns.ensures from c.args.desk.now c.answer.new.desk c.args.session.now.exec c.answer.new.self.exec Loud text h lines (as_line c.args.line.now) c.in-Ok.reply.items
    c.answer.ensures.program c.answer.ensures.said s (c.in-Ok.ensures.does s.after s.runs))

pub returns-clause-stops : goal.returns-clause-stops
returns-clause-stops g c = λ from text h lines s.
    let part = c.in-Err.ensures.part in
    let says : g.D.Desk.said c.say.new.self ≡ told_push (g.D.Desk.said c.answer.new.desk) (take part.0 c.in-Ok.reply.items) =
    part.2 ∙ ap (λ (t : Text). told_push (g.D.Desk.said c.answer.new.desk) (take part.0 t)) c.as_slice.ensures.value in
    unsaid g.D.Desk.size g.D.Desk.image g.D.Desk.may_leave g.D.Desk.moment g.D.Desk.reach g.D.Desk.said g.D.Desk.asked g.D.Desk.syncs
    c.reads_as_settled.ensures.crash c.reads_as_settled.ensures.read from c.answer.new.desk c.say.new.self c.answer.new.self.exec (language c.args.session.now.exec) text h lines (as_line c.args.line.now) c.in-Ok.reply.items part.0
    (ap (λ is. language_of is) c.answer.ensures.program) says c.say.ensures.asked c.say.ensures.image c.say.ensures.pending c.say.ensures.time
    (went g.D.Desk.size g.D.Desk.image g.D.Desk.may_leave g.D.Desk.moment g.D.Desk.reach g.D.Desk.said g.D.Desk.asked g.D.Desk.syncs
    c.only_appends.ensures c.drains_by_turns.ensures from c.args.desk.now c.answer.new.desk c.args.session.now.exec c.answer.new.self.exec Loud text h lines (as_line c.args.line.now) c.in-Ok.reply.items
    c.answer.ensures.program c.answer.ensures.said s (c.in-Ok.ensures.does s.after s.runs))

pub returns-clause-say_whole : goal.returns-clause-say_whole
returns-clause-say_whole g c = λ from text h lines s _.
    let part = c.in-Err.ensures.part in
    let says : g.D.Desk.said c.say.new.self ≡ told_push (g.D.Desk.said c.answer.new.desk) (take part.0 c.in-Ok.reply.items) =
    part.2 ∙ ap (λ (t : Text). told_push (g.D.Desk.said c.answer.new.desk) (take part.0 t)) c.as_slice.ensures.value in
    reply-failed g.D.Desk.size g.D.Desk.image g.D.Desk.may_leave g.D.Desk.moment g.D.Desk.reach g.D.Desk.said g.D.Desk.asked g.D.Desk.syncs
    c.reads_as_settled.ensures.crash c.reads_as_settled.ensures.read from c.answer.new.desk c.say.new.self c.answer.new.self.exec (language c.args.session.now.exec) text h lines (as_line c.args.line.now) c.in-Ok.reply.items part.0
    (ap (λ is. language_of is) c.answer.ensures.program) says c.say.ensures.asked c.say.ensures.image c.say.ensures.pending c.say.ensures.time
    (went g.D.Desk.size g.D.Desk.image g.D.Desk.may_leave g.D.Desk.moment g.D.Desk.reach g.D.Desk.said g.D.Desk.asked g.D.Desk.syncs
    c.only_appends.ensures c.drains_by_turns.ensures from c.args.desk.now c.answer.new.desk c.args.session.now.exec c.answer.new.self.exec Loud text h lines (as_line c.args.line.now) c.in-Ok.reply.items
    c.answer.ensures.program c.answer.ensures.said s (c.in-Ok.ensures.does s.after s.runs))
