use Rattle.std.proofs.Common.{length}
use Rattle.r3_model.specs.Forms.{line_of}
use Rattle.r3_exec.specs.Runs.{language}
use Rattle.r3_session.proofs.Doing.{nothing-stops}
use Rattle.r3_session.proofs.session.Session.step.Goals as goal

pub returns-in-Err-clause-stops : goal.returns-in-Err-clause-stops
returns-in-Err-clause-stops g c = λ st runs.
    nothing-stops g.D.Desk.size g.D.Desk.image g.D.Desk.may_leave g.D.Desk.moment g.D.Desk.reach g.D.Desk.said g.D.Desk.asked g.D.Desk.syncs c.drains_by_turns.ensures (language c.args.self.now.exec) c.args.desk.now st (line_of c.args.line.now)
    (g.met.D.Desk.counts_now c.args.desk.now) (g.met.D.Desk.only_now c.args.desk.now)
    (λ image left. c.reads_as_settled.ensures.crash c.args.desk.now c.args.self.now.exec.store st.history (length st.history) image runs.holds left)
    (λ image told. c.reads_as_settled.ensures.read c.args.desk.now c.args.self.now.exec.store st.history (length st.history) image runs.holds told)
