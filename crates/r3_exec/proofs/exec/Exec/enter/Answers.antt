use Rattle.std.proofs.Common.{take}
use Rattle.r3_entry.specs.Image.{IsHistoryOf}
use Rattle.r3_desk.specs.Moments.{started}
use Rattle.r3_exec.proofs.Discarding.{nothing_done}
use Rattle.r3_exec.proofs.exec.Exec.enter.Goals as goal

pub returns-then-len-ge-MOST_ENTRIES-clause-crash : goal.returns-then-len-ge-MOST_ENTRIES-clause-crash
returns-then-len-ge-MOST_ENTRIES-clause-crash g c = λ st k runs.
    started g.D.Desk.moment g.D.Desk.reach g.D.Desk.may_leave g.D.Desk.said g.D.Desk.asked c.args.desk.now (IsHistoryOf (take k st.history))
    (g.met.D.Desk.counts_now c.args.desk.now) (g.met.D.Desk.only_now c.args.desk.now)
    (λ image left. c.reads_as_settled.ensures.crash c.args.desk.now c.args.self.now.store st.history k image runs.holds left)

pub returns-in-Err-clause-crash : goal.returns-in-Err-clause-crash
returns-in-Err-clause-crash g c = λ st k runs.
    started g.D.Desk.moment g.D.Desk.reach g.D.Desk.may_leave g.D.Desk.said g.D.Desk.asked c.args.desk.now (IsHistoryOf (take k st.history))
    (g.met.D.Desk.counts_now c.args.desk.now) (g.met.D.Desk.only_now c.args.desk.now)
    (λ image left. c.reads_as_settled.ensures.crash c.args.desk.now c.args.self.now.store st.history k image runs.holds left)

pub returns-then-len-ge-MOST_ENTRIES-clause-discards : goal.returns-then-len-ge-MOST_ENTRIES-clause-discards
returns-then-len-ge-MOST_ENTRIES-clause-discards g c = nothing_done c.args.self.now
