use Rattle.std.proofs.Common.{None, length, take, sym, refl, ap, ◌∙◌}
use Rattle.r3_model.specs.Event.{Run, EntryOf, Refused}
use Rattle.r3_desk.specs.Moments.{started}
use Rattle.r3_entry.specs.Image.{IsHistoryOf}
use Rattle.r3_commands.specs.Drafts.{given_of}
use Rattle.r3_commands.specs.declared.drafts.Draft.{Draft}
use Rattle.r3_exec.proofs.Doing.{by_answer}
use Rattle.r3_exec.proofs.Leaving.{quiet}
use Rattle.r3_exec.proofs.Discarding.{nothing_done}
use Rattle.r3_exec.proofs.exec.Exec.append.Goals as goal

pub returns-in-Ok-Known-clause-does : goal.returns-in-Ok-Known-clause-does
returns-in-Ok-Known-clause-does g c = λ st k runs.
    by_answer g.D.Desk.size g.D.Desk.image g.D.Desk.may_leave g.D.Desk.asked g.D.Desk.syncs c.args.desk.now c.args.self.now st k (Run c.args.command.now) None (EntryOf c.in-Ok-Known.number c.in-Ok-Known.id) _ runs
    (sym (c.in-Ok-Known.ensures st.history runs.stands.keeps.store) ∙ ap (λ (d : Draft). given_of (length st.history) d) c.in-Ok-Known.field-0-is) refl refl refl

pub returns-in-Ok-Known-clause-crash : goal.returns-in-Ok-Known-clause-crash
returns-in-Ok-Known-clause-crash g c = λ st k runs.
    quiet g.D.Desk.may_leave g.D.Desk.moment g.D.Desk.reach g.D.Desk.said g.D.Desk.asked c.args.desk.now st.history k
    (g.met.D.Desk.counts_now c.args.desk.now) (g.met.D.Desk.only_now c.args.desk.now)
    (λ image left. c.reads_as_settled.ensures.crash c.args.desk.now c.args.self.now.store st.history k image runs.holds left)

pub returns-in-Ok-Refused-clause-does : goal.returns-in-Ok-Refused-clause-does
returns-in-Ok-Refused-clause-does g c = λ st k runs.
    by_answer g.D.Desk.size g.D.Desk.image g.D.Desk.may_leave g.D.Desk.asked g.D.Desk.syncs c.args.desk.now c.args.self.now st k (Run c.args.command.now) None (Refused c.in-Ok-Refused.refusal) _ runs
    (sym (c.in-Ok-Refused.ensures st.history runs.stands.keeps.store) ∙ ap (λ (d : Draft). given_of (length st.history) d) c.in-Ok-Refused.field-0-is) refl refl refl

pub returns-in-Ok-Refused-clause-crash : goal.returns-in-Ok-Refused-clause-crash
returns-in-Ok-Refused-clause-crash g c = λ st k runs.
    quiet g.D.Desk.may_leave g.D.Desk.moment g.D.Desk.reach g.D.Desk.said g.D.Desk.asked c.args.desk.now st.history k
    (g.met.D.Desk.counts_now c.args.desk.now) (g.met.D.Desk.only_now c.args.desk.now)
    (λ image left. c.reads_as_settled.ensures.crash c.args.desk.now c.args.self.now.store st.history k image runs.holds left)

pub returns-in-Ok-Known-clause-staged : goal.returns-in-Ok-Known-clause-staged
returns-in-Ok-Known-clause-staged g c = λ st k runs.
    started g.D.Desk.moment g.D.Desk.reach g.D.Desk.may_leave g.D.Desk.said g.D.Desk.asked c.args.desk.now (IsHistoryOf (take k st.history))
    (g.met.D.Desk.counts_now c.args.desk.now) (g.met.D.Desk.only_now c.args.desk.now)
    (λ image left. c.reads_as_settled.ensures.crash c.args.desk.now c.args.self.now.store st.history k image runs.holds left)

pub returns-in-Ok-Refused-clause-staged : goal.returns-in-Ok-Refused-clause-staged
returns-in-Ok-Refused-clause-staged g c = λ st k runs.
    started g.D.Desk.moment g.D.Desk.reach g.D.Desk.may_leave g.D.Desk.said g.D.Desk.asked c.args.desk.now (IsHistoryOf (take k st.history))
    (g.met.D.Desk.counts_now c.args.desk.now) (g.met.D.Desk.only_now c.args.desk.now)
    (λ image left. c.reads_as_settled.ensures.crash c.args.desk.now c.args.self.now.store st.history k image runs.holds left)

pub returns-in-Ok-Known-clause-discards : goal.returns-in-Ok-Known-clause-discards
returns-in-Ok-Known-clause-discards g c = nothing_done c.args.self.now

pub returns-in-Ok-Refused-clause-discards : goal.returns-in-Ok-Refused-clause-discards
returns-in-Ok-Refused-clause-discards g c = nothing_done c.args.self.now
