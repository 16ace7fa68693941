use Rattle.std.proofs.Common.{refl, ap, inl, inr, ⊎_elim}
use Rattle.r3_store.specs.declared.store.Store.{Store}
use Rattle.r3_exec.proofs.Leaving.{by_images}
use Rattle.r3_exec.proofs.Parts.{with_store}
use Rattle.r3_exec.proofs.Syncs.{few_more}
use Rattle.r3_exec.proofs.exec.Exec.settle.Goals as goal

pub returns-in-Ok-clause-settled : goal.returns-in-Ok-clause-settled
returns-in-Ok-clause-settled g c = λ st k runs.
    let holds = c.in-Ok.ensures.settled st.history k runs.holds in
    record { stands = with_store c.args.self.now st c.settle.new.self runs.stands holds.stands c.settle.ensures.pins; holds = holds }

pub returns-in-Ok-clause-crash : goal.returns-in-Ok-clause-crash
returns-in-Ok-clause-crash g c = λ st k runs.
    by_images g.D.Desk.may_leave g.D.Desk.moment g.D.Desk.reach g.D.Desk.said g.D.Desk.asked _ _ st.history k c.settle.ensures.asked
    (c.settle.ensures.crash st.history k runs.holds)

pub returns-in-Err-clause-crash : goal.returns-in-Err-clause-crash
returns-in-Err-clause-crash g c = λ st k runs.
    by_images g.D.Desk.may_leave g.D.Desk.moment g.D.Desk.reach g.D.Desk.said g.D.Desk.asked _ _ st.history k c.settle.ensures.asked
    (c.settle.ensures.crash st.history k runs.holds)

pub returns-in-Ok-clause-reads : goal.returns-in-Ok-clause-reads
returns-in-Ok-clause-reads g c = λ st k runs image told.
    ⊎_elim (λ was. inr was) (λ all. inl all) (c.settle.ensures.reads st.history k runs.holds image told)

pub returns-in-Err-clause-reads : goal.returns-in-Err-clause-reads
returns-in-Err-clause-reads g c = λ st k runs image told.
    ⊎_elim (λ was. inr was) (λ all. inl all) (c.settle.ensures.reads st.history k runs.holds image told)

pub returns-in-Ok-clause-few_syncs : goal.returns-in-Ok-clause-few_syncs
returns-in-Ok-clause-few_syncs g c = few_more _ _ c.settle.ensures.at_most

pub returns-in-Err-clause-few_syncs : goal.returns-in-Err-clause-few_syncs
returns-in-Err-clause-few_syncs g c = few_more _ _ c.settle.ensures.at_most

pub returns-in-Ok-clause-idle : goal.returns-in-Ok-clause-idle
returns-in-Ok-clause-idle g c = λ st runs.
    let idle = c.settle.ensures.idle st.history runs.holds in
    (refl, ap (λ (s : Store). record c.args.self.now { store = s }) idle.1, idle.2)

pub returns-in-Err-clause-idle : goal.returns-in-Err-clause-idle
returns-in-Err-clause-idle g c = λ st runs.
    let idle = c.settle.ensures.idle st.history runs.holds in absurd cc
