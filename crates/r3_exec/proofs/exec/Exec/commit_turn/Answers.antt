use Rattle.std.proofs.Common.{ℕ, length, sym, ap, refl}
use Rattle.r3_model.specs.Event.{Turn}
use Rattle.r3_model.specs.Event as reply
use Rattle.r3_exec.specs.Runs.{language}
use Rattle.r3_exec.specs.Turning.{begun_at}
use Rattle.r3_exec.proofs.Doing.{by_runs}
use Rattle.r3_exec.proofs.Leaving.{quiet}
use Rattle.r3_exec.proofs.Txns.{begins}
use Rattle.r3_exec.proofs.exec.Exec.commit_turn.Goals as goal

pub commit_entry-requires : goal.commit_entry-requires
commit_entry-requires g c =
    let x = c.requires.runs in
    let h = x.0.history in
    let keeps = x.2.stands.keeps in
    record {
      commits = (
        x.0,
        x.1,
        x.2,
        record {
          request = c.args.request.now;
          snap = c.in-Some.snap;
          txn = record { comes = c.requires.comes h keeps.store; snap = sym (c.in-Some.ensures h x.0.begun keeps) };
          made = c.in-Ok.ensures h keeps.store;
        },
      );
    }

pub begin-requires : goal.begin-requires
begin-requires g c =
    let x = c.requires.runs in
    let keeps = x.2.stands.keeps in
    record {
      begins = (
        x.0,
        c.args.request.now,
        x.2.stands,
        record { comes = c.requires.comes x.0.history keeps.store; none = sym (c.in-None.ensures x.0.history x.0.begun keeps) },
      );
    }

pub returns-in-Ok-clause-does : goal.returns-in-Ok-clause-does
returns-in-Ok-clause-does g c = λ st k runs.
    let keeps = runs.stands.keeps in
    c.commit_entry.ensures.does st k runs (record {
      request = c.args.request.now;
      snap = c.in-Some.snap;
      txn = record { comes = c.requires.comes st.history keeps.store; snap = sym (c.in-Some.ensures st.history st.begun keeps) };
      made = c.in-Ok.ensures st.history keeps.store;
    })

pub returns-in-Ok-begin-clause-does : goal.returns-in-Ok-begin-clause-does
returns-in-Ok-begin-clause-does g c = λ st k runs.
    let keeps = runs.stands.keeps in
    let id = c.args.id.now in
    let q = c.args.request.now in
    let comes = c.requires.comes st.history keeps.store in
    let none = sym (c.in-None.ensures st.history st.begun keeps) in
    let o = c.in-Ok-begin.ensures.begun st q runs.stands (record { comes = comes; none = none }) in
    by_runs g.D.Desk.size g.D.Desk.image g.D.Desk.may_leave g.D.Desk.asked g.D.Desk.syncs c.args.desk.now c.args.desk.now c.args.self.now c.begin.new.self st (begun_at id st) k (Turn id)
    (reply.Began (length st.history)) _ (begins (language c.args.self.now) st id q comes none)
    (record {
      stands = o.1;
      holds = c.holds_in_memory.ensures.gate c.args.desk.now c.args.self.now.store c.begin.new.self.store st.history k c.begin.ensures.gate o.1.keeps.store runs.holds;
    })
    refl refl c.begin.ensures.program (ap (λ (s : ℕ). reply.Began s) o.0)

pub returns-in-Err-clause-crash : goal.returns-in-Err-clause-crash
returns-in-Err-clause-crash g c = λ st k runs.
    quiet g.D.Desk.may_leave g.D.Desk.moment g.D.Desk.reach g.D.Desk.said g.D.Desk.asked c.args.desk.now st.history k
    (g.met.D.Desk.counts_now c.args.desk.now) (g.met.D.Desk.only_now c.args.desk.now)
    (λ image left. c.reads_as_settled.ensures.crash c.args.desk.now c.args.self.now.store st.history k image runs.holds left)

pub returns-in-Ok-begin-clause-crash : goal.returns-in-Ok-begin-clause-crash
returns-in-Ok-begin-clause-crash g c = λ st k runs.
    quiet g.D.Desk.may_leave g.D.Desk.moment g.D.Desk.reach g.D.Desk.said g.D.Desk.asked c.args.desk.now st.history k
    (g.met.D.Desk.counts_now c.args.desk.now) (g.met.D.Desk.only_now c.args.desk.now)
    (λ image left. c.reads_as_settled.ensures.crash c.args.desk.now c.args.self.now.store st.history k image runs.holds left)

pub returns-in-Err-begin-clause-crash : goal.returns-in-Err-begin-clause-crash
returns-in-Err-begin-clause-crash g c = λ st k runs.
    quiet g.D.Desk.may_leave g.D.Desk.moment g.D.Desk.reach g.D.Desk.said g.D.Desk.asked c.args.desk.now st.history k
    (g.met.D.Desk.counts_now c.args.desk.now) (g.met.D.Desk.only_now c.args.desk.now)
    (λ image left. c.reads_as_settled.ensures.crash c.args.desk.now c.args.self.now.store st.history k image runs.holds left)
