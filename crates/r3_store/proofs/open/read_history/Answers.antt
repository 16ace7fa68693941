use Rattle.std.proofs.Common.{◌≡◌, ◌⊎◌, List, ℕ, Err, ap, ◌∙◌, sym, subst, inr, ⊎_elim, []}
use Rattle.r3_gate.specs.Log.{IsLog}
use Rattle.r3_gate.specs.Gate.{Tracks}
use Rattle.r3_gate.specs.Payloads.{contents}
use Rattle.r3_gate.specs.declared.fault.GateFault.TheVariants as gates
use Rattle.r3_formed.specs.Load.{payloads, bytes_of, AreUnformed}
use Rattle.r3_store.specs.Opened.{IsCaused, IsStopped, Reads}
use Rattle.r3_store.specs.declared.fault.OpenFault.{OpenFault}
use Rattle.r3_store.specs.declared.fault.OpenFault.TheVariants as faults
use Rattle.r3_store.proofs.Images.{history_of_log}
use Rattle.r3_store.proofs.OpenLaws.{log_of_history, formed_of_history, gate_caused, stop_of, fault_or_stop, never_stopped, never_fault, formed_caused, formed_stop, formed_is, not_both, one_unformed, same_payloads}
use Rattle.r3_store.proofs.open.read_history.Goals as goal

pub returns-in-Err-clause-causes : goal.returns-in-Err-clause-causes
returns-in-Err-clause-causes g c =
    subst (IsCaused (g.D.Desk.image c.args.desk.now)) (sym c.fault_of.ensures)
    (gate_caused (g.D.Desk.image c.args.desk.now) c.in-Err.fault (λ e. c.in-Err.ensures.not_store (ap Err e)) (λ k e. c.in-Err.ensures.damaged k (ap Err e)))

pub returns-in-Err-clause-on_history : goal.returns-in-Err-clause-on_history
returns-in-Err-clause-on_history g c = λ h x told is.
    subst IsStopped (sym c.fault_of.ensures) (⊎_elim (λ no_. absurd no_) (stop_of c.in-Err.fault) (c.in-Err.ensures.on_log (payloads h) x told (log_of_history x h is)))

pub returns-in-Err-clause-on_foreign : goal.returns-in-Err-clause-on_foreign
returns-in-Err-clause-on_foreign g c = λ x told is.
    subst (λ (f : OpenFault). (f ≡ faults.NotStore) ⊎ IsStopped f) (sym c.fault_of.ensures) (fault_or_stop c.in-Err.fault gates.NotStore (c.in-Err.ensures.on_foreign x told is))

pub returns-in-Err-clause-on_damaged : goal.returns-in-Err-clause-on_damaged
returns-in-Err-clause-on_damaged g c = λ k x told is.
    subst (λ (f : OpenFault). (f ≡ faults.Damaged k) ⊎ IsStopped f) (sym c.fault_of.ensures) (fault_or_stop c.in-Err.fault (gates.Damaged k) (c.in-Err.ensures.on_damaged k x told is))

pub returns-in-Err-clause-on_unformed : goal.returns-in-Err-clause-on_unformed
returns-in-Err-clause-on_unformed g c = λ k x told u.
    inr (subst IsStopped (sym c.fault_of.ensures) (⊎_elim (λ no_. absurd no_) (stop_of c.in-Err.fault) (c.in-Err.ensures.on_log u.all x told u.log)))

pub returns-in-Ok-load-clause-ok : goal.returns-in-Ok-load-clause-ok
returns-in-Ok-load-clause-ok g c =
    let l = c.in-Ok-load.ensures.ok in
    let same : contents c.in-Ok.opened.1.list ≡ payloads l.0 = ap bytes_of (sym c.deref.ensures.value) ∙ l.1 in (
      l.0,
      record {
        tracks = subst (λ (ps : List (List ℕ)). Tracks g.D.Desk.size g.D.Desk.image g.D.Desk.may_leave c.open.new.desk c.in-Ok.opened.0 ps []) same c.in-Ok.ensures.ok;
        loads = l.2;
        told = λ i e. history_of_log i l.0 l.2.formed (subst (IsLog i) same (c.in-Ok.ensures.log i (sym c.open.ensures.image ∙ e)));
      },
    )

pub returns-in-Ok-load-clause-on_history : goal.returns-in-Ok-load-clause-on_history
returns-in-Ok-load-clause-on_history g c = λ h x told is.
    let l = c.in-Ok-load.ensures.ok in
    let same : contents c.in-Ok.opened.1.list ≡ payloads l.0 = ap bytes_of (sym c.deref.ensures.value) ∙ l.1 in
    let read : contents c.in-Ok.opened.1.list ≡ payloads h = ⊎_elim (λ s. s) (λ s. absurd (never_stopped _ s)) (c.in-Ok.ensures.on_log (payloads h) x told (log_of_history x h is)) in
    let one : l.0 ≡ h = same_payloads c.one_spelling.ensures l.0 h l.2.formed.limits (formed_of_history x h is).limits (sym same ∙ read) in
    subst (Reads g.D.Desk.size g.D.Desk.image g.D.Desk.may_leave c.open.new.desk c.in-Ok.opened.0 c.in-Ok-load.loaded c.args.keep) one (record {
      tracks = subst (λ (ps : List (List ℕ)). Tracks g.D.Desk.size g.D.Desk.image g.D.Desk.may_leave c.open.new.desk c.in-Ok.opened.0 ps []) same c.in-Ok.ensures.ok;
      loads = l.2;
      told = λ i e. history_of_log i l.0 l.2.formed (subst (IsLog i) same (c.in-Ok.ensures.log i (sym c.open.ensures.image ∙ e)));
    })

pub returns-in-Ok-load-clause-on_foreign : goal.returns-in-Ok-load-clause-on_foreign
returns-in-Ok-load-clause-on_foreign g c = λ x told is. never_fault _ gates.NotStore (c.in-Ok.ensures.on_foreign x told is)

pub returns-in-Ok-load-clause-on_damaged : goal.returns-in-Ok-load-clause-on_damaged
returns-in-Ok-load-clause-on_damaged g c = λ k x told is. never_fault _ (gates.Damaged k) (c.in-Ok.ensures.on_damaged k x told is)

pub returns-in-Ok-load-clause-on_unformed : goal.returns-in-Ok-load-clause-on_unformed
returns-in-Ok-load-clause-on_unformed g c = λ k x told u.
    let l = c.in-Ok-load.ensures.ok in
    let same : contents c.in-Ok.opened.1.list ≡ payloads l.0 = ap bytes_of (sym c.deref.ensures.value) ∙ l.1 in
    let read : contents c.in-Ok.opened.1.list ≡ u.all = ⊎_elim (λ s. s) (λ s. absurd (never_stopped _ s)) (c.in-Ok.ensures.on_log u.all x told u.log) in
    not_both c.one_spelling.ensures c.beginnings_are_formed.ensures u.all k l.0 u.unformed l.2.formed (sym read ∙ same)

pub returns-clause-causes : goal.returns-clause-causes
returns-clause-causes g c =
    subst (IsCaused (g.D.Desk.image c.args.desk.now)) (sym c.fault_of_load.ensures.same)
    (formed_caused (g.D.Desk.image c.args.desk.now) c.in-Err-load.fault
    (λ k e x told. record {
      all = contents c.in-Ok.opened.1.list;
      log = c.in-Ok.ensures.log x told;
      unformed = subst (λ (b : List (List ℕ)). AreUnformed b k) (ap bytes_of c.deref.ensures.value) (c.in-Err-load.ensures.not_formed k (ap Err e));
    }))

pub returns-clause-on_history : goal.returns-clause-on_history
returns-clause-on_history g c = λ h x told is.
    let read : contents c.in-Ok.opened.1.list ≡ payloads h = ⊎_elim (λ s. s) (λ s. absurd (never_stopped _ s)) (c.in-Ok.ensures.on_log (payloads h) x told (log_of_history x h is)) in
    subst IsStopped (sym c.fault_of_load.ensures.same)
    (formed_stop c.in-Err-load.fault
    (λ k e. not_both c.one_spelling.ensures c.beginnings_are_formed.ensures (bytes_of c.deref.result.now) k h (c.in-Err-load.ensures.not_formed k (ap Err e)) (formed_of_history x h is) (ap bytes_of c.deref.ensures.value ∙ read)))

pub returns-clause-on_foreign : goal.returns-clause-on_foreign
returns-clause-on_foreign g c = λ x told is. absurd (never_fault _ gates.NotStore (c.in-Ok.ensures.on_foreign x told is))

pub returns-clause-on_damaged : goal.returns-clause-on_damaged
returns-clause-on_damaged g c = λ k x told is. absurd (never_fault _ (gates.Damaged k) (c.in-Ok.ensures.on_damaged k x told is))

pub returns-clause-on_unformed : goal.returns-clause-on_unformed
returns-clause-on_unformed g c = λ k x told u.
    let read : contents c.in-Ok.opened.1.list ≡ u.all = ⊎_elim (λ s. s) (λ s. absurd (never_stopped _ s)) (c.in-Ok.ensures.on_log u.all x told u.log) in
    subst (λ (f : OpenFault). (f ≡ faults.NotFormed k) ⊎ IsStopped f) (sym c.fault_of_load.ensures.same)
    (formed_is c.in-Err-load.fault k
    (λ j e. one_unformed c.one_spelling.ensures c.beginnings_are_formed.ensures (bytes_of c.deref.result.now) j k (c.in-Err-load.ensures.not_formed j (ap Err e))
    (subst (λ (b : List (List ℕ)). AreUnformed b k) (sym (ap bytes_of c.deref.ensures.value ∙ read)) u.unformed)))
