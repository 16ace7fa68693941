use Rattle.std.proofs.Common.{◌≡◌, ℕ, Some, Err, ap, ◌∙◌}
use Rattle.r3_gate.specs.declared.fault.Limit.{Limit as Room}
use Rattle.r3_exec.specs.Ends.{limit_of}
use Rattle.r3_store.specs.declared.fault.CommitFault.{CommitFault}
use Rattle.r3_store.specs.declared.fault.CommitFault.TheVariants as faults
use Rattle.r3_exec.proofs.Commits.{full_is, still}
use Rattle.r3_exec.proofs.exec.Exec.commit.Goals as goal

pub returns-in-Err-Full-clause-full : goal.returns-in-Err-Full-clause-full
returns-in-Err-Full-clause-full g c = λ h begun k l keeping same.
    let is : c.in-Err-Full.limit ≡ l = cc in
    let e = c.in-Err-Full.ensures in (
      full_is h c.args.entry c.in-Err-Full.limit
          (λ at. e.entries h keeping.keeps.store (ap (λ (x : CommitFault). Err x) (c.in-Err-Full.field-0-is ∙ ap (λ (x : Room). faults.Full x) at)))
          (λ at. e.bytes h k keeping.holds (ap (λ (x : CommitFault). Err x) (c.in-Err-Full.field-0-is ∙ ap (λ (x : Room). faults.Full x) at)))
          ∙ ap (λ (x : Room). Some (limit_of x)) is,
      (let u = e.unchanged (λ at. absurd cc) in
          still g.D.Desk.size g.D.Desk.image g.D.Desk.may_leave _ _ c.args.self.now c.commit.new.self h begun k keeping u.0 u.1),
    )

pub returns-in-Err-Conflict-clause-conflict : goal.returns-in-Err-Conflict-clause-conflict
returns-in-Err-Conflict-clause-conflict g c = λ h stands j same.
    let is : c.in-Err-Conflict.entry ≡ j = cc in
    c.in-Err-Conflict.ensures.conflict h stands c.in-Err-Conflict.entry (ap (λ (x : CommitFault). Err x) c.in-Err-Conflict.field-0-is) ∙ ap (λ (x : ℕ). Some x) is

pub returns-in-Err-Conflict-clause-kept : goal.returns-in-Err-Conflict-clause-kept
returns-in-Err-Conflict-clause-kept g c = λ h begun k j keeping same.
    let u = c.in-Err-Conflict.ensures.unchanged (λ at. absurd cc) in
    still g.D.Desk.size g.D.Desk.image g.D.Desk.may_leave _ _ c.args.self.now c.commit.new.self h begun k keeping u.0 u.1
