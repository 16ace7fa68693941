use Rattle.std.proofs.Common.{◌≡◌, ◌≤◌, ◌*◌, ◌-◌, ℕ, false}
use Rattle.r3_model.specs.Machine.{State}
use Rattle.r3_exec.specs.Does.{SyncsWithin}
use Rattle.r3_exec.specs.Runs.{Runs}
use Rattle.r3_recover.specs.Drained.{CountsFaults}
use Rattle.r3_recover.specs.Rounds.{Point, Queues}
use Rattle.r3_recover.proofs.draining.drain.Given as goal

pub record Between (Goes Program Within Few Disk Ask Said Say : Type 0) : Type 0 where
  pub goes : Goes
  pub program : Program
  pub within : Within
  pub few : Few
  pub disk : Disk
  pub ask : Ask
  pub said : Said
  pub say : Say

abbrev pub invariant-rounds : goal.invariant-rounds
invariant-rounds g l = Between
    ((st : State) (k : ℕ) → Runs g.D.Desk.size g.D.Desk.image g.D.Desk.may_leave l.fn.desk l.fn.exec st k
    → Point g.D.Desk.size g.D.Desk.image g.D.Desk.may_leave g.D.Desk.moment g.D.Desk.reach g.D.Desk.said g.D.Desk.asked g.D.Desk.syncs
    l.fn.desk l.desk l.exec st k l.turns (Queues l.queues.items) l.left false)
    (l.exec.program ≡ l.fn.exec.program)
    (l.left ≤ l.turns)
    (SyncsWithin (g.D.Desk.syncs l.fn.desk) (g.D.Desk.syncs l.desk) (2 * (l.turns - l.left)))
    (g.D.Desk.disk_faults l.desk ≡ g.D.Desk.disk_faults l.fn.desk)
    (CountsFaults g.D.Desk.asked g.D.Desk.ask_faults l.fn.desk l.desk)
    (g.D.Desk.said l.desk ≡ g.D.Desk.said l.fn.desk)
    (g.D.Desk.say_faults l.desk ≡ g.D.Desk.say_faults l.fn.desk)

abbrev pub decreases-rounds : goal.decreases-rounds
decreases-rounds g l = l.left
