use Rattle.std.proofs.Common.{◌≡◌, ◌≤◌, ◌<◌, ℕ, true, false, drop}
use Rattle.r3_model.specs.Machine.{State}
use Rattle.r3_recover.specs.Rounds.{Point, Queues}
use Rattle.r3_recover.proofs.dequeues.dequeue_each.Given as goal

pub record Left (Goes Fewer Counted Program Syncs Disk Asked Ask Said Say : Type 0) : Type 0 where
  pub goes : Goes
  pub fewer : Fewer
  pub counted : Counted
  pub program : Program
  pub syncs : Syncs
  pub disk : Disk
  pub asked : Asked
  pub ask : Ask
  pub said : Said
  pub say : Say

abbrev pub invariant-queues : goal.invariant-queues
invariant-queues g l = Left
    ((from : g.row.D.Denot) (st : State) (k turns : ℕ)
    → Point g.D.Desk.size g.D.Desk.image g.D.Desk.may_leave g.D.Desk.moment g.D.Desk.reach g.D.Desk.said g.D.Desk.asked g.D.Desk.syncs
    from l.fn.desk l.fn.exec st k turns (Queues l.queues) l.fn.round.left l.fn.round.changed
    → Point g.D.Desk.size g.D.Desk.image g.D.Desk.may_leave g.D.Desk.moment g.D.Desk.reach g.D.Desk.said g.D.Desk.asked g.D.Desk.syncs
    from l.desk l.exec st k turns (Queues (drop l.queue-index l.queues)) l.round.left l.round.changed)
    (l.round.left ≤ l.fn.round.left)
    (l.round.changed ≡ true → l.fn.round.changed ≡ false → l.round.left < l.fn.round.left)
    (l.exec.program ≡ l.fn.exec.program)
    (g.D.Desk.syncs l.desk ≡ g.D.Desk.syncs l.fn.desk)
    (g.D.Desk.disk_faults l.desk ≡ g.D.Desk.disk_faults l.fn.desk)
    (g.D.Desk.asked l.desk ≡ g.D.Desk.asked l.fn.desk)
    (g.D.Desk.ask_faults l.desk ≡ g.D.Desk.ask_faults l.fn.desk)
    (g.D.Desk.said l.desk ≡ g.D.Desk.said l.fn.desk)
    (g.D.Desk.say_faults l.desk ≡ g.D.Desk.say_faults l.fn.desk)
