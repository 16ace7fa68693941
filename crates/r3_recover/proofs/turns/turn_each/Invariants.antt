use Rattle.std.proofs.Common.{◌≡◌, ◌≤◌, ◌<◌, ◌*◌, ◌-◌, ℕ, true, false, drop}
use Rattle.r3_model.specs.Machine.{State}
use Rattle.r3_exec.specs.Does.{SyncsWithin}
use Rattle.r3_recover.specs.Drained.{CountsFaults}
use Rattle.r3_recover.specs.Rounds.{Point, Turns}
use Rattle.r3_recover.proofs.turns.turn_each.Given as goal

pub record Left (Goes Fewer Counted Program Few Disk Ask Said Say : Type 0) : Type 0 where
  pub goes : Goes
  pub fewer : Fewer
  pub counted : Counted
  pub program : Program
  pub few : Few
  pub disk : Disk
  pub ask : Ask
  pub said : Said
  pub say : Say

abbrev pub invariant-ids : goal.invariant-ids
invariant-ids g l = Left
    ((from : g.row.D.Denot) (st : State) (k turns : ℕ)
    → Point g.D.Desk.size g.D.Desk.image g.D.Desk.may_leave g.D.Desk.moment g.D.Desk.reach g.D.Desk.said g.D.Desk.asked g.D.Desk.syncs
    from l.fn.desk l.fn.exec st k turns (Turns l.ids) l.fn.round.left l.fn.round.changed
    → Point g.D.Desk.size g.D.Desk.image g.D.Desk.may_leave g.D.Desk.moment g.D.Desk.reach g.D.Desk.said g.D.Desk.asked g.D.Desk.syncs
    from l.desk l.exec st k turns (Turns (drop l.id-index l.ids)) l.round.left l.round.changed)
    (l.round.left ≤ l.fn.round.left)
    (l.round.changed ≡ true → l.fn.round.changed ≡ false → l.round.left < l.fn.round.left)
    (l.exec.program ≡ l.fn.exec.program)
    (SyncsWithin (g.D.Desk.syncs l.fn.desk) (g.D.Desk.syncs l.desk) (2 * (l.fn.round.left - l.round.left)))
    (g.D.Desk.disk_faults l.desk ≡ g.D.Desk.disk_faults l.fn.desk)
    (CountsFaults g.D.Desk.asked g.D.Desk.ask_faults l.fn.desk l.desk)
    (g.D.Desk.said l.desk ≡ g.D.Desk.said l.fn.desk)
    (g.D.Desk.say_faults l.desk ≡ g.D.Desk.say_faults l.fn.desk)
