use Rattle.std.proofs.Common.{◌≡◌, false}
use Rattle.r3_gen.proofs.Generating.{Going}
use Rattle.r3_gen.proofs.script.transfers.Given as goal

pub record Turns (Goes Whole Program Disk Says Say : Type 0) : Type 0 where
  pub going : Goes
  pub whole : Whole
  pub program : Program
  pub disk : Disk
  pub said : Says
  pub say_faults : Say

abbrev pub invariant-starts : goal.invariant-starts
invariant-starts g l = Turns
    (Going g.D.Desk.size g.D.Desk.image g.D.Desk.may_leave g.D.Desk.moment g.D.Desk.reach g.D.Desk.said g.D.Desk.asked l.initial.desk l.desk l.initial.session.exec l.session.exec l.fn.number l.fn.count l.i l.draws.kept)
    (l.session.failed ≡ false)
    (l.session.exec.program ≡ l.initial.session.exec.program)
    (g.D.Desk.disk_faults l.desk ≡ g.D.Desk.disk_faults l.initial.desk)
    (g.D.Desk.said l.desk ≡ g.D.Desk.said l.initial.desk)
    (g.D.Desk.say_faults l.desk ≡ g.D.Desk.say_faults l.initial.desk)
