use Rattle.std.proofs.Common.{◌≡◌, false}
use Rattle.r3_serve.proofs.Scripting.{Going}
use Rattle.r3_serve.proofs.script.serve_script.Given as goal

pub record Turns (Goes Whole Disk Say Input : Type 0) : Type 0 where
  pub going : Goes
  pub whole : Whole
  pub disk : Disk
  pub say : Say
  pub input : Input

abbrev pub invariant-lines : goal.invariant-lines
invariant-lines g l = Turns
    (Going g.D.Desk.size g.D.Desk.image g.D.Desk.may_leave g.D.Desk.moment g.D.Desk.reach g.D.Desk.said g.D.Desk.asked l.initial.desk l.desk l.initial.session.exec l.session.exec (g.S.Source.left l.initial.source) (g.S.Source.left l.source) (g.S.Source.ended l.source) l.script)
    (l.session.failed ≡ false)
    (g.D.Desk.disk_faults l.desk ≡ g.D.Desk.disk_faults l.initial.desk)
    (g.D.Desk.say_faults l.desk ≡ g.D.Desk.say_faults l.initial.desk)
    (g.S.Source.faults l.source ≡ g.S.Source.faults l.initial.source)
