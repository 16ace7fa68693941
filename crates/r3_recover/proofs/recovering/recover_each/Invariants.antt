use Rattle.std.proofs.Common.{◌≡◌, List, drop}
use Rattle.r3_entry.specs.declared.entry.Entry.{Entry}
use Rattle.r3_recover.specs.Recovering.{Recovers}
use Rattle.r3_recover.proofs.recovering.recover_each.Given as goal

pub record Left (Goes Program Syncs Disk Ask Said Asked Say : Type 0) : Type 0 where
  pub goes : Goes
  pub program : Program
  pub syncs : Syncs
  pub disk : Disk
  pub ask : Ask
  pub said : Said
  pub asked : Asked
  pub say : Say

abbrev pub invariant-ids : goal.invariant-ids
invariant-ids g l = Left
    ((from : g.row.D.Denot) (h : List Entry)
    → Recovers g.D.Desk.size g.D.Desk.image g.D.Desk.may_leave g.D.Desk.moment g.D.Desk.reach g.D.Desk.said g.D.Desk.asked g.D.Desk.syncs
    from l.fn.desk l.fn.exec h l.ids
    → Recovers g.D.Desk.size g.D.Desk.image g.D.Desk.may_leave g.D.Desk.moment g.D.Desk.reach g.D.Desk.said g.D.Desk.asked g.D.Desk.syncs
    from l.desk l.exec h (drop l.id-index l.ids))
    (l.exec.program ≡ l.fn.exec.program)
    (g.D.Desk.syncs l.desk ≡ g.D.Desk.syncs l.fn.desk)
    (g.D.Desk.disk_faults l.desk ≡ g.D.Desk.disk_faults l.fn.desk)
    (g.D.Desk.ask_faults l.desk ≡ g.D.Desk.ask_faults l.fn.desk)
    (g.D.Desk.said l.desk ≡ g.D.Desk.said l.fn.desk)
    (g.D.Desk.asked l.desk ≡ g.D.Desk.asked l.fn.desk)
    (g.D.Desk.say_faults l.desk ≡ g.D.Desk.say_faults l.fn.desk)
