use Rattle.std.proofs.Common.{◌≡◌, ◌++◌, [], ◌∷◌, List, ℕ, sym, subst}
use Rattle.r3_entry.specs.declared.entry.Entry.{Entry}
use Rattle.r3_store.specs.Holds.{Holds}
use Rattle.r3_store.specs.declared.fault.CommitFault.TheVariants as faults
use Rattle.r3_store.proofs.Carried.{holds_with, stands_same}
use Rattle.r3_store.proofs.tests.commits.commit_row.Goals as goal

pub returns-in-Ok-clause-holds : goal.returns-in-Ok-clause-holds
returns-in-Ok-clause-holds g c =
    let h : List Entry = c.requires.holds.0 in
    let k : ℕ = c.requires.holds.1 in
    let holds : Holds g.D.Desk.size g.D.Desk.image g.D.Desk.may_leave c.args.desk.now c.args.store.now h k = c.requires.holds.2 in
    let may = (c.is_next_row.ensures c.if-not-is_next_row.false).1 h holds.stands in
    (h ++ c.args.entry ∷ [], k, (c.in-Ok.ensures.ok h k holds may).1)

pub returns-else-is_disk-clause-holds : goal.returns-else-is_disk-clause-holds
returns-else-is_disk-clause-holds g c =
    let h : List Entry = c.requires.holds.0 in
    let k : ℕ = c.requires.holds.1 in
    let holds : Holds g.D.Desk.size g.D.Desk.image g.D.Desk.may_leave c.args.desk.now c.args.store.now h k = c.requires.holds.2 in
    let u = c.in-Err.ensures.unchanged (λ is.
    let same : c.in-Err.fault ≡ faults.Disk = cc in
    let told = c.is_disk.ensures.1 same in
    let not = c.if-is_disk.false in
    cc) in (
      h,
      k,
      subst (λ d. Holds g.D.Desk.size g.D.Desk.image g.D.Desk.may_leave d c.commit.new.self h k) (sym u.1)
          (holds_with _ _ _ c.args.desk.now c.args.store.now c.commit.new.self h k u.0.gate (stands_same c.args.store.now c.commit.new.self h u.0 holds.stands) holds),
    )
