use Rattle.std.proofs.Common.{◌≡◌, ℕ, ◌+◌, ◌-◌, sym, ap, ◌∙◌, arith}
use Rattle.std.specs.FinMap.{find}
use Rattle.r3_rows.specs.Keys.{key_cmp}
use Rattle.r3_entry.specs.History.{map_at}
use Rattle.r3_plain.proofs.LastWrites.{found_here, passed_over}
use Rattle.r3_plain.proofs.writes.last_write.Goals as goal

pub returns-in-Some : goal.returns-in-Some
returns-in-Some c =
    let j = c.args.index - c.passed.passed in
    let next : j ≡ (j - 1) + 1 = omega arith in
    sym (c.passed.invariant
    ∙ found_here c.args.history.now c.requires.formed j (j - 1) next c.entry_at-entry.result.now c.entry_at-entry.ensures c.args.key.now c.in-Some.cell.now (sym c.in-Some.ensures))

pub passed-preserved : goal.passed-preserved
passed-preserved c =
    let j = c.args.index - c.passed.passed in
    let next : j ≡ (j - 1) + 1 = omega arith in
    let before : j - 1 ≡ c.args.index - (c.passed.passed + 1) = omega arith in
    c.passed.invariant
    ∙ passed_over c.args.history.now c.requires.formed j (j - 1) next c.entry_at-entry.result.now c.entry_at-entry.ensures c.args.key.now (sym c.in-None.ensures)
    ∙ ap (λ (k : ℕ). find key_cmp c.args.key.now (map_at c.args.history.now k)) before
