use Rattle.std.proofs.Common.{◌≡◌, ℕ, ◌+◌, sym, ap, ◌∙◌, arith}
use Rattle.r3_entry.specs.History.{Map, after_entry, map_at}
use Rattle.r3_entry.proofs.Append.{map_at-next}
use Rattle.r3_plain.proofs.rows.rows_at.Goals as goal

pub entries-preserved : goal.entries-preserved
entries-preserved c =
    let h = c.args.history.now in
    let e = c.entry_at-entry.result.now in
    let turned : c.entries.i + 1 ≡ 1 + c.entries.i = omega arith in
    c.in_ok-put_writes.ensures ∙ ap (λ (m : Map). after_entry m (c.entries.i + 1, e)) c.entries.invariant
    ∙ ap (λ (n : ℕ). after_entry (map_at h c.entries.i) (n, e)) turned ∙ sym (map_at-next h c.entries.i e c.entry_at-entry.ensures)
