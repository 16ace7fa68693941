use Rattle.std.proofs.Common.{Option, ap, ◌∙◌}
use Rattle.r3_rows.specs.declared.rows.Cell.{Cell}
use Rattle.r3_rows.specs.declared.rows.Key.{Key}
use Rattle.r3_rows.specs.Keys.{key_cmp}
use Rattle.std.specs.FinMap.Entries.{put}
use Rattle.r3_plain.proofs.RowLemmas.{inserted}
use Rattle.r3_plain.proofs.rows.put_write.Goals as goal

pub returns : goal.returns
returns c =
    c.in_ok-insert.ensures.entries ∙ inserted c.in_ok-key.key (c.args.number, c.in_ok-cell.cell) c.args.rows.now.entries
    ∙ ap (λ (k : Key). put key_cmp k (c.args.number, c.in_ok-cell.cell) c.args.rows.now.entries) c.in_ok-key.ensures
    ∙ ap (λ (x : Option Cell). put key_cmp c.args.write.now.0 (c.args.number, x) c.args.rows.now.entries) c.in_ok-cell.ensures
