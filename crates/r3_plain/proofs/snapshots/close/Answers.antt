use Rattle.std.proofs.Common.{◌∙◌}
use Rattle.r3_rows.specs.Keys.{bytes_cmp}
use Rattle.r3_plain.proofs.Closed.{removed, sorted_entries}
use Rattle.r3_plain.proofs.snapshots.close.Goals as goal

pub returns : goal.returns
returns c = c.remove.ensures.entries ∙ removed c.args.id.now c.args.begun.now.entries (sorted_entries bytes_cmp c.args.begun.now.entries c.len-count.ensures.ordered)
