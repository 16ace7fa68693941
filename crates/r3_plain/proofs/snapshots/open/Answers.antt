use Rattle.std.proofs.Common.{◌∙◌}
use Rattle.r3_rows.specs.Keys.{bytes_cmp}
use Rattle.r3_plain.proofs.RowLemmas.{insert_put}
use Rattle.r3_plain.proofs.snapshots.open.Goals as goal

pub returns-clause-ok : goal.returns-clause-ok
returns-clause-ok c = c.in_ok-insert.ensures.entries ∙ insert_put bytes_cmp c.args.id c.args.snap c.args.begun.now.entries
