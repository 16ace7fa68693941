use Rattle.std.proofs.Common.{◌≡◌, take, map}
use Rattle.r3_model.specs.Acts.{in_order, row_write}
use Rattle.r3_acts.proofs.loads.load_entry.Given as goal

abbrev pub invariant-rows : goal.invariant-rows
invariant-rows l = l.writes ≡ in_order (map (row_write l.table) (take l.row-index l.rows))
