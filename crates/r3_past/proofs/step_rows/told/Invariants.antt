use Rattle.std.proofs.Common.{◌≡◌, ◌++◌, map}
use Rattle.r3_model.specs.Rows.{answer_of}
use Rattle.r3_past.proofs.step_rows.told.Given as goal

abbrev pub invariant-rows : goal.invariant-rows
invariant-rows l =
    (goal.iterator-rows).can_next l.row-iterator × (goal.iterator-rows).is_finite l.row-iterator
    × (map answer_of l.fn.rows.items ≡ l.answers.items ++ map answer_of l.row-iterator.rest.items)
