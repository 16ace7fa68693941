use Rattle.std.proofs.Common.{◌≡◌, ◌+◌, length}
use Rattle.std.specs.List.{AllByRecursion}
use Rattle.serde_json.specs.View.{members_view}
use Rattle.r3_model.specs.Forms.{rows_from}
use Rattle.r3_lines.specs.Lines.{IsRow}
use Rattle.r3_lines.proofs.RowsRead.{behind}
use Rattle.r3_lines.proofs.rows.rows_from.Given as goal

abbrev pub invariant-loop-key : goal.invariant-loop-key
invariant-loop-key l =
    (rows_from (members_view l.members.entries) ≡ behind l.rows.items (rows_from (members_view l.key-iterator))) × AllByRecursion IsRow l.rows.items × (length l.rows.items + length l.key-iterator ≡ length l.members.entries)
