use Rattle.std.proofs.Common.{◌≡◌, ◌+◌, drop}
use Rattle.r3_model.specs.Turns.{conflict_keys, writer_past}
use Rattle.r3_plain.proofs.Writers.{writer_from}
use Rattle.r3_plain.proofs.txns.writer_past.Given as goal

abbrev pub invariant-entries : goal.invariant-entries
invariant-entries l =
    (l.number ≡ l.entry-index) × (writer_past l.history l.snap (conflict_keys l.run) ≡ writer_from (l.entry-index + 1) l.snap (conflict_keys l.run) (drop l.entry-index l.history))
