use Rattle.std.proofs.Common.{◌≡◌, ◌-◌}
use Rattle.std.specs.FinMap.{find}
use Rattle.r3_rows.specs.Keys.{key_cmp}
use Rattle.r3_entry.specs.History.{map_at}
use Rattle.r3_plain.proofs.writes.last_write.Given as goal

-- none of the last entries wrote it
abbrev pub invariant-passed : goal.invariant-passed
invariant-passed l = find key_cmp l.key (map_at l.history l.index) ≡ find key_cmp l.key (map_at l.history (l.index - l.passed))
