-- A workflow that stays where it stands.
use Rattle.std.specs.Prelude.{◌≡◌}
use Rattle.r3_rows.specs.declared.rows.FlowRow.{FlowRow}

-- both rows stand in the same place of the same queue
pub record KeepsPlace (old new : FlowRow) : Type 0 where
  pub status : old.status ≡ new.status
  pub started : old.started ≡ new.started
  pub queue : old.queue ≡ new.queue
