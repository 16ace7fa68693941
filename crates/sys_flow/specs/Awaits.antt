-- What a workflow that awaits another finds.
use Rattle.std.specs.Prelude.{Option, Some, None, unwrap_or, codes}
use Rattle.r3_value.specs.declared.value.Val.TheVariants as vals
use Rattle.r3_value.specs.declared.value.Outcome.{Outcome}
use Rattle.r3_value.specs.declared.value.Outcome.TheVariants as outcomes
use Rattle.r3_rows.specs.declared.rows.FlowRow.{FlowRow}
use Rattle.r3_rows.specs.declared.rows.Status.{Status}
use Rattle.r3_rows.specs.declared.rows.Status.TheVariants as status
use Rattle.sys_flow.specs.declared.awaits.Awaited.{Awaited}
use Rattle.sys_flow.specs.declared.awaits.Awaited.TheVariants.{Waiting, Answer}

-- what a workflow ended with; one that ended has an outcome
abbrev pub outcome_of : FlowRow → Outcome
outcome_of row = unwrap_or row.outcome (outcomes.Value vals.Null)

-- by where the awaited workflow stands
abbrev pub awaited_in : Status → FlowRow → Awaited
awaited_in status.Enqueued row = Waiting
awaited_in status.Pending row = Waiting
awaited_in status.Success row = Answer (outcome_of row)
awaited_in status.Error row = Answer (outcome_of row)
awaited_in status.Cancelled row = Answer (outcomes.Failure (codes "cancelled"))
awaited_in status.MaxRecoveryAttemptsExceeded row = Answer (outcomes.Failure (codes "attempts"))

-- what an await of this row, or of no row, finds
abbrev pub awaited_of : Option FlowRow → Awaited
awaited_of None = Answer (outcomes.Failure (codes "unknown_id"))
awaited_of (Some row) = awaited_in row.status row
