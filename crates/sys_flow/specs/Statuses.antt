-- The commands that a status allows, and the status after one more recovery.
use Rattle.std.specs.Prelude.{ℕ, ◌+◌, Bool, true, false, if◌then◌else◌, nat_lt}
use Rattle.r3_rows.specs.declared.rows.Status.{Status}
use Rattle.r3_rows.specs.declared.rows.Status.TheVariants.{Enqueued, Pending, Success, Error, Cancelled, MaxRecoveryAttemptsExceeded}

-- a workflow that waits or runs
abbrev pub may_cancel : Status → Bool
may_cancel Enqueued = true
may_cancel Pending = true
may_cancel Success = false
may_cancel Error = false
may_cancel Cancelled = false
may_cancel MaxRecoveryAttemptsExceeded = false

-- one that was stopped and hasn't ended
abbrev pub may_resume : Status → Bool
may_resume Enqueued = false
may_resume Pending = false
may_resume Success = false
may_resume Error = false
may_resume Cancelled = true
may_resume MaxRecoveryAttemptsExceeded = true

-- the status and the attempts after one more recovery: 50 are allowed
abbrev pub recovered : Status → ℕ → Status × ℕ
recovered status attempts = if nat_lt attempts 50 then (status, attempts + 1) else (MaxRecoveryAttemptsExceeded, 51)
