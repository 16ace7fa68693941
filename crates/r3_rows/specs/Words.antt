-- The words of statuses and of kinds of steps.
use Rattle.std.specs.Prelude.{ℕ, List, codes}
use Rattle.r3_rows.specs.declared.rows.Status.{Status}
use Rattle.r3_rows.specs.declared.rows.Status.TheVariants.{Enqueued, Pending, Success, Error, Cancelled, MaxRecoveryAttemptsExceeded}
use Rattle.r3_rows.specs.declared.rows.StepKind.{StepKind}
use Rattle.r3_rows.specs.declared.rows.StepKind.TheVariants.{Txn, Outside, Child, Await}

-- the word by which a reply tells a status
abbrev pub status_word : Status → List ℕ
status_word Enqueued = codes "ENQUEUED"
status_word Pending = codes "PENDING"
status_word Success = codes "SUCCESS"
status_word Error = codes "ERROR"
status_word Cancelled = codes "CANCELLED"
status_word MaxRecoveryAttemptsExceeded = codes "MAX_RECOVERY_ATTEMPTS_EXCEEDED"

-- the word by which a trace tells a kind of step
abbrev pub kind_word : StepKind → List ℕ
kind_word Txn = codes "txn"
kind_word Outside = codes "outside"
kind_word Child = codes "child"
kind_word Await = codes "await"
