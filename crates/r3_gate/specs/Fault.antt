-- When the log gives no answer.
use Rattle.std.specs.Prelude.{◌≡◌, ◌⊎◌, Result, Err}
use Rattle.r3_gate.specs.declared.fault.GateFault.{GateFault}
use Rattle.r3_gate.specs.declared.fault.GateFault.TheVariants.{Disk, Memory}

-- the disk has failed, or a growth was refused
abbrev pub IsStopped : {T : Type 0} → Result T GateFault → Type 0
IsStopped result = (result ≡ Err Disk) ⊎ (result ≡ Err Memory)
