-- Which fault of an opening a fault of a run is.
use Rattle.std.specs.Prelude.{Result, Ok, Err}
use Rattle.r3_recover.specs.declared.ends.StartFault.{StartFault}
use Rattle.r3_gen.specs.declared.fault.GenFault.{GenFault}
use Rattle.r3_gen.specs.declared.fault.GenFault.TheVariants as faults

abbrev pub start_of : {T : Type 0} → StartFault → Result T GenFault → StartFault
start_of none (Ok x) = none
start_of none (Err (faults.Start fault)) = fault
start_of none (Err faults.Disk) = none
start_of none (Err faults.Memory) = none
start_of none (Err faults.Say) = none
