-- A fault of a value, as a fault of a JSON.
use Rattle.r3_value.specs.declared.fault.ValFault.{ValFault}
use Rattle.r3_value.specs.declared.fault.ValFault.TheVariants as of_value
use Rattle.r3_json.specs.declared.fault.JsonFault.{JsonFault}
use Rattle.r3_json.specs.declared.fault.JsonFault.TheVariants.{TooLarge, TooDeep, Memory}

abbrev pub fault_of : ValFault → JsonFault
fault_of (of_value.TooLarge w) = TooLarge
fault_of of_value.TooDeep = TooDeep
fault_of of_value.Memory = Memory
