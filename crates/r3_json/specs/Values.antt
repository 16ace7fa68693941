-- Which JSON a value is, and which value a JSON is.
use Rattle.std.specs.Prelude.{ℤ, Option, Some, None, Result, Ok, Err, nat_lt, if◌then◌else◌}
use Rattle.serde_json.specs.Data.{Data, null, boolean, number, string, array, object, Items, no_items, item}
use Rattle.serde_json.specs.Find.{as_i64, of_integer}
use Rattle.r3_value.specs.Value as value
use Rattle.r3_value.specs.Value.{Value, weight, depth}
use Rattle.r3_json.specs.declared.fault.JsonFault.{JsonFault}
use Rattle.r3_json.specs.declared.fault.JsonFault.TheVariants.{NotWhole, Object, TooLarge, TooDeep}

-- the JSON of a value
abbrev mutual
  pub data_of : Value → Data
  data_of value.null = null
  data_of (value.boolean b) = boolean b
  data_of (value.integer z) = number (of_integer z)
  data_of (value.text s) = string s
  data_of (value.list vs) = array (items_data vs)

  pub items_data : value.Items → Items
  items_data value.no_items = no_items
  items_data (value.item v vs) = item (data_of v) (items_data vs)

-- a number as 64 bits give it
abbrev pub whole : Option ℤ → Result Value JsonFault
whole (Some z) = Ok (value.integer z)
whole None = Err NotWhole

-- the value, or the first limit that it passes
abbrev pub within_limits : Value → Result Value JsonFault
within_limits v = if nat_lt 4096 (weight v) then Err TooLarge else if nat_lt 16 (depth v) then Err TooDeep else Ok v

-- a list of these items, or their first fault, or the list's own
abbrev pub list_from : Result value.Items JsonFault → Result Value JsonFault
list_from (Ok vs) = within_limits (value.list vs)
list_from (Err e) = Err e

abbrev pub before : Value → Result value.Items JsonFault → Result value.Items JsonFault
before v (Ok vs) = Ok (value.item v vs)
before v (Err e) = Err e

-- an item and those behind it, or the first fault of them all
abbrev pub first_then : Result Value JsonFault → Result value.Items JsonFault → Result value.Items JsonFault
first_then (Ok v) vs = before v vs
first_then (Err e) vs = Err e

-- the value of a JSON, or its first fault
abbrev mutual
  pub value_from : Data → Result Value JsonFault
  value_from null = Ok value.null
  value_from (boolean b) = Ok (value.boolean b)
  value_from (number n) = whole (as_i64 n)
  value_from (string s) = within_limits (value.text s)
  value_from (array ds) = list_from (values_from ds)
  value_from (object ms) = Err Object

  pub values_from : Items → Result value.Items JsonFault
  values_from no_items = Ok value.no_items
  values_from (item d ds) = first_then (value_from d) (values_from ds)
