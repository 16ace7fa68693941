-- How large the value of a JSON is.
use Rattle.std.specs.Prelude.{ℕ, ◌≤◌, Result, Ok, Err, nat_lt, if◌then◌else◌}
use Rattle.r3_value.specs.Value.{Value, Items, weight, weights, depth, depths}
use Rattle.r3_json.specs.declared.fault.JsonFault.{JsonFault}
use Rattle.r3_json.specs.declared.fault.JsonFault.TheVariants.{TooLarge, TooDeep}
use Rattle.r3_json.specs.declared.sizes.Size.{Size}

-- the size of a value, or the fault
abbrev pub size : Result Value JsonFault → Result Size JsonFault
size (Ok v) = Ok (record { weight = weight v; depth = depth v })
size (Err e) = Err e

-- the size of the values of a list together, or the fault
abbrev pub sizes : Result Items JsonFault → Result Size JsonFault
sizes (Ok vs) = Ok (record { weight = weights vs; depth = depths vs })
sizes (Err e) = Err e

-- this size, or the first limit that it passes
abbrev pub limited : ℕ → ℕ → Result Size JsonFault
limited w d = if nat_lt 4096 w then Err TooLarge else if nat_lt 16 d then Err TooDeep else Ok (record { weight = w; depth = d })

-- it passes no limit
pub record IsWithin (s : Size) : Type 0 where
  pub small : s.weight ≤ 4096
  pub shallow : s.depth ≤ 16
