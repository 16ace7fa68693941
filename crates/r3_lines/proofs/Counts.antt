-- The number of members, as data and as entries of a map.
use Rattle.std.proofs.Common.{◌≡◌, List, [], ◌∷◌, length, refl, arith}
use Rattle.std.specs.Prelude.{String}
use Rattle.std.specs.declared.alloc.Global.{Global}
use Rattle.serde_json.specs.declared.value.Value.{Value}
use Rattle.serde_json.specs.View.{members_view}
use Rattle.r3_model.specs.Forms.{count_of}

pub count_of-entries : (ms : List (String Global × Value)) → count_of (members_view ms) ≡ length ms
count_of-entries [] = refl
count_of-entries (m ∷ ms) = omega (arith, count_of-entries ms)

pub ruleset counts = (count_of-entries)
