-- Where the newest binding of a name stands.
use Rattle.std.specs.Prelude.{◌≡◌, ℕ, ◌<◌, List, length, slice_set, slice_index_or, Option, Some, None}
use Rattle.r3_value.specs.declared.value.Val.{Val}
use Rattle.fn_tree.specs.Evaluation.{Binding}
use Rattle.fn_tree.specs.Ends.{assigned}

-- the place of the binding that is given another value, if the name is bound
abbrev pub IsNewest : List Binding → List ℕ → Option ℕ → Type 0
IsNewest env name None = (v : Val) → assigned env name v ≡ env
IsNewest env name (Some i) = (i < length env) × ((v : Val) (b : Binding) → b ≡ slice_index_or env i b → assigned env name v ≡ slice_set env i (b.0, v))
