-- What opening a log hands out.
use Rattle.std.specs.Prelude.{ℕ, List, map, Vec}
use Rattle.std.specs.declared.alloc.Global.{Global}

-- the payloads in a list of vectors
abbrev pub contents : Vec (Vec ℕ Global) Global → List (List ℕ)
contents v = map (λ p. p.items) v.items
