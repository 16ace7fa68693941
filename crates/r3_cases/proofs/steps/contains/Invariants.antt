use Rattle.std.proofs.Common.{◌≡◌, ℕ, List, drop}
use Rattle.std.specs.List.{list_any}
use Rattle.std.specs.Str.{bytes_eq}
use Rattle.r3_cases.proofs.steps.contains.Given as goal

abbrev pub invariant-names : goal.invariant-names
invariant-names l = list_any (λ (n : List ℕ). bytes_eq n l.name) l.names ≡ list_any (λ (n : List ℕ). bytes_eq n l.name) (drop l.other-index l.names)
