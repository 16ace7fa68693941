-- The names in scope, in an ordered set beside their list.
use Rattle.std.specs.Prelude.{◌≡◌, ℕ, true, List}
use Rattle.std.specs.Ordering.{nat_cmp}
use Rattle.std.specs.Cmp.Lexicographic.{slice_cmp}
use Rattle.std.specs.BTreeSet.{BTreeSet}
use Rattle.std.specs.BTreeSet as sorted
use Rattle.fn_tree.specs.Soundness.{Scope, contains, is_distinct}

-- the set has the names of the list, each of which stands there once
pub record Keeps (known : BTreeSet (List ℕ)) (names : Scope) : Type 0 where
  pub distinct : is_distinct names ≡ true
  pub same : (q : List ℕ) → sorted.contains (slice_cmp nat_cmp) known q ≡ contains names q
