use Rattle.std.proofs.Common.{◌≡◌, ◌++◌, ◌∷◌, [], map, length}
use Rattle.std.specs.Prelude.{reverse}
use Rattle.r3_model.specs.Acts.{put_write}
use Rattle.r3_acts.proofs.txns.writes_of.Given as goal

abbrev pub invariant-puts : goal.invariant-puts
invariant-puts l = map put_write l.initial.puts ++ l.fn.step ∷ [] ≡ map put_write l.puts ++ reverse l.writes.items

abbrev pub decreases-puts : goal.decreases-puts
decreases-puts l = length l.puts
