-- What a part of a body gave, against what it means.
use Rattle.std.specs.Prelude.{◌≡◌, ℕ, List, Option, Some, None, Result, Ok, Err}
use Rattle.fn_tree.specs.declared.flow.Request.{Request}
use Rattle.fn_tree.specs.Evaluation.{Binding}
use Rattle.fn_tree.specs.Ends.{At, Ends, Goes, Returns, Failed, Asks, Stuck as NoEnd}
use Rattle.fn_walk.specs.declared.broken.Break.{Break}
use Rattle.fn_walk.specs.declared.broken.Break.TheVariants as broken

-- a place, by its parts
abbrev pub place_at : {W : Type 0} → List Binding → W → ℕ → ℕ → At W
place_at env world units cost = record { env = env; world = world; units = units; cost = cost }

-- it asks, and whatever is answered is left out; it is stuck where this is nothing that may be asked
abbrev pub StopsAt : {Q W A : Type 0} → Option Q → Ends Q W A → At W → Type 0
StopsAt (Some q) end at = end ≡ Asks q at (λ o. NoEnd)
StopsAt None end at = end ≡ NoEnd

-- the end is the one that the break names; nothing is said where memory ran out
abbrev pub BreaksAs : {Q W A : Type 0} → (Request → Option Q) → Break → Ends Q W A → At W → Type 0
BreaksAs asked (broken.Returned v) end at = end ≡ Returns v at
BreaksAs asked (broken.Failed word) end at = end ≡ Failed word at
BreaksAs asked (broken.Asks q) end at = StopsAt (asked q) end at
BreaksAs asked broken.Memory end at = Unit {0}
BreaksAs asked broken.Stuck end at = end ≡ NoEnd

-- The result is that of the end, at the place where the part stopped.
abbrev pub RunsAs : {Q W A : Type 0} → (Request → Option Q) → Result A Break → Ends Q W A → At W → Type 0
RunsAs asked (Ok a) end at = end ≡ Goes a at
RunsAs asked (Err e) end at = BreaksAs asked e end at
