use Rattle.std.proofs.Common.{◌≡◌, ℕ, ◌<◌, List, [], ◌∷◌, Option, true, sym, ap, ◌∙◌, arith}
use Rattle.std.specs.Prelude.{nat_lt}
use Rattle.std.proofs.lemmas.Bool.Decides.{nat_tests}
use Rattle.std.proofs.lemmas.List.{append-nil}
use Rattle.r3_gate.specs.Gate.{Tracks}
use Rattle.r3_gate.specs.Log.{size_of}
use Rattle.r3_gate.specs.declared.gate.Gate.{Gate}
use Rattle.r3_gate.proofs.tests.append.Goals as goal

-- a log that ends behind what is published has something staged
some_staged : (D : Type 0) (s : D → Option ℕ) (i : D → Option (List ℕ)) (m : D → List ℕ → Type 0) (d : D) (g : Gate) (ps qs : List (List ℕ))
    → g.published < g.end → Tracks s i m d g ps qs
    → (before : List (List ℕ)) × (q : List ℕ) × (others : List (List ℕ)) × Tracks s i m d g before (q ∷ others)
some_staged D s i m d g ps [] lt t = absurd (omega (arith, lt, t.published_end, t.end, ap (λ (l : List (List ℕ)). size_of l) (append-nil ps)))
some_staged D s i m d g ps (q ∷ qs) lt t = (ps, q, qs, t)

pub publish-requires : goal.publish-requires
publish-requires g c =
    let gate = c.loop-payload.gate in
    let t : nat_lt gate.published gate.end ≡ true = sym c.has_staged.ensures ∙ c.if-not-has_staged.false in
    let lt : gate.published < gate.end = grind (arith, nat_tests) in
    let i = c.loop-payload.invariant in
    some_staged _ g.D.Desk.size g.D.Desk.image g.D.Desk.may_leave c.loop-payload.desk gate i.0 i.1 lt i.2
