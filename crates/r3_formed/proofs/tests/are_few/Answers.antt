use Rattle.std.proofs.Common.{ℕ, ◌*◌, ◌+◌, ◌≤◌, ◌^◌, List, [], ◌∷◌, length, arith}
use Rattle.std.specs.Prelude.{All, Vec}
use Rattle.std.specs.List.{AllByRecursion}
use Rattle.std.specs.declared.alloc.Global.{Global}
use Rattle.std.proofs.lemmas.List.{length-map}
use Rattle.std.proofs.lemmas.List.Elements.{All-cons}
use Rattle.r3_gate.specs.Log.{Fits, IsPayload, size_of}
use Rattle.r3_formed.specs.Load.{bytes_of}
use Rattle.r3_formed.proofs.tests.are_few.Goals as goal

all_short : (ps : List (Vec ℕ Global)) → AllByRecursion (λ p. IsPayload p.items) ps → All IsPayload (bytes_of ps)
all_short [] a = λ k d lt. absurd (omega (arith, lt))
all_short (p ∷ ps) a = All-cons IsPayload p.items (bytes_of ps) a.0 (all_short ps a.1)

size_short : (ps : List (Vec ℕ Global)) → AllByRecursion (λ p. IsPayload p.items) ps → size_of (bytes_of ps) ≤ 9 + length ps * (2 ^ 23 + 5)
size_short [] a = omega arith
size_short (p ∷ ps) a = omega (arith, a.0.1, size_short ps a.1)

fits_few : (ps : List (Vec ℕ Global)) → length ps ≤ 4 → AllByRecursion (λ p. IsPayload p.items) ps → Fits (bytes_of ps)
fits_few ps few short = record {
  each = all_short ps short;
  entries = omega (arith, few, length-map ps (λ p. p.items));
  bytes = omega (arith, few, size_short ps short);
}

pub returns-then-payloads-le4 : goal.returns-then-payloads-le4
returns-then-payloads-le4 c = λ yes. fits_few c.args.payloads.now c.if-payloads-le4.true (c.are_short.ensures yes)
