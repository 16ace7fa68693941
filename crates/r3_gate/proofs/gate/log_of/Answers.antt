use Rattle.std.proofs.Common.{◌≡◌, true, false, ℕ, ◌≤◌, List, [], length, map, Vec, refl, sym, ap, subst, arith}
use Rattle.std.specs.declared.alloc.Global.{Global}
use Rattle.r3_gate.specs.Gate.{Opened}
use Rattle.r3_gate.specs.Payloads.{contents}
use Rattle.r3_gate.proofs.gate.log_of.Goals as goal

-- a file without a header
opens_short : (bytes : List ℕ) → length bytes ≤ 9 → Opened bytes (record { published = 9; end = 9; count = 0; fresh = true }) []
opens_short bytes le = record {
  published_end = refl;
  end = refl;
  count = refl;
  fits = record { each = λ k d lt. absurd (omega (arith, lt)); entries = omega arith; bytes = omega arith };
  fresh = λ _. (le, refl);
  ready = λ e. absurd (let h : true ≡ false = e in cc);
}

pub returns-then-bytes-le9-clause-ok : goal.returns-then-bytes-le9-clause-ok
returns-then-bytes-le9-clause-ok c =
    let none : contents c.new-list.result ≡ [] = ap (λ (l : List (Vec ℕ Global)). map (λ p. p.items) l) c.new-list.ensures.items in
    subst (Opened c.args.bytes.now (record { published = 9; end = 9; count = 0; fresh = true })) (sym none) (opens_short c.args.bytes.now (omega (arith, c.if-bytes-le9.true)))
