-- The order of keys is a total order, and only equal keys tie.
use Rattle.std.proofs.Common.{◌≡◌, ℕ, List, refl, ap, arith, rules}
use Rattle.std.specs.Ordering.{nat_cmp, ordering_then}
use Rattle.std.specs.Cmp.{IsTotalOrder}
use Rattle.std.specs.Cmp.Rules.{comparing}
use Rattle.std.specs.FinMap.{IsAntisymmetric, nat_cmp-IsAntisymmetric, slice_cmp-IsAntisymmetric}
use Rattle.std.specs.declared.cmp.Ordering.{Ordering}
use Rattle.std.specs.declared.cmp.Ordering.TheVariants.{Less, Equal, Greater}
use Rattle.r3_rows.specs.declared.rows.Key.{Key}
use Rattle.r3_rows.specs.declared.rows.Key.TheVariants.{User, Flow, Step}
use Rattle.r3_rows.specs.Keys.{key_cmp, kind, owner, row_key, number_of, bytes_cmp}

pub key_cmp-total : IsTotalOrder key_cmp
key_cmp-total = search (comparing, rules) depth 9

both_equal : (a b : Ordering) → ordering_then a b ≡ Equal → (a ≡ Equal) × (b ≡ Equal)
both_equal Less b e = absurd cc
both_equal Equal b e = (refl, e)
both_equal Greater b e = absurd cc

bytes_same : (xs ys : List ℕ) → bytes_cmp xs ys ≡ Equal → xs ≡ ys
bytes_same = slice_cmp-IsAntisymmetric nat_cmp-IsAntisymmetric

nats_same : (m n : ℕ) → nat_cmp m n ≡ Equal → m ≡ n
nats_same = nat_cmp-IsAntisymmetric

parts_same : (x y : Key) → kind x ≡ kind y → owner x ≡ owner y → row_key x ≡ row_key y → number_of x ≡ number_of y → x ≡ y
parts_same (User t k) (User u l) a b c d = rw (b, c) refl
parts_same (Flow i) (Flow j) a b c d = ap Flow b
parts_same (Step i m) (Step j n) a b c d = rw (b, d) refl
parts_same (User t k) (Flow j) a b c d = absurd (omega arith)
parts_same (User t k) (Step j n) a b c d = absurd (omega arith)
parts_same (Flow i) (User u l) a b c d = absurd (omega arith)
parts_same (Flow i) (Step j n) a b c d = absurd (omega arith)
parts_same (Step i m) (User u l) a b c d = absurd (omega arith)
parts_same (Step i m) (Flow j) a b c d = absurd (omega arith)

-- keys that tie are equal
pub key_cmp-same : IsAntisymmetric key_cmp
key_cmp-same x y e =
    let a = both_equal (nat_cmp (kind x) (kind y)) _ e in
    let b = both_equal (bytes_cmp (owner x) (owner y)) _ a.1 in
    let c = both_equal (bytes_cmp (row_key x) (row_key y)) _ b.1 in
    parts_same x y (nats_same _ _ a.0) (bytes_same _ _ b.0) (bytes_same _ _ c.0) (nats_same _ _ c.1)
