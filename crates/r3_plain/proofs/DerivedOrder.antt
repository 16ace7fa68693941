-- The order that is derived on keys is the order of the definitions.
use Rattle.std.specs.Prelude.{◌≡◌}
use Rattle.std.proofs.Common.{rules}
use Rattle.r3_rows.specs.declared.rows.Key.{Key}
use Rattle.r3_rows.specs.Keys.{key_cmp}
use Rattle.r3_rows.specs.contracts.rows.KeyOrd.TheImpl as derived

same_order : (a b : Key) → derived.cmp-value.it a b ≡ key_cmp a b
same_order a b = search rules

pub same_cmp : derived.cmp-value.it ≡ key_cmp
same_cmp = λ i a b. same_order a b i
