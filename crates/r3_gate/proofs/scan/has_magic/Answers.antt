use Rattle.std.proofs.Common.{sym}
use Rattle.std.proofs.lemmas.Slice.Eq.{slice_eq-Decides}
use Rattle.std.proofs.lemmas.Bool.Decides.{Decides-eqb}
use Rattle.r3_gate.proofs.scan.has_magic.Goals as goal

pub returns : goal.returns
returns c = let d = slice_eq-Decides Decides-eqb _ _ _ c.starts_with.ensures.value in (λ t. sym (d.0 t), λ e. d.1 (sym e))
