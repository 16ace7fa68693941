use Rattle.std.proofs.Common.{refl, arith}
use Rattle.fn_lex.proofs.LawLemmas.{slices}
use Rattle.fn_lex.proofs.laws.spans_are_slices.Goals as goal

pub returns : goal.returns
returns c = λ text ts bad l. slices l text refl (omega arith)
