use Rattle.std.proofs.Common.{arith}
use Rattle.fn_lex.proofs.LawLemmas.{in_order}
use Rattle.fn_lex.proofs.laws.spans_are_in_order.Goals as goal

pub returns : goal.returns
returns c = λ text ts bad l. in_order l 0 (omega arith)
