use Rattle.fn_lex.proofs.LexLemmas.{one_reading}
use Rattle.fn_lex.proofs.laws.one_reading.Goals as goal

pub returns : goal.returns
returns c = λ text ts us bad worse l m. one_reading l us worse m
