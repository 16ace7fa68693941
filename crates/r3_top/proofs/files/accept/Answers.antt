use Rattle.std.proofs.Common.{rules}
use Rattle.r3_top.proofs.files.accept.Goals as goal

pub returns-in-Err-Refused-clause-none : goal.returns-in-Err-Refused-clause-none
returns-in-Err-Refused-clause-none c = λ fault is. c.in-Err-Refused.ensures.none fault (search (rules, is))
