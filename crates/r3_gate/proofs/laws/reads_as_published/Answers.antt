use Rattle.r3_gate.proofs.Steps.{left_log, seen_log}
use Rattle.r3_gate.proofs.laws.reads_as_published.Goals as goal

pub returns-clause-read : goal.returns-clause-read
returns-clause-read g c = λ desk gate ps qs i t is. seen_log g.D.Desk.size g.D.Desk.image g.D.Desk.may_leave desk gate ps qs t i is

pub returns-clause-crash : goal.returns-clause-crash
returns-clause-crash g c = λ desk gate ps qs i t l. left_log g.D.Desk.size g.D.Desk.image g.D.Desk.may_leave desk gate ps qs t i l
