use Rattle.r3_exec.proofs.Gathering.{taken_up}
use Rattle.r3_exec.proofs.exec.Exec.new.Goals as goal

pub returns-in-Ok-clause-stands : goal.returns-in-Ok-clause-stands
returns-in-Ok-clause-stands c = λ h stands.
    let x = c.requires in
    let rows = c.in-Ok.ensures.gathered h stands in
    taken_up _ x.0 h x.1 x.2 x.3 stands (c.len-vacuumed.ensures h stands) c.new.ensures.empty c.in-Ok.ensures.declared rows.0 rows.1

pub returns-in-Ok-clause-vacuumed : goal.returns-in-Ok-clause-vacuumed
returns-in-Ok-clause-vacuumed c = λ h stands. c.len-vacuumed.ensures h stands
