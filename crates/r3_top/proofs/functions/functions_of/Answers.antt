use Rattle.r3_top.proofs.Refusals.{miss-of, not-refused, not-accepted}
use Rattle.r3_top.proofs.functions.functions_of.Goals as goal

pub returns-in-Ok-check-clause-faultless : goal.returns-in-Ok-check-clause-faultless
returns-in-Ok-check-clause-faultless c = not-refused c.one_reading.ensures c.args.text.now c.in-Ok.program.items.items c.in-Ok.ensures.text.0 c.in-Ok.ensures.only c.in-Ok-check.ensures.fault

pub returns-in-Err-Check-clause-none : goal.returns-in-Err-Check-clause-none
returns-in-Err-Check-clause-none c = λ fault is items accepted.
    not-accepted c.args.text.now c.in-Ok.program.items.items c.in-Err-Check.item c.in-Err-Check.kind c.in-Ok.ensures.only c.in-Err-Check.ensures.sound
    (rw c.in-Err-Check.field-0-is at c.in-Err-Check.ensures.fault) items accepted

pub returns-in-Err-clause-none : goal.returns-in-Err-clause-none
returns-in-Err-clause-none c = λ fault is items accepted. c.in-Err.ensures.none fault (miss-of c.in-Err.miss fault is) items accepted.is
