use Rattle.std.proofs.Common.{◌+◌, ◌≤◌, length, sym, ◌∙◌, arith}
use Rattle.r3_model.specs.Functions.{language_of}
use Rattle.r3_plain.specs.Words.{event_of, given_of, state_of}
use Rattle.r3_plain.proofs.Stepped.{by_came}
use Rattle.r3_plain.proofs.stepping.stepped.Goals as goal

pub came-requires-clause-limits : goal.came-requires-clause-limits
came-requires-clause-limits c = λ e r is room.
    let st = state_of c.args.state.now in
    let some : length st.history + 1 ≤ 1000000 = omega (arith, room) in
    c.enters_what_follows.ensures.limits (language_of c.args.program.now) st (event_of c.args.event.now) c.args.answer.now e r
    (c.programs_are_lawful.ensures c.args.program.now) (c.programs_are_limited.ensures c.args.program.now c.program.ensures.sound c.holds_values.ensures)
    c.requires.formed c.requires.snapshots c.requires.fits c.is_answer.ensures some (sym c.in_ok-given.ensures.given ∙ is)

pub returns-in-Ok-clause-step : goal.returns-in-Ok-clause-step
returns-in-Ok-clause-step c =
    by_came (language_of c.args.program.now) (state_of c.args.state.now) (event_of c.args.event.now) c.args.answer.now (given_of c.in_ok-given.field-0.given)
    _ _ _ c.in_ok-given.ensures.given c.in_ok-given.ensures.calls c.in-Ok.ensures.came
