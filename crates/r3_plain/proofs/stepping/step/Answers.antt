use Rattle.std.proofs.Common.{[], ◌∷◌, Option, sym, ap, ◌∙◌, subst}
use Rattle.r3_value.specs.declared.value.Outcome.{Outcome}
use Rattle.r3_entry.specs.Formed.{IsFormed}
use Rattle.r3_model.specs.Functions.{language_of}
use Rattle.r3_model.specs.Machine.{Out, stepped}
use Rattle.r3_model.specs.Valid.{AreOpen, IsValid}
use Rattle.r3_laws.proofs.KeepsValid.{stays-formed}
use Rattle.r3_plain.specs.Words.{event_of, state_of}
use Rattle.r3_plain.proofs.stepping.step.Goals as goal

pub returns-in-Ok-clause-step : goal.returns-in-Ok-clause-step
returns-in-Ok-clause-step c =
    ap (λ (a : Option Outcome). stepped (language_of c.args.program.now) (state_of c.args.state.now) (event_of c.args.event.now) a) (sym c.in_ok-answer.ensures)
    ∙ c.in-Ok.ensures.step

pub returns-in-Ok-clause-formed : goal.returns-in-Ok-clause-formed
returns-in-Ok-clause-formed c =
    subst (λ (o : Out). IsFormed o.state.history) c.in-Ok.ensures.step
    (stays-formed (language_of c.args.program.now) (c.programs_are_lawful.ensures c.args.program.now)
    (c.programs_are_limited.ensures c.args.program.now c.program.ensures.sound c.holds_values.ensures)
    (state_of c.args.state.now) (event_of c.args.event.now) c.in_ok-answer.answer c.requires.snapshots c.requires.fits c.is_answer.ensures c.requires.formed)

pub returns-in-Ok-clause-snapshots : goal.returns-in-Ok-clause-snapshots
returns-in-Ok-clause-snapshots c =
    subst (λ (o : Out). AreOpen (language_of c.args.program.now) o.state) c.in-Ok.ensures.step
    (c.keeps_open.ensures (language_of c.args.program.now) (state_of c.args.state.now) (event_of c.args.event.now) (c.in_ok-answer.answer ∷ []) c.requires.snapshots)

pub returns-in-Ok-clause-valid : goal.returns-in-Ok-clause-valid
returns-in-Ok-clause-valid c = λ valid.
    subst (λ (o : Out). IsValid (language_of c.args.program.now) o.state) c.in-Ok.ensures.step
    (c.keeps_valid.ensures.keeps (language_of c.args.program.now) (state_of c.args.state.now) (event_of c.args.event.now) (c.in_ok-answer.answer ∷ [])
    (c.programs_are_lawful.ensures c.args.program.now) (c.programs_are_limited.ensures c.args.program.now c.program.ensures.sound c.holds_values.ensures)
    valid c.requires.fits (c.is_answer.ensures, tt {0}))
