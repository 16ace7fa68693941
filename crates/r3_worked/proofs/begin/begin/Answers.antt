use Rattle.std.proofs.Common.{[], refl, sym, ap, ◌∙◌, subst, arith}
use Rattle.r3_entry.specs.Limits.{IsSized}
use Rattle.r3_model.specs.Event.{Append}
use Rattle.r3_model.specs.Fits.{Fits}
use Rattle.r3_model.specs.Functions.{language_of}
use Rattle.r3_model.specs.Machine.{Out, State, step}
use Rattle.r3_model.specs.Run.{empty}
use Rattle.r3_model.specs.Valid.{IsValid}
use Rattle.r3_worked.proofs.begin.begin.Goals as goal

pub step-requires-clause-fits : goal.step-requires-clause-fits
step-requires-clause-fits c =
    let sized : IsSized 0 1048576 c.args.text = record { long = omega arith; short = c.requires.short; utf8 = c.as_str-text.ensures.utf8 } in
    subst (λ (st : State). Fits st.history (Append c.args.text)) (sym c.new-state.ensures.state) (refl, sized)

pub returns-in-Ok : goal.returns-in-Ok
returns-in-Ok c =
    let sized : IsSized 0 1048576 c.args.text = record { long = omega arith; short = c.requires.short; utf8 = c.as_str-text.ensures.utf8 } in
    let is = ap (λ (st : State). step (language_of c.args.program.now) st (Append c.args.text) []) (sym c.new-state.ensures.state) ∙ c.in-Ok.ensures.step in
    record {
      valid = subst (λ (o : Out). IsValid (language_of c.args.program.now) o.state) is
          (c.keeps_valid.ensures.begins (language_of c.args.program.now) c.args.text (c.programs_are_lawful.ensures c.args.program.now)
          (c.programs_are_limited.ensures c.args.program.now c.program.ensures.sound c.holds_values.ensures) (refl, sized));
    }
