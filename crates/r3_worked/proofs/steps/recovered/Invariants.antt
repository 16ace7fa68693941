use Rattle.r3_model.specs.Functions.{language_of}
use Rattle.r3_model.specs.Valid.{IsValid}
use Rattle.r3_plain.specs.Words.{state_of}
use Rattle.r3_worked.proofs.steps.recovered.Given as goal

abbrev pub invariant-recoveries : goal.invariant-recoveries
invariant-recoveries l = IsValid (language_of l.program) (state_of l.state)
