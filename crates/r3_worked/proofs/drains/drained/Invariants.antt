use Rattle.r3_model.specs.Functions.{language_of}
use Rattle.r3_model.specs.Valid.{IsValid}
use Rattle.r3_plain.specs.Words.{state_of}
use Rattle.r3_worked.proofs.drains.drained.Given as goal

abbrev pub invariant-rounds : goal.invariant-rounds
invariant-rounds l = IsValid (language_of l.program) (state_of l.state)
