use Rattle.r3_model.specs.Functions.{language_of}
use Rattle.r3_model.specs.Valid.{IsValid}
use Rattle.r3_plain.specs.Words.{state_of}
use Rattle.r3_worked.proofs.drains.turns_given.Given as goal

abbrev pub invariant-ids : goal.invariant-ids
invariant-ids l = IsValid (language_of l.program) (state_of l.state)
