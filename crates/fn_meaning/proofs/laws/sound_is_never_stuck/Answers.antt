use Rattle.fn_meaning.proofs.SoundProgram.{expressions_never_stuck, flows_never_stuck, txns_never_stuck}
use Rattle.fn_meaning.proofs.laws.sound_is_never_stuck.Goals as goal

pub returns-clause-flows : goal.returns-clause-flows
returns-clause-flows c = flows_never_stuck

pub returns-clause-transactions : goal.returns-clause-transactions
returns-clause-transactions c = txns_never_stuck

pub returns-clause-expressions : goal.returns-clause-expressions
returns-clause-expressions c = expressions_never_stuck
