use Rattle.r3_invoked.proofs.Fitting.{on-one_store}
use Rattle.r3_invoked.proofs.calls.calls_are_on_one_store.Goals as goal

pub returns : goal.returns
returns c = λ P image h calls is all. on-one_store c.one_history.ensures P image h calls is all
