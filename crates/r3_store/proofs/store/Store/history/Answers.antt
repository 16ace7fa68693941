use Rattle.r3_store.proofs.store.Store.history.Goals as goal

pub returns-clause-on_history : goal.returns-clause-on_history
returns-clause-on_history g c = λ h x told is. (c.in-Ok.ensures.on_history h x told is).loads.entries
