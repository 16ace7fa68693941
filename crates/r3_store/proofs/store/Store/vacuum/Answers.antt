use Rattle.std.proofs.Common.{refl}
use Rattle.r3_store.proofs.Found.{vacuumed}
use Rattle.r3_store.proofs.store.Store.vacuum.Goals as goal

pub returns-clause-keeps : goal.returns-clause-keeps
returns-clause-keeps c = λ h stands.
    let bounds : _ = c.oldest_read-oldest.ensures.bounds h stands in
    vacuumed c.trimmed_stand.ensures c.args.self.now _ h c.oldest_read-oldest.result refl c.trim.ensures.versions refl refl refl bounds.0 bounds.1 bounds.2 stands
