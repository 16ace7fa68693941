use Rattle.std.proofs.Common.{refl}
use Rattle.r3_store.proofs.Found.{stands_with}
use Rattle.r3_store.proofs.store.Store.release.Goals as goal

pub returns-clause-keeps : goal.returns-clause-keeps
returns-clause-keeps c = λ h stands.
    stands_with c.args.self.now _ h refl refl refl refl (λ s there. stands.pins s (c.release.ensures.fewer s there)) stands
