use Rattle.std.proofs.Common.{ℕ, List, refl, subst}
use Rattle.std.specs.Prelude.{Contains}
use Rattle.r3_store.proofs.Found.{stands_with, pushed}
use Rattle.r3_store.proofs.store.Store.hold.Goals as goal

pub returns-clause-keeps : goal.returns-clause-keeps
returns-clause-keeps c = λ h stands.
    stands_with c.args.self.now _ h refl refl refl refl (pushed c.args.self.now h c.args.snap _ stands c.requires c.in_ok-hold.ensures.ok) stands

pub returns-in_err-hold-clause-keeps : goal.returns-in_err-hold-clause-keeps
returns-in_err-hold-clause-keeps c = λ h stands.
    stands_with c.args.self.now _ h refl refl refl refl (λ s there. stands.pins s (subst (λ (l : List ℕ). Contains l s) c.in_err-hold.ensures.err there)) stands
