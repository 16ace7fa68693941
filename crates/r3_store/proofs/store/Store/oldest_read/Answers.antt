use Rattle.std.proofs.Common.{refl, arith, inl, inr}
use Rattle.r3_store.proofs.Found.{none_held}
use Rattle.r3_store.proofs.store.Store.oldest_read.Goals as goal

pub returns-in-Some-clause-is : goal.returns-in-Some-clause-is
returns-in-Some-clause-is c = inl c.in-Some.ensures.least

pub returns-in-None-clause-is : goal.returns-in-None-clause-is
returns-in-None-clause-is c = inr (c.in-None.ensures.none.0 refl, c.count.ensures)

pub returns-in-Some-clause-bounds : goal.returns-in-Some-clause-bounds
returns-in-Some-clause-bounds c = λ h stands.
    let was : _ = stands.pins c.in-Some.snap c.in-Some.ensures.least.pinned in
    (was.0, was.1, c.in-Some.ensures.least.least)

pub returns-in-None-clause-bounds : goal.returns-in-None-clause-bounds
returns-in-None-clause-bounds c = λ h stands.
    (omega (arith, c.count.ensures, stands.oldest, stands.count), omega (arith, c.count.ensures, stands.count), λ s there. absurd (none_held c.args.self.now.pins s (c.in-None.ensures.none.0 refl) there))
