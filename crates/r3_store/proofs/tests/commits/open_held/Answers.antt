use Rattle.std.proofs.Common.{ℕ, List, length, inr, sym, subst, ◌∙◌}
use Rattle.std.specs.Prelude.{Contains}
use Rattle.std.proofs.lemmas.List.Elements.{Contains-push}
use Rattle.r3_store.proofs.Carried.{holds_with}
use Rattle.r3_store.proofs.tests.commits.open_held.Goals as goal

pub hold-requires : goal.hold-requires
hold-requires g c =
    let o = c.in_ok-store.ensures.ok in
    inr (c.len-held.ensures o.0 o.1.holds.stands ∙ sym o.1.holds.stands.count)

pub returns-clause-holds : goal.returns-clause-holds
returns-clause-holds g c =
    let o = c.in_ok-store.ensures.ok in
    (o.0, length o.0, holds_with _ _ _ _ _ _ o.0 (length o.0) c.hold.ensures.gate (c.hold.ensures.keeps o.0 o.1.holds.stands) o.1.holds)

pub returns-clause-pins : goal.returns-clause-pins
returns-clause-pins g c = subst (λ (l : List ℕ). Contains l c.len-held.result) (sym c.in_ok-hold.ensures.ok) (Contains-push _ _)
