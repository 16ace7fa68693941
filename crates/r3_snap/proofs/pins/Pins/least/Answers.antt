use Rattle.std.proofs.Common.{◌≡◌, sym, ap, subst, ◌∙◌, List, ℕ, Option}
use Rattle.std.specs.Option.{IfSome}
use Rattle.r3_snap.specs.Pins.{IsLeast, least_in}
use Rattle.r3_snap.proofs.PinLemmas.{least_is, least_none}
use Rattle.r3_snap.proofs.pins.Pins.least.Goals as goal

pub returns-clause-least : goal.returns-clause-least
returns-clause-least c =
    let is : c.least_of.result ≡ least_in c.args.self.now = c.least_of.ensures ∙ ap least_in (c.deref.ensures.value ∙ c.self.view_is) in
    subst (λ (r : Option ℕ). IfSome r (IsLeast c.args.self.now)) (sym is) (least_is c.args.self.now)

pub returns-clause-none : goal.returns-clause-none
returns-clause-none c =
    let is : c.least_of.result ≡ least_in c.args.self.now = c.least_of.ensures ∙ ap least_in (c.deref.ensures.value ∙ c.self.view_is) in
    rw is (least_none c.args.self.now)
