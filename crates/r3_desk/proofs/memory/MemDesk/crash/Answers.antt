use Rattle.std.proofs.Common.{rules, ◌≡◌, ◌≤◌, List, ℕ, length, reverse, refl, sym, subst, arith}
use Rattle.std.proofs.lemmas.List.{length-reverse}
use Rattle.r3_desk.proofs.Crashes.{crash_left, reach_when}
use Rattle.r3_desk.specs.Memory.{MayLeave, state_when}
use Rattle.r3_desk.specs.Torn.{crash_image}
use Rattle.r3_desk.proofs.memory.MemDesk.crash.Goals as goal

pub returns-clause-left : goal.returns-clause-left
returns-clause-left c =
    let d = c.args.self.now in
    let is : c.in_ok-left.left.items ≡ crash_image c.args.torn (state_when d.first.items (reverse d.calls.steps.items) d.written.items c.args.moment) = search rules in
    let left = crash_left d.first.items c.args.torn (reverse d.calls.steps.items) d.written.items c.args.moment d.fitting in
    subst (λ (l : List ℕ). MayLeave (state_when d.first.items (reverse d.calls.steps.items) d.written.items c.args.moment) l) (sym is) left

pub returns-clause-reached : goal.returns-clause-reached
returns-clause-reached c =
    let d = c.args.self.now in
    let is : c.in_ok-left.left.items ≡ crash_image c.args.torn (state_when d.first.items (reverse d.calls.steps.items) d.written.items c.args.moment) = search rules in
    let left = crash_left d.first.items c.args.torn (reverse d.calls.steps.items) d.written.items c.args.moment d.fitting in
    let here = subst (λ (l : List ℕ). MayLeave (state_when d.first.items (reverse d.calls.steps.items) d.written.items c.args.moment) l) (sym is) left in
    reach_when d.first.items (reverse d.calls.steps.items) d.written.items c.args.moment _ _ _ (omega (arith, c.requires, length-reverse d.calls.steps.items)) (here, refl, refl)
