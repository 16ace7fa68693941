use Rattle.std.proofs.Common.{◌≡◌, sym, ap, ◌∙◌}
use Rattle.std.specs.Prelude.{filter_map}
use Rattle.r3_entry.specs.History.{Map, seen_in}
use Rattle.r3_past.proofs.Ranges.{keys-paired}
use Rattle.r3_past.proofs.as_of.AsOfView.keys.Goals as goal

pub returns : goal.returns
returns g c =
    let same : g.P.Past.map c.self.inside.past.now c.self.inside.index ≡ g.P.Past.map c.args.self.now.past c.args.self.now.index =
    λ i. g.P.Past.map (c.self.view_is i).past (c.self.view_is i).index in
    let h = c.self.invariant.1.0 in
    c.in_ok-keys.ensures ∙ ap (λ (m : Map). filter_map (seen_in c.args.table.now c.args.lo.now c.args.hi.now) m) same
    ∙ keys-paired (g.P.Past.map c.args.self.now.past c.args.self.now.index) h c.self.inside.index
    (sym same ∙ c.is_past.ensures.maps h c.self.inside.index c.self.invariant.1.1 c.self.invariant.0) c.args.table.now c.args.lo.now c.args.hi.now
