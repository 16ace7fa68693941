use Rattle.std.proofs.Common.{◌≡◌, ◌∙◌, true, false, sym, rules}
use Rattle.std.proofs.lemmas.List.{nil_from_length}
use Rattle.std.specs.Str.{bytes_eq}
use Rattle.fn_tree.specs.Comparison.{bytes_lt}
use Rattle.fn_txn.proofs.MergeLemmas.{pass_stops, pass_end}
use Rattle.fn_txn.proofs.merge.pass.Goals as goal

pub returns-then-is_below : goal.returns-then-is_below
returns-then-is_below g c =
    let apart : bytes_eq c.in-Some.pair.now.0 c.args.key.now ≡ false = search rules in
    let after : bytes_lt c.args.key.now c.in-Some.pair.now.0 ≡ true =
    (λ i. bytes_lt (sym c.as_str-in-Some-2.ensures.text i) (sym c.as_str-in-Some-3.ensures.text i)) ∙ sym c.if-is_below.ensures in
    pass_stops (g.M.View.versions c.args.view.now) c.args.table.now c.args.key.now c.args.keys.now c.args.rows.now.items c.loop-pair.rows.items c.loop-pair.rest.now c.loop-pair.invariant c.in-Some.pair.now c.in-Some.later.now c.in-Some.ensures.cases.0 apart after

pub returns : goal.returns
returns g c =
    pass_end (g.M.View.versions c.args.view.now) c.args.table.now c.args.key.now c.args.keys.now c.args.rows.now.items c.loop-pair.rows.items c.loop-pair.rest.now c.loop-pair.invariant (nil_from_length c.loop-pair.rest.now c.in_default.ensures.cases)
