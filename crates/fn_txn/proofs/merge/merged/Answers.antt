use Rattle.std.proofs.Common.{◌≡◌, ◌∙◌, ◌++◌, false, sym, ap, map, List}
use Rattle.fn_tree.specs.Comparison.{bytes_lt}
use Rattle.fn_tree.specs.Writes.{Row}
use Rattle.fn_txn.specs.RowKeys.{write_of}
use Rattle.fn_txn.specs.Rows.{key_row}
use Rattle.fn_txn.proofs.MergeLemmas.{under_none}
use Rattle.fn_txn.proofs.merge.merged.Goals as goal

pub returns : goal.returns
returns g c =
    let rows = map (key_row (g.M.View.versions c.args.view.now) c.args.table.now) c.args.keys.now in
    let empty : bytes_lt c.args.lo.now c.args.hi.now ≡ false =
    (λ i. bytes_lt (sym c.as_str.ensures.text i) (sym c.as_str-2.ensures.text i)) ∙ sym c.if-is_below.ensures in
    c.in_ok-add_rows.ensures ∙ ap (λ l. l ++ rows) c.new-rows.ensures.items ∙ sym (under_none c.args.table.now c.args.lo.now c.args.hi.now empty (map write_of c.args.writes.now.entries) rows)
