use Rattle.std.proofs.Common.{◌≡◌, ◌∙◌, sym, subst, map, List}
use Rattle.fn_tree.specs.Comparison.{bytes_lt}
use Rattle.fn_tree.specs.Writes.{Row, rows_under}
use Rattle.fn_txn.specs.RowKeys.{write_of}
use Rattle.fn_txn.specs.Rows.{key_row}
use Rattle.fn_txn.proofs.MergeLemmas.{IsMerging, forward, merge_start, merge_more}
use Rattle.fn_txn.proofs.merge.merged_between.Goals as goal

pub range-row-items-requires : goal.range-row-items-requires
range-row-items-requires g c =
    forward _ c.row_order.ensures c.in_ok-from.from c.in_ok-to.to (c.in_ok-to.ensures.0 ∙ sym c.in_ok-from.ensures.0) ((λ i. bytes_lt (c.in_ok-from.ensures.1 i) (c.in_ok-to.ensures.1 i)) ∙ c.requires)

pub loop-row-init : goal.loop-row-init
loop-row-init g c =
    let base = g.M.View.versions c.args.view.now in
    let table = c.args.table.now in
    let P : List Row → Type 0 = λ rows. IsMerging base table (rows_under (map write_of c.args.writes.now.entries) table c.args.lo.now c.args.hi.now (map (key_row base table) c.args.keys.now)) c.args.keys.now c.into_iter-row-iterator.result rows in
    subst P (sym c.new-rows.ensures.items)
    (merge_start _ c.row_order.ensures base c.args.keys.now table c.args.lo.now c.args.hi.now c.in_ok-from.from c.in_ok-to.to c.in_ok-from.ensures.0 c.in_ok-from.ensures.1 c.in_ok-to.ensures.0 c.in_ok-to.ensures.1 c.args.writes.now.entries c.into_iter-row-iterator.result c.range-row-items.ensures.ordered
    (c.into_iter-row-iterator.ensures.into_iter_gives ∙ c.range-row-items.ensures.between tt))

pub loop-row-preserved : goal.loop-row-preserved
loop-row-preserved g c =
    merge_more (g.M.View.versions c.args.view.now) c.args.table.now _ c.loop-row.rest.now c.in_ok-rest.rest.now c.loop-row.row-iterator c.next.new.self (c.in-Some.row.now, c.in-Some.left.now) c.loop-row.rows.items c.pass.new.rows.items c.leave.new.rows.items c.loop-row.invariant c.in-Some.ensures.steps c.in_ok-rest.ensures c.in_ok-leave.ensures
