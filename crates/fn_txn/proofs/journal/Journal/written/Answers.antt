use Rattle.std.proofs.Common.{◌≡◌, ◌∙◌, map, rules, arith}
use Rattle.std.specs.Option.{option_copied}
use Rattle.fn_tree.specs.Writes.{written_at}
use Rattle.fn_txn.specs.RowKeys.{write_of}
use Rattle.fn_txn.proofs.OrderLemmas.{lookup_is}
use Rattle.fn_txn.proofs.journal.Journal.written.Goals as goal

pub returns : goal.returns
returns c =
    let e : option_copied c.get.result ≡ written_at (map write_of c.self.inside.writes.entries) c.args.key.now.table c.args.key.now.key = c.get.ensures.value ∙ lookup_is _ c.row_order.ensures c.args.key.now c.self.inside.writes.entries in
    let v = c.self.view_is in
    first_of (search rules, grind arith)
