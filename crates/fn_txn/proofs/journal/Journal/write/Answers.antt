use Rattle.std.proofs.Common.{◌≡◌, ◌≤◌, ◌∙◌, sym, map, length, None, rules, arith}
use Rattle.std.specs.Option.{option_copied}
use Rattle.fn_txn.specs.RowKeys.{write_of}
use Rattle.fn_txn.specs.Journals.{wrote_key}
use Rattle.fn_txn.proofs.JournalLemmas.{wrote_too_many}
use Rattle.fn_txn.proofs.journal.Journal.write.Goals as goal

pub returns-then-len-ge-MOST_KEYS : goal.returns-then-len-ge-MOST_KEYS
returns-then-len-ge-MOST_KEYS c =
    let many : 1024 ≤ length c.self.inside.writes.entries = search rules in
    let none : option_copied c.get.result ≡ None = search rules in
    let e : wrote_key c.args.key c.args.left (record { looks = c.self.inside.looks.items; writes = map write_of c.self.inside.writes.entries }) ≡ None = wrote_too_many _ c.row_order.ensures c.self.inside.looks.items c.self.inside.writes.entries c.args.key c.args.left (sym c.get.ensures.value ∙ none) many in
    let v = c.self.view_is in
    first_of (search rules, grind arith)
