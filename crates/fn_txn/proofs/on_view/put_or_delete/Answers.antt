use Rattle.fn_walk.specs.Runs.{place_at}
use Rattle.fn_txn.proofs.JournalLemmas.{put_went}
use Rattle.fn_txn.proofs.on_view.put_or_delete.Goals as goal

pub returns : goal.returns
returns c = λ base env units cost.
    put_went base c.args.table.now c.in_ok-table.table c.args.key c.in_ok-key.key c.args.left (place_at env c.args.journal.now units cost) (place_at env c.store.new.journal units cost) c.store.result c.in_ok-table.ensures c.in_ok-key.ensures (c.store.ensures env units cost)
