use Rattle.fn_walk.specs.Runs.{place_at}
use Rattle.fn_txn.proofs.JournalLemmas.{get_went}
use Rattle.fn_txn.proofs.on_view.OnViewActsJournal.get.Goals as goal

pub returns : goal.returns
returns g c = λ env units cost.
    get_went (g.M.View.versions c.args.self.now.view.now) c.args.table.now c.in_ok-table.table c.args.key c.in_ok-key.key (place_at env c.args.state.now units cost) (place_at env c.got.new.journal units cost) c.got.result c.in_ok-table.ensures c.in_ok-key.ensures (c.got.ensures env units cost)
