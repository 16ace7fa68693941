use Rattle.fn_txn.proofs.on_view.OnViewActsJournal.delete.Goals as goal

pub returns : goal.returns
returns g c = c.put_or_delete.ensures (g.M.View.versions c.args.self.now.view.now)
