use Rattle.fn_txn.proofs.CountLemmas.{known}
use Rattle.fn_txn.proofs.run.run_known.Goals as goal

pub returns : goal.returns
returns g c =
    known c.later_count_is_raised.ensures.transactions c.args.items.now (g.M.View.versions c.args.view.now) c.args.params.now c.args.body.now c.args.args.now c.in_ok-copied.copied.items c.args.steps.now c.run_body.new.steps c.in_ok-end.end c.in_ok-copied.ensures c.in_ok-end.ensures
