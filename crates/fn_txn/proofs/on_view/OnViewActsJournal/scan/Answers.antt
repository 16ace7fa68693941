use Rattle.std.proofs.lemmas.Result.{err_from_is_err_and}
use Rattle.fn_walk.specs.Runs.{place_at}
use Rattle.fn_txn.proofs.JournalLemmas.{scan_went, scan_broke}
use Rattle.fn_txn.proofs.on_view.OnViewActsJournal.scan.Goals as goal

pub returns : goal.returns
returns g c = λ env units cost.
    scan_went (g.M.View.versions c.args.self.now.view.now) c.args.table.now c.args.lo c.args.hi c.in_ok-lo.lo c.in_ok-hi.hi (place_at env c.args.state.now units cost) (place_at env c.scanned.new.journal units cost) c.scanned.result c.in_ok-lo.ensures.runs c.in_ok-hi.ensures.runs (c.scanned.ensures env units cost)

pub returns-in_err-hi : goal.returns-in_err-hi
returns-in_err-hi g c = λ env units cost.
    let p = err_from_is_err_and c.from_residual-in_err-hi.result c.from_residual-in_err-hi.ensures.1 in
    let whole = scan_broke (g.M.View.versions c.args.self.now.view.now) c.args.table.now c.args.lo c.args.hi c.in_ok-lo.lo c.in_err-hi.field-0.0 (place_at env c.args.state.now units cost) c.in_ok-lo.ensures.runs c.in_err-hi.ensures.runs in
    rw (p.1, p.2) whole
