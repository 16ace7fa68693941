use Rattle.std.proofs.Common.{length, map, ap, ◌∙◌, inl}
use Rattle.fn_tree.specs.declared.look.TxnRun.{TxnRun}
use Rattle.r3_model.specs.Acts.{txn_entry}
use Rattle.r3_model.specs.Rows.{answer_of, steps_at}
use Rattle.r3_exec.proofs.Begun.{is_pinned}
use Rattle.r3_exec.proofs.exec.Exec.txn_draft.Goals as goal

pub txn_run-requires-clause-reads : goal.txn_run-requires-clause-reads
txn_run-requires-clause-reads g c =
    let x = c.requires.txn in
    ((x.0.history, x.1.keeps.store), inl (is_pinned c.args.self.now.store.pins x.0.begun c.args.id.now c.args.snap x.1.keeps.pins x.2.snap))

pub txn_run-requires-clause-asked : goal.txn_run-requires-clause-asked
txn_run-requires-clause-asked g c =
    let x = c.requires.txn in
    let asked = x.2.comes.3 in
    (asked.row.function, asked.row.args, map answer_of (steps_at x.0.history (length x.0.history) c.args.id.now), asked.asks)

pub returns : goal.returns
returns g c = λ h stands. c.in_ok-entry.ensures h ∙ ap (λ (r : TxnRun). txn_entry h c.args.id.now c.args.request.now c.args.snap r) (c.in_ok-run.ensures.run h c.args.id.now stands)
