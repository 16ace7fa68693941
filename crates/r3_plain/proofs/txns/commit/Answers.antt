use Rattle.std.proofs.Common.{ap, ◌∙◌}
use Rattle.fn_tree.specs.declared.look.TxnRun.{TxnRun}
use Rattle.r3_model.specs.Functions.{language_of}
use Rattle.r3_model.specs.Turns.{committed, conflict_keys, writer_past}
use Rattle.r3_plain.proofs.txns.commit.Goals as goal

pub returns : goal.returns
returns g c = λ h s.
    c.in_ok-given.ensures (language_of c.args.program.now) h s
    ∙ ap (λ (r : TxnRun). committed (language_of c.args.program.now) h c.args.id.now c.args.snap c.args.request.now r (writer_past h c.args.snap (conflict_keys r)))
    (c.in_ok-run.ensures.run h c.args.id.now s)
