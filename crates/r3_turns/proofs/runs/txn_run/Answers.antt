use Rattle.std.proofs.Common.{length, ap, ◌∙◌}
use Rattle.fn_tree.specs.Declarations.{called}
use Rattle.fn_tree.specs.Values.{items_of}
use Rattle.fn_txn.specs.Runs.{arguments_of}
use Rattle.r3_model.specs.Language.{Text}
use Rattle.r3_past.specs.Maps.{versions_in}
use Rattle.r3_turns.proofs.Pieces.{txn-rises}
use Rattle.r3_turns.proofs.runs.txn_run.Goals as goal

pub run_txn-requires-clause-called : goal.run_txn-requires-clause-called
run_txn-requires-clause-called g c =
    let asked = c.requires.asked in
    ap (λ (x : Text). called c.args.program.now x (length (arguments_of (items_of c.args.request.now.args)))) c.as_str.ensures.text
    ∙ (c.asks_what_is_there.ensures c.args.program.now asked.0 asked.1 asked.2 c.args.request.now asked.3 c.requires.kind).called

pub returns-clause-rising : goal.returns-clause-rising
returns-clause-rising g c =
    txn-rises c.args.program.now c.as_str.result.now c.args.request.now.args (versions_in (g.P.Past.map c.new-view.result.past c.new-view.result.index))
    c.in_ok-run.run' _ _ (c.programs_are_lawful.ensures c.args.program.now) c.in_ok-run.ensures.meaning
