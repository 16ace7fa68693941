use Rattle.std.proofs.Common.{List, sym, ap, ◌∙◌}
use Rattle.r3_entry.specs.declared.entry.Entry.{Entry}
use Rattle.r3_model.specs.Turns.{conflict_keys, writer_past}
use Rattle.r3_plain.proofs.Turns.{commits}
use Rattle.r3_plain.proofs.txns.committed.Goals as goal

pub returns-in_ok-entry-in-None : goal.returns-in_ok-entry-in-None
returns-in_ok-entry-in-None c = λ language h s.
    commits language h c.args.id.now c.args.request.now c.args.snap c.args.run _ c.in_ok-entry-in-None.entry c.next.result
    (ap (λ (x : List Entry). writer_past x c.args.snap (conflict_keys c.args.run)) (sym s.same) ∙ sym c.in-None.ensures)
    (c.in_ok-entry-in-None.ensures h) (c.next.ensures h s)
