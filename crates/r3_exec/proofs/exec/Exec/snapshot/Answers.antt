use Rattle.std.proofs.Common.{ap, ◌∙◌}
use Rattle.std.specs.FinMap.{find}
use Rattle.r3_rows.specs.Keys.{bytes_cmp}
use Rattle.r3_model.specs.Machine.{Begun}
use Rattle.r3_chain.proofs.PutLemmas.{found_is}
use Rattle.r3_exec.proofs.exec.Exec.snapshot.Goals as goal

pub returns-in-Some : goal.returns-in-Some
returns-in-Some c = λ h begun keeps.
    c.in-Some.ensures.value ∙ found_is bytes_cmp c.args.id.now c.args.self.now.begun.entries ∙ ap (λ (es : Begun). find bytes_cmp c.args.id.now es) keeps.snapshots

pub returns-in-None : goal.returns-in-None
returns-in-None c = λ h begun keeps.
    c.in-None.ensures.value ∙ found_is bytes_cmp c.args.id.now c.args.self.now.begun.entries ∙ ap (λ (es : Begun). find bytes_cmp c.args.id.now es) keeps.snapshots
