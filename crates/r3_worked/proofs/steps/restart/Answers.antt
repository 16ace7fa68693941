use Rattle.std.proofs.Common.{◌≢◌, [], sym, subst}
use Rattle.r3_entry.specs.Formed.{IsFormed}
use Rattle.r3_model.specs.Machine.{State}
use Rattle.r3_worked.proofs.steps.restart.Goals as goal

pub returns : goal.returns
returns c language = record {
  formed = subst (λ (s : State). IsFormed s.history) (sym c.restart.ensures.state) c.requires.formed;
  begins = subst (λ (s : State). s.history ≢ []) (sym c.restart.ensures.state) c.requires.begins;
  snapshots = c.restart.ensures.snapshots language;
}
