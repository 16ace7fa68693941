use Rattle.std.proofs.Common.{◌≡◌, sym, subst}
use Rattle.std.specs.Prelude.{IsTrue}
use Rattle.std.specs.FinMap.Entries.{is_sorted}
use Rattle.r3_rows.specs.Keys.{key_cmp}
use Rattle.r3_model.specs.Acts.{Writes}
use Rattle.r3_acts.proofs.Rising.{step_last}
use Rattle.r3_acts.proofs.txns.txn_entry.Goals as goal

pub from_list-requires : goal.from_list-requires
from_list-requires c = record {
  rising = subst (λ (ws : Writes). IsTrue (is_sorted key_cmp ws)) (sym c.in_ok-writes.ensures) (step_last c.args.run.writes _ _ _ c.requires.rising);
}
