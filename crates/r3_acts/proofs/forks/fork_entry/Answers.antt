use Rattle.std.proofs.Common.{◌≡◌, sym, subst, ◌∙◌}
use Rattle.std.specs.Prelude.{IsTrue}
use Rattle.std.specs.FinMap.Entries.{is_sorted}
use Rattle.r3_rows.specs.Keys.{key_cmp}
use Rattle.r3_model.specs.Acts.{Writes}
use Rattle.r3_acts.proofs.Rising.{flow_first, forked}
use Rattle.r3_acts.proofs.forks.fork_entry.Goals as goal

pub from_list-requires : goal.from_list-requires
from_list-requires c = record {
  rising = subst (λ (ws : Writes). IsTrue (is_sorted key_cmp ws)) (sym c.in_ok-pairs.ensures) (flow_first c.args.id.now c.in_ok-first.first c.args.steps.items);
}

pub returns : goal.returns
returns c = λ h len steps.
    c.plain.ensures h len ∙ forked h c.args.id.now c.args.source.now _ _ c.args.row.now c.in_ok-first.first c.args.below c.args.count c.args.steps.items _ len
    c.in_ok-copy.ensures c.in_ok-copy-2.ensures c.in_ok-first.ensures steps (c.from_list.ensures ∙ c.in_ok-pairs.ensures)
