use Rattle.std.proofs.Common.{length, sym, ap, ◌∙◌}
use Rattle.std.specs.Option.{option_copied}
use Rattle.r3_model.specs.Language.{Text}
use Rattle.r3_model.specs.Rows.{flow_at}
use Rattle.r3_exec.proofs.exec.Exec.turning.Goals as goal

pub asking-requires-clause-asked : goal.asking-requires-clause-asked
asking-requires-clause-asked g c = λ h stands. record {
  row = c.in-Some.row.now;
  there = ap (λ (i : Text). flow_at h (length h) i) (sym c.as_str.ensures.text) ∙ sym (c.in_ok-row.ensures.row h stands) ∙ ap (λ o. option_copied o) c.in-Some.is;
  asks = sym (c.in_ok-n.ensures.end h stands) ∙ c.in-Asks.is;
}
