use Rattle.std.proofs.Common.{◌≡◌, ℕ, List, ap, ◌∙◌, map}
use Rattle.r3_value.specs.declared.value.Outcome.{Outcome}
use Rattle.fn_tree.specs.declared.look.Look.TheVariants as look
use Rattle.fn_tree.specs.Sequences.{list_or_size}
use Rattle.fn_tree.specs.Values.{or_null}
use Rattle.fn_tree.specs.Writes.{Row, pair_value, rows_under}
use Rattle.fn_txn.proofs.JournalLemmas.{rows_from_keys}
use Rattle.fn_txn.proofs.on_view.seen.Goals as goal

pub returns : goal.returns
returns g c =
    let base = g.M.View.versions c.args.view.now in
    let table = c.args.table.now in
    let found : List ℕ → List ℕ → List ℕ → List (List ℕ × ℕ) = λ t l h. map (λ k. (k, base.version t k)) (base.keys t l h) in
    let keys : c.in_ok-keys.keys.items ≡ found table c.args.lo.now c.args.hi.now = c.in_ok-keys.ensures ∙ (λ i. found (c.as_str.ensures.text i) (c.as_str-2.ensures.text i) (c.as_str-3.ensures.text i)) in
    let row : List ℕ × ℕ → Row = λ k. (k.0, or_null (base.cell table k.0)) in
    let shown : List Row → Outcome = λ r. list_or_size (map pair_value r) in
    let under : List Row → List Row = λ r. rows_under c.args.journal.now.writes table c.args.lo.now c.args.hi.now r in (
      (λ i. look.Range (c.in_ok-copy.ensures i) (c.in_ok-copy-2.ensures i) (c.in_ok-copy-3.ensures i) ((c.from_vec.ensures ∙ keys) i)),
      c.in_ok-outcome.ensures
          ∙ ap shown (c.as_slice-2.ensures.value ∙ c.in_ok-under.ensures ∙ ap under (ap (map row) (c.as_slice.ensures.value ∙ keys) ∙ rows_from_keys base table (base.keys table c.args.lo.now c.args.hi.now))),
    )
