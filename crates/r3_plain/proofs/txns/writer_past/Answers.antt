use Rattle.std.proofs.Common.{◌≡◌, ℕ, ◌+◌, List, drop, Some, sym, ap, ◌∙◌, arith}
use Rattle.r3_entry.specs.declared.entry.Entry.{Entry}
use Rattle.r3_model.specs.Turns.{conflict_keys}
use Rattle.r3_plain.proofs.Writers.{drop_item, writer_from, writer_here, writer_later, writes_at}
use Rattle.r3_plain.proofs.txns.writer_past.Goals as goal

pub returns-then-writes_past : goal.returns-then-writes_past
returns-then-writes_past c =
    let h = c.args.history.now in
    let i = c.entries.entry-index in
    let e = c.entry-item.result in
    let is = conflict_keys c.args.run.now in
    let same : c.entries.number + 1 ≡ i + 1 = omega (arith, c.entries.invariant.0) in
    ap (λ (n : ℕ). Some n) same
    ∙ sym (c.entries.invariant.1
    ∙ ap (λ (es : List Entry). writer_from (i + 1) c.args.snap is es) (drop_item h i e c.entry-item.is c.entries-test.true)
    ∙ writer_here (i + 1) c.args.snap is e (drop (i + 1) h) (ap (λ (n : ℕ). writes_at n c.args.snap is e) (sym same) ∙ sym c.if-writes_past.ensures))

pub entries-preserved : goal.entries-preserved
entries-preserved c =
    let h = c.args.history.now in
    let i = c.entries.entry-index in
    let e = c.entry-item.result in
    let is = conflict_keys c.args.run.now in
    let same : c.entries.number + 1 ≡ i + 1 = omega (arith, c.entries.invariant.0) in (
      same,
      c.entries.invariant.1
          ∙ ap (λ (es : List Entry). writer_from (i + 1) c.args.snap is es) (drop_item h i e c.entry-item.is c.entries-test.true)
          ∙ writer_later (i + 1) c.args.snap is e (drop (i + 1) h) (ap (λ (n : ℕ). writes_at n c.args.snap is e) (sym same) ∙ sym c.if-writes_past.ensures),
    )
