use Rattle.std.proofs.Common.{◌≡◌, sym, ap, ◌∙◌, ℕ, Option, None, take}
use Rattle.std.proofs.lemmas.List.Sums.{fold_more}
use Rattle.std.specs.declared.cmp.Ordering.{Ordering}
use Rattle.r3_rows.specs.Keys.{key_cmp}
use Rattle.r3_rows.specs.declared.rows.Key.{Key}
use Rattle.r3_chain.specs.Versions.{versions_of, first_past}
use Rattle.r3_snap.specs.DerivedOrder.{same_cmp}
use Rattle.r3_snap.specs.Conflicts.{earlier, conflict_past}
use Rattle.r3_snap.proofs.conflicts.conflict.Goals as goal

pub keys-preserved : goal.keys-preserved
keys-preserved c =
    let keys : _ = c.keys-key-items.result.now in
    let step : Option ℕ → Key → Option ℕ = λ least key. earlier least (first_past c.args.snap (versions_of key_cmp key c.args.chains.now.versions)) in
    let found : c.after.result ≡ first_past c.args.snap (versions_of key_cmp c.key-item.result c.args.chains.now.versions) =
    c.after.ensures ∙ ap (λ (R : Key → Key → Ordering). first_past c.args.snap (versions_of R c.key-item.result c.args.chains.now.versions)) same_cmp in
    c.earlier-least.ensures ∙ ap (earlier c.keys.least) found
    ∙ ap (λ least. step least c.key-item.result) c.keys.invariant
    ∙ ap (step (conflict_past c.args.snap (take c.keys.key-index keys) c.args.chains.now.versions)) c.key-item.is
    ∙ sym (fold_more step None keys c.keys.key-index c.key-item.result c.keys-test.true)
