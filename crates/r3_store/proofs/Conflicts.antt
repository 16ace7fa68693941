-- The first conflict that chains tell.
use Rattle.std.proofs.Common.{◌≡◌, ℕ, ◌≤◌, List, [], ◌∷◌, fold, Option, Some, None, Result, Err, ◌⊎◌, inl, inr, ⊎_elim, refl, ap, ◌∙◌}
use Rattle.r3_rows.specs.declared.rows.Key.{Key}
use Rattle.r3_rows.specs.declared.rows.Cell.{Cell}
use Rattle.r3_rows.specs.Keys.{key_cmp}
use Rattle.r3_entry.specs.declared.entry.Entry.{Entry}
use Rattle.r3_chain.specs.Versions.{Versions, versions_of, first_past}
use Rattle.r3_snap.specs.Conflicts.{earlier, conflict_past}
use Rattle.r3_store.specs.declared.fault.CommitFault.{CommitFault}
use Rattle.r3_store.specs.declared.fault.CommitFault.TheVariants as faults
use Rattle.r3_formed.specs.Past.{StandFor, first_write, first_conflict}

-- the first conflict that the chains tell is that of the history
pub same_conflict : (es : Versions Key Cell) (h : List Entry) (oldest snap : ℕ) (keys : List Key) → StandFor es h oldest → oldest ≤ snap
    → conflict_past snap keys es ≡ first_conflict h snap keys
same_conflict es h oldest snap keys stand le = from None keys
  where
    from : (acc : Option ℕ) (ks : List Key) → fold (λ least key. earlier least (first_past snap (versions_of key_cmp key es))) acc ks ≡ fold (λ least key. earlier least (first_write h snap key)) acc ks
    from acc [] = refl
    from acc (k ∷ ks) =
        from (earlier acc (first_past snap (versions_of key_cmp k es))) ks
        ∙ ap (λ (o : Option ℕ). fold (λ least key. earlier least (first_write h snap key)) (earlier acc o) ks) (stand.past snap k le)

abbrev Told : Type 0 → CommitFault → ℕ → Type 0
Told T f j = let r : Result T CommitFault = Err f in (r ≡ Err (faults.Conflict j)) ⊎ (r ≡ Err faults.Memory)

-- the same fault, where something else was to be answered
pub err_found : {T U : Type 0} (f : CommitFault) (j : ℕ) → Told T f j → Told U f j
err_found f j t = ⊎_elim (λ e. let same : f ≡ faults.Conflict j = cc in inl (ap Err same)) (λ e. let same : f ≡ faults.Memory = cc in inr (ap Err same)) t

pub none_some : (j : ℕ) → None ≡ Some j → ⊥
none_some j e = absurd cc
