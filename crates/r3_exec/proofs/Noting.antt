-- The indexes once an entry's change of a workflow's row is noted.
use Rattle.std.proofs.Common.{◌≡◌, ◌≤◌, List, [], ◌∷◌, ◌++◌, length, Option, Some, None, sym, ap, ◌∙◌, subst, arith, length-append}
use Rattle.r3_rows.specs.declared.rows.FlowRow.{FlowRow}
use Rattle.r3_entry.specs.declared.entry.Entry.{Entry}
use Rattle.sys_queue.specs.Lines.{declared_of, new_lines}
use Rattle.sys_queue.specs.Rows.{Rows}
use Rattle.sys_queue.specs.Index as queues
use Rattle.sys_pending.specs.Index as pending
use Rattle.r3_model.specs.Language.{Text}
use Rattle.r3_model.specs.Machine.{Begun}
use Rattle.r3_model.specs.Rows.{flow_at}
use Rattle.r3_store.specs.Holds as store
use Rattle.r3_store.specs.declared.store.Store.{Store}
use Rattle.r3_laws.specs.OfPending.{RowsFollow, RowsTell}
use Rattle.r3_exec.specs.Placed.{IsChange, HasEntered}
use Rattle.r3_exec.specs.Runs.{ArePinned, Keeps, rows_now}
use Rattle.r3_exec.specs.declared.exec.Exec.{Exec}
use Rattle.r3_exec.proofs.Rows.{find_now, same_now, changed_now, id_short, follows_last}
use Rattle.r3_exec.proofs.Few.{few_now}

module _ (tell : RowsTell) (follow : RowsFollow) where
  -- what is asked of a note
  pub note_asks : (exec : Exec) (h : List Entry) (e : Entry) (begun : Begun) (id : Text) (old : Option FlowRow)
      → HasEntered exec h e begun → IsChange h e.writes (Some (id, old))
      → (row : FlowRow) × (flow_at (h ++ e ∷ []) (length (h ++ e ∷ [])) id ≡ Some row) × (length id ≤ 200)
  note_asks exec h e begun id old entered change =
      let c = changed_now tell follow h e id (follows_last h e entered.store.formed) entered.one_flow change.0 in
      (c.0, c.2, id_short tell follow h e id entered.entry change.0)

  pub noted_none : (exec : Exec) (h : List Entry) (e : Entry) (begun : Begun)
      → HasEntered exec h e begun → IsChange h e.writes None → Keeps exec (h ++ e ∷ []) begun
  noted_none exec h e begun entered change =
      let same = sym (same_now tell follow h e (follows_last h e entered.store.formed) change) in record {
        store = entered.store;
        snapshots = entered.snapshots;
        in_order = entered.in_order;
        pins = entered.pins;
        declared = entered.declared;
        queues = subst (λ (rows : Rows). queues.IsIndexOf exec.queues rows) same entered.queues;
        pending = subst (λ (rows : Rows). pending.IsIndexOf exec.pending rows) same entered.pending;
        vacuumed = omega (arith, entered.vacuumed, length-append h (e ∷ []));
      }

  pub noted_some : (old new : Exec) (h : List Entry) (e : Entry) (begun : Begun) (id : Text) (before : Option FlowRow)
      → HasEntered old h e begun → IsChange h e.writes (Some (id, before))
      → new.program ≡ old.program → new.store ≡ old.store → new.begun ≡ old.begun → declared_of new.queues ≡ declared_of old.queues → new.vacuumed ≡ old.vacuumed
      → ((row : FlowRow) → flow_at (h ++ e ∷ []) (length (h ++ e ∷ [])) id ≡ Some row
      → queues.Follows old.queues new.queues id before row × pending.Follows old.pending new.pending id before row)
      → Keeps new (h ++ e ∷ []) begun
  noted_some old new h e begun id before entered change program store_same begun_same declared vacuumed follows =
      let c = changed_now tell follow h e id (follows_last h e entered.store.formed) entered.one_flow change.0 in
      let f = follows c.0 c.2 in
      let found = find_now tell follow h id ∙ sym change.1 in
      record {
        store = subst (λ (s : Store). store.Stands s (h ++ e ∷ [])) (sym store_same) entered.store;
        snapshots = ap (λ b. b.entries) begun_same ∙ entered.snapshots;
        in_order = entered.in_order;
        pins = subst (λ (s : Store). ArePinned s.pins begun) (sym store_same) entered.pins;
        declared = declared ∙ entered.declared ∙ ap (λ p. declared_of (new_lines p)) (sym program);
        queues = subst (λ (rows : Rows). queues.IsIndexOf new.queues rows) (sym c.1) (f.0 (rows_now h) entered.queues found (few_now h e entered.store.formed));
        pending = subst (λ (rows : Rows). pending.IsIndexOf new.pending rows) (sym c.1) (f.1 (rows_now h) entered.pending found);
        vacuumed = omega (arith, vacuumed, entered.vacuumed, length-append h (e ∷ []));
      }
