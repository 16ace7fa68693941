-- An executor of which the store alone has changed.
use Rattle.std.proofs.Common.{◌≡◌, ℕ, List, sym, subst}
use Rattle.r3_entry.specs.declared.entry.Entry.{Entry}
use Rattle.r3_store.specs.Holds as store
use Rattle.r3_store.specs.declared.store.Store.{Store}
use Rattle.r3_model.specs.Machine.{State, Begun}
use Rattle.r3_exec.specs.Runs.{ArePinned, Keeps, Stands}
use Rattle.r3_exec.specs.declared.exec.Exec.{Exec}

-- the store stands for the same history, with the same pins
pub keeps_with : (exec : Exec) (h : List Entry) (begun : Begun) (s : Store) → Keeps exec h begun → store.Stands s h → s.pins ≡ exec.store.pins
    → Keeps (record exec { store = s }) h begun
keeps_with exec h begun s old new same = record {
  store = new;
  snapshots = old.snapshots;
  in_order = old.in_order;
  pins = subst (λ (ps : List ℕ). ArePinned ps begun) (sym same) old.pins;
  declared = old.declared;
  queues = old.queues;
  pending = old.pending;
  vacuumed = old.vacuumed;
}

pub with_store : (exec : Exec) (st : State) (s : Store) → Stands exec st → store.Stands s st.history → s.pins ≡ exec.store.pins
    → Stands (record exec { store = s }) st
with_store exec st s old new same = record { valid = old.valid; keeps = keeps_with exec st.history st.begun s old.keeps new same }
