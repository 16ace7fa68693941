-- An entry that stands in the store, before its change is noted.
use Rattle.std.proofs.Common.{◌≡◌, ℕ, ◌≤◌, List, [], ◌∷◌, ◌++◌, length, sym, ap, ◌∙◌, subst}
use Rattle.r3_entry.specs.declared.entry.Entry.{Entry}
use Rattle.r3_entry.specs.Limits.{IsEntry}
use Rattle.sys_queue.specs.Lines.{declared_of, new_lines}
use Rattle.sys_queue.specs.Index as queues
use Rattle.sys_pending.specs.Index as pending
use Rattle.r3_model.specs.Machine.{Begun}
use Rattle.r3_laws.specs.OfStates.{flows_in}
use Rattle.r3_store.specs.Holds as store
use Rattle.r3_exec.specs.Placed.{HasEntered}
use Rattle.r3_exec.specs.Runs.{ArePinned, Keeps, rows_now}
use Rattle.r3_exec.specs.declared.exec.Exec.{Exec}

pub entered : (old new : Exec) (h : List Entry) (e : Entry) (begun : Begun) → Keeps old h begun → new ≡ record old { store = new.store }
    → store.Stands new.store (h ++ e ∷ []) → new.store.pins ≡ old.store.pins → IsEntry e → flows_in e.writes ≤ 1 → HasEntered new h e begun
entered old new h e begun keeps rest stands pins entry one = record {
  store = stands;
  snapshots = ap (λ (x : Exec). x.begun.entries) rest ∙ keeps.snapshots;
  in_order = keeps.in_order;
  pins = subst (λ (ps : List ℕ). ArePinned ps begun) (sym pins) keeps.pins;
  declared = ap (λ (x : Exec). declared_of x.queues) rest ∙ keeps.declared ∙ ap (λ (x : Exec). declared_of (new_lines x.program)) (sym rest);
  queues = subst (λ (x : Exec). queues.IsIndexOf x.queues (rows_now h)) (sym rest) keeps.queues;
  pending = subst (λ (x : Exec). pending.IsIndexOf x.pending (rows_now h)) (sym rest) keeps.pending;
  vacuumed = subst (λ (x : Exec). x.vacuumed ≤ length h) (sym rest) keeps.vacuumed;
  entry = entry;
  one_flow = one;
}
