-- A snapshot that is closed.
use Rattle.std.proofs.Common.{◌≡◌, ◌≤◌, ℕ, List, ◌∷◌, length, Option, Some, not, sym, ap, ◌∙◌, subst}
use Rattle.std.specs.Prelude.{T, Contains, bytes_eq}
use Rattle.std.specs.List.Sorted.{IsPermutation}
use Rattle.std.specs.Map.{lookup, remove_entry}
use Rattle.std.specs.BTreeMap.{is_at}
use Rattle.std.specs.FinMap.{find}
use Rattle.std.specs.FinMap.Entries.{is_sorted, is_sorted-where_key}
use Rattle.r3_chain.proofs.PutLemmas.{found_is}
use Rattle.r3_rows.specs.Keys.{bytes_cmp}
use Rattle.r3_entry.specs.declared.entry.Entry.{Entry}
use Rattle.r3_store.specs.Holds as store
use Rattle.sys_queue.specs.Lines.{declared_of, new_lines}
use Rattle.sys_queue.specs.Index as queues
use Rattle.sys_pending.specs.Index as pending
use Rattle.r3_model.specs.Language.{Text}
use Rattle.r3_model.specs.Machine.{Begun, closed}
use Rattle.r3_exec.specs.Runs.{Keeps, rows_now}
use Rattle.r3_exec.specs.declared.exec.Exec.{Exec}
use Rattle.r3_exec.proofs.Begun.{is_pinned, one_less, removed}

sorted_of : (exec : Exec) (h : List Entry) (begun : Begun) → Keeps exec h begun → T (is_sorted bytes_cmp exec.begun.entries)
sorted_of exec h begun keeps = subst (λ (es : Begun). T (is_sorted bytes_cmp es)) (sym keeps.snapshots) keeps.in_order

-- the snapshot that the map has is the open one
pub found_open : (exec : Exec) (h : List Entry) (begun : Begun) (id : Text) (o : Option ℕ) → Keeps exec h begun
    → o ≡ lookup (is_at (bytes_cmp id)) exec.begun.entries → find bytes_cmp id begun ≡ o
found_open exec h begun id o keeps looked =
    subst (λ (es : Begun). find bytes_cmp id es ≡ o) keeps.snapshots (sym (found_is bytes_cmp id exec.begun.entries) ∙ sym looked)

pub open_pinned : (exec : Exec) (h : List Entry) (begun : Begun) (id : Text) (s : ℕ) → Keeps exec h begun
    → Some s ≡ lookup (is_at (bytes_cmp id)) exec.begun.entries → Contains exec.store.pins s
open_pinned exec h begun id s keeps looked = is_pinned exec.store.pins begun id s keeps.pins (found_open exec h begun id (Some s) keeps looked)

-- it is given back
pub released : (old new : Exec) (h : List Entry) (begun : Begun) (id : Text) (s : ℕ) → Keeps old h begun
    → Some s ≡ lookup (is_at (bytes_cmp id)) old.begun.entries
    → new ≡ record old { store = new.store; begun = new.begun }
    → new.begun.entries ≡ remove_entry (is_at (bytes_cmp id)) old.begun.entries
    → store.Stands new.store h → IsPermutation old.store.pins (s ∷ new.store.pins) → Keeps new h (closed id begun)
released old new h begun id s keeps looked rest entries stands one = record {
  store = stands;
  snapshots = entries ∙ removed id old.begun.entries (sorted_of old h begun keeps) ∙ ap (λ (es : Begun). closed id es) keeps.snapshots;
  in_order = is_sorted-where_key bytes_cmp (λ (i : Text). not (bytes_eq i id)) begun keeps.in_order;
  pins = one_less old.store.pins new.store.pins begun id s keeps.in_order (found_open old h begun id (Some s) keeps looked) one keeps.pins;
  declared = ap (λ (x : Exec). declared_of x.queues) rest ∙ keeps.declared ∙ ap (λ (x : Exec). declared_of (new_lines x.program)) (sym rest);
  queues = subst (λ (x : Exec). queues.IsIndexOf x.queues (rows_now h)) (sym rest) keeps.queues;
  pending = subst (λ (x : Exec). pending.IsIndexOf x.pending (rows_now h)) (sym rest) keeps.pending;
  vacuumed = subst (λ (x : Exec). x.vacuumed ≤ length h) (sym rest) keeps.vacuumed;
}
