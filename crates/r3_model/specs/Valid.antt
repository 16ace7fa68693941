-- Which states are valid.
use Rattle.std.specs.Prelude.{◌≡◌, ◌≢◌, ℕ, ◌≤◌, IsTrue, List, [], length, map, Some, None}
use Rattle.std.specs.FinMap.Entries.{find, is_sorted}
use Rattle.r3_rows.specs.Keys.{bytes_cmp}
use Rattle.r3_rows.specs.declared.rows.FlowRow.{FlowRow}
use Rattle.r3_rows.specs.declared.rows.Status.TheVariants as status
use Rattle.r3_entry.specs.declared.entry.Entry.{Entry}
use Rattle.r3_entry.specs.Formed.{IsFormed}
use Rattle.fn_tree.specs.declared.flow.AskKind.TheVariants as asking
use Rattle.fn_tree.specs.declared.flow.FlowEnd.TheVariants.{Asks}
use Rattle.fn_tree.specs.declared.flow.Request.{Request}
use Rattle.r3_model.specs.Language.{Text, Language}
use Rattle.r3_model.specs.Rows.{flow_at, steps_at, answer_of}
use Rattle.r3_model.specs.Turns.{writer_past}
use Rattle.r3_model.specs.Machine.{State}
use Rattle.r3_model.specs.Made.{is_own}

-- on its snapshot the workflow was running and asked for a transaction, and its rows are as they were
pub record IsOpen (P : Language) (h : List Entry) (id : Text) (s : ℕ) : Type 0 where
  pub past : s ≤ length h
  pub row : FlowRow
  pub there : flow_at h s id ≡ Some row
  pub pending : row.status ≡ status.Pending
  pub request : Request
  pub asks : P.flow row.function row.args (map answer_of (steps_at h s id)) ≡ Asks request
  pub kind : request.kind ≡ asking.Txn
  pub own : writer_past h s (is_own id) ≡ None

-- each snapshot that is open is one of a workflow that waits for its transaction
pub record AreOpen (P : Language) (st : State) : Type 0 where
  pub sorted : IsTrue (is_sorted bytes_cmp st.begun)
  pub each : (id : Text) (s : ℕ) → find bytes_cmp id st.begun ≡ Some s → IsOpen P st.history id s

pub record IsValid (P : Language) (st : State) : Type 0 where
  pub formed : IsFormed st.history
  pub begins : st.history ≢ []
  pub snapshots : AreOpen P st
