-- The transaction bodies that events run. Retroaction counts them, and tells which of them it may copy.
use Rattle.std.specs.Prelude.{ℕ, List, [], ◌∷◌, length, Option, Some, None, if◌then◌else◌}
use Rattle.r3_rows.specs.declared.rows.FlowRow.{FlowRow}
use Rattle.r3_entry.specs.declared.entry.Entry.{Entry}
use Rattle.fn_tree.specs.declared.flow.AskKind.TheVariants as asking
use Rattle.fn_tree.specs.declared.flow.FlowEnd.{FlowEnd}
use Rattle.fn_tree.specs.declared.flow.FlowEnd.TheVariants.{Done, Asks, Unexpected}
use Rattle.fn_tree.specs.declared.flow.Request.{Request}
use Rattle.sys_queue.specs.Rows.{is_pending}
use Rattle.r3_model.specs.Language.{Text, Language}
use Rattle.r3_model.specs.Event.{Event, Turn}
use Rattle.r3_model.specs.Rows.{flow_at}
use Rattle.r3_model.specs.Turns.{flow_end}

-- a transaction's body that was run: for which step of which workflow, on which snapshot of which history
pub record Body : Type 0 where
  pub history : List Entry
  pub id : Text
  pub request : Request
  pub snap : ℕ

module _ (P : Language) (h : List Entry) (id : Text) where
  abbrev pub body_with : ℕ → FlowEnd → List Body
  body_with s (Done o) = []
  body_with s (Asks q) =
      elim q.kind [
        | asking.Txn ↦ record { history = h; id = id; request = q; snap = s } ∷ []
        | asking.Outside ↦ []
        | asking.Child ↦ []
        | asking.Await ↦ []
      ]
  body_with s (Unexpected n recorded asks) = []

  abbrev pub bodies_row : Option FlowRow → Option ℕ → List Body
  bodies_row None snap = []
  bodies_row (Some row) None = []
  bodies_row (Some row) (Some s) = if is_pending row.status then body_with s (flow_end P h id row) else []

-- the bodies that an event runs, one at most: a turn's whose transaction has an open snapshot
abbrev pub bodies_of : Language → List Entry → Event → Option ℕ → List Body
bodies_of P h (Turn id) snap = bodies_row P h id (flow_at h (length h) id) snap
bodies_of P h ev snap = []
