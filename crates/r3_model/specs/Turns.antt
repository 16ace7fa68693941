-- What a turn of a workflow comes to.
use Rattle.std.specs.Prelude.{ℕ, ◌+◌, ◌&&◌, Bool, List, [], length, map, find, Option, Some, None, option_map, if◌then◌else◌, nat_lt, bytes_eq, codes}
use Rattle.std.specs.List.{list_any, enumerate_from}
use Rattle.std.specs.Ordering.{eq_by_cmp}
use Rattle.r3_value.specs.declared.value.Val.{Val}
use Rattle.r3_value.specs.declared.value.Val.TheVariants as vals
use Rattle.r3_value.specs.declared.value.Outcome.{Outcome}
use Rattle.r3_value.specs.declared.value.Outcome.TheVariants as outcomes
use Rattle.r3_rows.specs.declared.rows.Key.{Key}
use Rattle.r3_rows.specs.declared.rows.FlowRow.{FlowRow}
use Rattle.r3_entry.specs.declared.entry.Entry.{Entry}
use Rattle.r3_rows.specs.Keys.{key_cmp}
use Rattle.fn_tree.specs.declared.flow.AskKind.{AskKind}
use Rattle.fn_tree.specs.declared.flow.AskKind.TheVariants as asking
use Rattle.fn_tree.specs.declared.flow.FlowEnd.{FlowEnd}
use Rattle.fn_tree.specs.declared.flow.FlowEnd.TheVariants.{Done, Asks, Unexpected}
use Rattle.fn_tree.specs.declared.flow.Request.{Request}
use Rattle.fn_tree.specs.declared.look.TxnRun.{TxnRun}
use Rattle.sys_flow.specs.declared.awaits.Awaited.{Awaited}
use Rattle.sys_flow.specs.declared.awaits.Awaited.TheVariants as awaited
use Rattle.sys_flow.specs.declared.command.Refusal.TheVariants.{UnknownId}
use Rattle.sys_flow.specs.Awaits.{awaited_of}
use Rattle.sys_flow.specs.Children.{child_id}
use Rattle.sys_queue.specs.Rows.{is_pending}
use Rattle.r3_model.specs.Language.{Text, Language}
use Rattle.r3_model.specs.Event.{Refused, Began, Conflicts, Waiting, Again, NotPending, Unexpects}
use Rattle.r3_model.specs.Event as reply
use Rattle.r3_model.specs.Given.{Given, Enters, Answers}
use Rattle.r3_model.specs.Rows.{flow_at, steps_at, answer_of, view_at}
use Rattle.r3_model.specs.Acts.{put_write, finish_entry, txn_entry, outside_entry, await_entry, child_entry, child_write}

-- the least entry past s that wrote such a key
abbrev pub writer_past : List Entry → ℕ → (Key → Bool) → Option ℕ
writer_past h s is_such =
    option_map (λ e. e.0)
    (find (λ e. nat_lt s e.0 && list_any (λ w. is_such w.0) e.1.writes) (enumerate_from 1 h))

-- the keys of which a later writer makes the transaction start again
abbrev pub conflict_keys : TxnRun → Key → Bool
conflict_keys run key = list_any (λ p. eq_by_cmp key_cmp key (put_write p).0) run.writes

abbrev pub text_of : Val → Text
text_of (vals.Text s) = s
text_of v = []

module _ (P : Language) (h : List Entry) (id : Text) where
  abbrev pub now : Text → Option FlowRow
  now = flow_at h (length h)

  -- appended, and answered with its number
  abbrev pub enters : Entry → Given
  enters e = Enters e (reply.Entry (length h + 1))

  -- ---- a transaction takes two turns: one opens its snapshot, and one runs its body there

  abbrev pub run_on : ℕ → Request → TxnRun
  run_on s q = P.txn q.name q.args (view_at h s)

  abbrev pub committed : ℕ → Request → TxnRun → Option ℕ → Given
  committed s q run None = enters (txn_entry h id q s run)
  committed s q run (Some j) = Answers (Conflicts j)

  abbrev pub txn_turn : Option ℕ → Request → Given
  txn_turn None q = Answers (Began (length h))
  txn_turn (Some s) q = committed s q (run_on s q) (writer_past h s (conflict_keys (run_on s q)))

  -- ---- the other asks

  abbrev pub outside_turn : Request → Option Outcome → Given
  outside_turn q None = Answers Again
  outside_turn q (Some o) = enters (outside_entry h id q o)

  -- the child is fresh, or stands there under this function or under another
  abbrev pub child_turn : Request → Text → Option FlowRow → Given
  child_turn q child None =
      enters (child_entry h id q child (outcomes.Value (vals.Text child)) (child_write h id q child))
  child_turn q child (Some row) =
      if bytes_eq row.function q.name then enters (child_entry h id q child (outcomes.Value (vals.Text child)) [])
      else enters (child_entry h id q child (outcomes.Failure (codes "conflict")) [])

  -- an ID that is too long is none, and then the act has the parent's
  abbrev pub child_or_id : Request → Text → Given
  child_or_id q child =
      if nat_lt 200 (length child) then enters (child_entry h id q id (outcomes.Failure (codes "id")) [])
      else child_turn q child (now child)

  abbrev pub await_turn : Request → Text → Awaited → Given
  await_turn q on awaited.Waiting = Answers (Waiting on)
  await_turn q on (awaited.Answer o) = enters (await_entry h id q on o)

  -- ---- the turn

  abbrev pub asked : Option ℕ → Option Outcome → AskKind → Request → Given
  asked snap answer asking.Txn q = txn_turn snap q
  asked snap answer asking.Outside q = outside_turn q answer
  asked snap answer asking.Child q = child_or_id q (child_id id q.n)
  asked snap answer asking.Await q = await_turn q (text_of q.args) (awaited_of (now (text_of q.args)))

  abbrev pub ended : Option ℕ → Option Outcome → FlowRow → FlowEnd → Given
  ended snap answer row (Done o) = enters (finish_entry h id row o)
  ended snap answer row (Asks q) = asked snap answer q.kind q
  ended snap answer row (Unexpected n recorded asks) = Answers (Unexpects n recorded asks)

  -- the workflow's function, run on its recorded steps
  abbrev pub flow_end : FlowRow → FlowEnd
  flow_end row = P.flow row.function row.args (map answer_of (steps_at h (length h) id))

  abbrev pub turned_row : Option ℕ → Option Outcome → Option FlowRow → Given
  turned_row snap answer None = Answers (Refused UnknownId)
  turned_row snap answer (Some row) =
      if is_pending row.status then ended snap answer row (flow_end row) else Answers (NotPending row.status)

  -- What a turn comes to, with its open snapshot and the answer of the outside, should it be asked.
  abbrev pub turned : Option ℕ → Option Outcome → Given
  turned snap answer = turned_row snap answer (now id)

  -- ---- the call that a turn makes

  abbrev pub asks_outside : FlowEnd → Option Request
  asks_outside (Done o) = None
  asks_outside (Asks q) =
      elim q.kind [ asking.Txn ↦ None | asking.Outside ↦ Some q | asking.Child ↦ None | asking.Await ↦ None ]
  asks_outside (Unexpected n recorded asks) = None

  abbrev pub calls_row : Option FlowRow → Option Request
  calls_row None = None
  calls_row (Some row) = if is_pending row.status then asks_outside (flow_end row) else None

  abbrev pub call_of_turn : Option Request
  call_of_turn = calls_row (now id)
