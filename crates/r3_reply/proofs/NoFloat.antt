-- No reply has a float.
use Rattle.std.proofs.Common.{◌≡◌, pos, negsuc, Option, Some, None, false, refl}
use Rattle.serde_json.specs.Data.{string}
use Rattle.serde_json.specs.Written.{has_float, items_have_float}
use Rattle.r3_value.specs.Value.{Value, null, boolean, integer, text, list, Items, no_items, item}
use Rattle.r3_value.specs.View.{value_of}
use Rattle.r3_value.specs.declared.value.Outcome.{Outcome}
use Rattle.r3_value.specs.declared.value.Outcome.TheVariants as outcomes
use Rattle.r3_rows.specs.declared.rows.FlowRow.{FlowRow}
use Rattle.r3_json.specs.Values.{data_of, items_data}
use Rattle.sys_flow.specs.declared.command.Refusal.{Refusal}
use Rattle.sys_flow.specs.declared.command.Refusal.TheVariants as refusals
use Rattle.r3_model.specs.Language.{Text}
use Rattle.r3_model.specs.Event as model
use Rattle.r3_model.specs.Replies.{reply_data, refusal_data, row_data, outcome_data, or_null}

mutual
  of_value : (v : Value) → has_float (data_of v) ≡ false
  of_value null = refl
  of_value (boolean b) = refl
  of_value (integer (pos n)) = refl
  of_value (integer (negsuc n)) = refl
  of_value (text t) = refl
  of_value (list vs) = of_items vs

  of_items : (vs : Items) → items_have_float (items_data vs) ≡ false
  of_items no_items = refl
  of_items (item v vs) = rw (of_value v, of_items vs) refl

of_outcome : (o : Outcome) → has_float (outcome_data o) ≡ false
of_outcome (outcomes.Value v) = rw (of_value (value_of v)) refl
of_outcome (outcomes.Failure word) = refl

of_ended : (o : Option Outcome) → has_float (or_null outcome_data o) ≡ false
of_ended None = refl
of_ended (Some o) = of_outcome o

of_name : (name : Option Text) → has_float (or_null string name) ≡ false
of_name None = refl
of_name (Some name) = refl

of_row : (id : Text) (r : FlowRow) → has_float (row_data id r) ≡ false
of_row id r = rw (of_value (value_of r.args), of_ended r.outcome, of_name r.parent, of_name r.queue) refl

of_refusal : (r : Refusal) → has_float (refusal_data r) ≡ false
of_refusal refusals.UnknownTable = refl
of_refusal refusals.UnknownQueue = refl
of_refusal refusals.UnknownFunction = refl
of_refusal refusals.Arity = refl
of_refusal refusals.Id = refl
of_refusal refusals.UnknownId = refl
of_refusal refusals.Conflict = refl
of_refusal refusals.Step = refl
of_refusal (refusals.Status s) = refl

pub of_reply : (r : model.Reply) → has_float (reply_data r) ≡ false
of_reply (model.Entry k) = refl
of_reply (model.EntryOf k id) = refl
of_reply (model.Full limit) = refl
of_reply (model.Refused refusal) = of_refusal refusal
of_reply (model.Began s) = refl
of_reply (model.Conflicts j) = refl
of_reply (model.Waiting id) = refl
of_reply model.Again = refl
of_reply (model.NotPending s) = refl
of_reply (model.Unexpects n recorded asked) = refl
of_reply model.Empty = refl
of_reply (model.AtLimit r) = refl
of_reply (model.Idle t) = refl
of_reply (model.Spent t) = refl
of_reply (model.Row id r) = of_row id r
of_reply (model.Value v) = rw (of_value (value_of v)) refl
of_reply model.Absent = refl
of_reply model.NotRead = refl
of_reply model.NotForm = refl
of_reply model.Nil = refl
