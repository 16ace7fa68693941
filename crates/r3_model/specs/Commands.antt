-- What each command comes to, on a history. A program is asked for its tables, queues and workflows alone.
use Rattle.std.specs.Prelude.{ℕ, ◌+◌, ◌==◌, not, Bool, false, List, [], ◌∷◌, length, Option, Some, None, is_none, if◌then◌else◌, nat_lt, bytes_eq}
use Rattle.std.specs.List.{list_any}
use Rattle.r3_value.specs.declared.value.Val.{Val}
use Rattle.r3_value.specs.declared.value.Val.TheVariants as vals
use Rattle.r3_rows.specs.declared.rows.FlowRow.{FlowRow}
use Rattle.r3_rows.specs.declared.rows.Status.{Status}
use Rattle.r3_entry.specs.declared.entry.Entry.{Entry}
use Rattle.r3_bytes.specs.Spelling.{count}
use Rattle.sys_flow.specs.declared.command.Command.{Command}
use Rattle.sys_flow.specs.declared.command.Command.TheVariants.{Load, Start, Enqueue, Cancel, Resume, Fork, Recover}
use Rattle.sys_flow.specs.declared.command.Refusal.{Refusal}
use Rattle.sys_flow.specs.declared.command.Refusal.TheVariants as refusals
use Rattle.sys_flow.specs.Repeats.{repeat_of}
use Rattle.sys_flow.specs.Statuses.{may_cancel, may_resume, recovered}
use Rattle.sys_queue.specs.Rows.{is_pending}
use Rattle.r3_model.specs.Language.{Text, Language, Queue}
use Rattle.r3_model.specs.Event.{EntryOf, Refused}
use Rattle.r3_model.specs.Event as reply
use Rattle.r3_model.specs.Given.{Given, Enters, Answers, unless, once, is_id}
use Rattle.r3_model.specs.Rows.{flow_at, steps_at}
use Rattle.r3_model.specs.Acts.{load_entry, start_entry, enqueue_entry, cancel_entry, resume_entry, fork_entry, recover_entry}
use Rattle.r3_model.specs.Names.{made_id}

abbrev pub args_count : Val → ℕ
args_count (vals.List vs) = count vs
args_count v = 0

abbrev pub has_arity : Option ℕ → Val → Bool
has_arity None args = false
has_arity (Some n) args = n == args_count args

-- the ID that was given, or one that is made of the history's length
abbrev pub id_or_made : List Entry → Option Text → Text
id_or_made h None = made_id (length h)
id_or_made h (Some id) = id

-- a command on a workflow that is there, in a status that allows it
abbrev pub on_flow : (Status → Bool) → (FlowRow → Given) → Option FlowRow → Given
on_flow may go None = Answers (Refused refusals.UnknownId)
on_flow may go (Some row) = if may row.status then go row else Answers (Refused (refusals.Status row.status))

module _ (P : Language) (h : List Entry) where
  abbrev pub now : Text → Option FlowRow
  now = flow_at h (length h)

  abbrev pub next : ℕ
  next = length h + 1

  abbrev pub has_queue : Text → Bool
  has_queue name = list_any (λ (q : Queue). bytes_eq q.name name) P.queues

  abbrev pub loaded : Text → List (Text × Val) → Given
  loaded table rows =
      unless ((not (P.has_table table), refusals.UnknownTable) ∷ []) (Enters (load_entry h table rows) (reply.Entry next))

  -- ---- the refusals of each command, in their order

  abbrev pub start_tests : Text → Text → Val → List (Bool × Refusal)
  start_tests id function args =
      (not (is_id id), refusals.Id)
      ∷ (is_none (P.arity function), refusals.UnknownFunction)
      ∷ (not (has_arity (P.arity function) args), refusals.Arity) ∷ []

  abbrev pub enqueue_tests : Text → Text → Text → Val → List (Bool × Refusal)
  enqueue_tests id queue function args =
      (not (is_id id), refusals.Id)
      ∷ (not (has_queue queue), refusals.UnknownQueue)
      ∷ (is_none (P.arity function), refusals.UnknownFunction)
      ∷ (not (has_arity (P.arity function) args), refusals.Arity) ∷ []

  abbrev pub fork_tests : Text → Text → ℕ → List (Bool × Refusal)
  fork_tests id source below =
      (not (is_id id), refusals.Id) ∷ (nat_lt (length (steps_at h (length h) source)) below, refusals.Step) ∷ []

  abbrev pub started : Text → Text → Val → Given
  started id function args =
      unless (start_tests id function args)
      (once (repeat_of (now id) function) id (Enters (start_entry h id function args) (EntryOf next id)))

  abbrev pub enqueued : Text → Text → Text → Val → Given
  enqueued id queue function args =
      unless (enqueue_tests id queue function args)
      (once (repeat_of (now id) function) id (Enters (enqueue_entry h id queue function args) (EntryOf next id)))

  abbrev pub forked : Text → Text → ℕ → Option FlowRow → Given
  forked id source below None = Answers (Refused refusals.UnknownId)
  forked id source below (Some row) =
      unless (fork_tests id source below)
      (once (repeat_of (now id) row.function) id (Enters (fork_entry h id source row below) (EntryOf next id)))

  -- what a command comes to
  abbrev pub commanded : Command → Given
  commanded (Load table rows) = loaded table rows
  commanded (Start id function args) = started (id_or_made h id) function args
  commanded (Enqueue id queue function args) = enqueued (id_or_made h id) queue function args
  commanded (Cancel id) = on_flow may_cancel (λ row. Enters (cancel_entry h id row) (reply.Entry next)) (now id)
  commanded (Resume id) = on_flow may_resume (λ row. Enters (resume_entry h id row) (reply.Entry next)) (now id)
  commanded (Fork source below to) = forked (id_or_made h to) source below (now source)
  commanded (Recover id) =
      on_flow is_pending
      (λ row. Enters (recover_entry h id row (recovered row.status row.attempts)) (reply.Entry next)) (now id)
