-- Which workflow a queue starts next.
use Rattle.std.specs.Prelude.{ℕ, ◌+◌, List, [], ◌∷◌, length, filter, find, Option, Some, None, if◌then◌else◌, nat_le, bytes_eq}
use Rattle.r3_entry.specs.declared.entry.Entry.{Entry}
use Rattle.sys_flow.specs.declared.command.Refusal.TheVariants.{UnknownQueue}
use Rattle.sys_queue.specs.Rows.{is_running, is_waiting}
use Rattle.r3_model.specs.Language.{Text, Language, Queue}
use Rattle.r3_model.specs.Event.{Refused, EntryOf, Empty, AtLimit}
use Rattle.r3_model.specs.Given.{Given, Enters, Answers}
use Rattle.r3_model.specs.Rows.{Flow, flows_at, by_start}
use Rattle.r3_model.specs.Acts.{dequeue_entry}

-- the workflows of the queue that run
abbrev pub running : Text → List Flow → List Flow
running queue fs = filter (λ f. is_running queue f.row) fs

-- those that wait, the first enqueued first
abbrev pub waiting : Text → List Flow → List Flow
waiting queue fs = by_start (filter (λ f. is_waiting queue f.row) fs)

pub data Next : Type 0 where
  Ready : Flow → Next
  NoneWaits : Next
  Limited : ℕ → Next

abbrev pub first_of : List Flow → Next
first_of [] = NoneWaits
first_of (f ∷ fs) = Ready f

-- the bound is looked at first
abbrev pub next_of : Queue → List Flow → Next
next_of q fs =
    if nat_le q.bound (length (running q.name fs)) then Limited (length (running q.name fs))
    else first_of (waiting q.name fs)

module _ (h : List Entry) where
  abbrev pub dequeued_next : Next → Given
  dequeued_next (Ready f) = Enters (dequeue_entry h f.id f.row) (EntryOf (length h + 1) f.id)
  dequeued_next NoneWaits = Answers Empty
  dequeued_next (Limited running) = Answers (AtLimit running)

  abbrev pub dequeued_from : Option Queue → Given
  dequeued_from None = Answers (Refused UnknownQueue)
  dequeued_from (Some q) = dequeued_next (next_of q (flows_at h (length h)))

  -- what a dequeue comes to
  abbrev pub dequeued : Language → Text → Given
  dequeued P name = dequeued_from (find (λ q. bytes_eq q.name name) P.queues)
