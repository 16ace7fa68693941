-- The rule of queues tells the machine's next workflow.
use Rattle.std.specs.Prelude.{◌≡◌, ℕ, List, map, ⊤}
use Rattle.r3_entry.specs.declared.entry.Entry.{Entry}
use Rattle.sys_queue.specs.Rows.{Rows, Tells}
use Rattle.sys_queue.specs.declared.next.Next as rule
use Rattle.sys_queue.specs.declared.next.Next.TheVariants as tells
use Rattle.r3_model.specs.Language.{Queue}
use Rattle.r3_model.specs.Rows.{Flow, flows_at}
use Rattle.r3_model.specs.Queues.{Next, Ready, NoneWaits, Limited, next_of}

-- the workflows with their rows, in the order of the IDs
abbrev pub rows_of : List Flow → Rows
rows_of fs = map (λ (f : Flow). (f.id, f.row)) fs

-- both say the same
abbrev pub IsSame : Next → rule.Next → Type 0
IsSame (Ready f) (tells.Ready id) = f.id ≡ id.now
IsSame NoneWaits tells.Empty = ⊤
IsSame (Limited n) (tells.Limit m) = n ≡ m
IsSame n m = ⊥

-- what the rule tells of the rows is what the machine does
abbrev pub QueuesTell : Type 0
QueuesTell = (h : List Entry) (k : ℕ) (q : Queue) (n : rule.Next)
    → Tells (rows_of (flows_at h k)) q.name q.bound n → IsSame (next_of q (flows_at h k)) n
