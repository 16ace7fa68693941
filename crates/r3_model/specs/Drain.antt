-- Drains: rounds of dequeues and turns, until a round changes nothing or the turns are spent.
use Rattle.std.specs.Prelude.{ℕ, suc, zero, ◌+◌, ◌-◌, ◌||◌, Bool, true, false, List, map, fold}
use Rattle.r3_model.specs.Language.{Text, Queue}
use Rattle.r3_model.specs.Event.{Event, Turn, Dequeue, Reply, Entry as EntryReply, EntryOf, Began, Conflicts, Idle, Spent}
use Rattle.r3_model.specs.Run.{Trail, pending_ids}

-- whether the dequeue or turn that gave this reply changed something
abbrev pub changes : Reply → Bool
changes (EntryReply k) = true
changes (EntryOf k id) = true
changes (Began s) = true
changes (Conflicts j) = true
changes r = false

abbrev pub is_began : Reply → Bool
is_began (Began s) = true
is_began r = false

-- In the paired form no other event comes between the two turns of a transaction.
pub data Form : Type 0 where
  Plain : Form
  Paired : Form

-- a round so far: the turns that are left, whether something changed, and whether the turns ran out
pub record Round : Type 0 where
  pub trail : Trail
  pub left : ℕ
  pub changed : Bool
  pub cut : Bool

pub record Drained : Type 0 where
  pub trail : Trail
  pub reply : Reply

-- A drain, by how one event is done.
module _ (go : Trail → Event → Trail) (queues : List Queue) where
  -- one more dequeue or turn, where one is left
  abbrev pub spend_of : ℕ → Round → Event → Round
  spend_of zero r ev = record { trail = r.trail; left = 0; changed = r.changed; cut = true }
  spend_of (suc left) r ev =
      let t = go r.trail ev in
      record { trail = t; left = left; changed = r.changed || changes t.last; cut = r.cut }

  abbrev pub spend : Round → Event → Round
  spend r ev = spend_of r.left r ev

  -- in the paired form a turn that began is followed by a second one
  abbrev pub second_turn : Text → Round → Round
  second_turn id r = elim (is_began r.trail.last) [ true ↦ spend r (Turn id) | false ↦ r ]

  abbrev pub give_turn : Form → Round → Text → Round
  give_turn Plain r id = spend r (Turn id)
  give_turn Paired r id = second_turn id (spend r (Turn id))

  -- a dequeue of each queue, and then a turn of each workflow that runs after them
  abbrev pub queues_tried : Round → Round
  queues_tried r = fold spend r (map (λ (q : Queue). Dequeue q.name) queues)

  abbrev pub turns_given : Form → Round → Round
  turns_given form r = fold (give_turn form) r (pending_ids r.trail.state)

  abbrev pub round : Form → ℕ → Trail → Round
  round form left t = turns_given form (queues_tried (record { trail = t; left = left; changed = false; cut = false }))

  -- of n turns, so many are left
  abbrev pub rounds : Form → ℕ → ℕ → ℕ → Trail → Drained
  rounds form n zero left t = record { trail = t; reply = Spent n }
  rounds form n (suc more) left t =
      let r = round form left t in
      let later = rounds form n more r.left r.trail in
      elim r.cut [
        | true ↦ record { trail = r.trail; reply = Spent n }
        | false ↦ elim r.changed [
          -- idle after a whole round that changed nothing
          | false ↦ record { trail = r.trail; reply = Idle (n - r.left) }
          | true ↦ elim r.left [ zero ↦ record { trail = r.trail; reply = Spent n } | suc left ↦ later ]
        ]
      ]

  -- a drain of n turns: each round but the last takes one at least
  abbrev pub drained : Form → ℕ → Trail → Drained
  drained form n t = rounds form n (n + 1) n t
