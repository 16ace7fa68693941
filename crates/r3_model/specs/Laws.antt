-- What holds of each step, run and drain.
use Rattle.std.specs.Prelude.{◌≡◌, ℕ, ◌≤◌, List, ◌++◌, length, Option, ⊤}
use Rattle.std.specs.List.{AllByRecursion}
use Rattle.r3_value.specs.declared.value.Outcome.{Outcome}
use Rattle.r3_entry.specs.declared.entry.Entry.{Entry}
use Rattle.r3_model.specs.Language.{Language}
use Rattle.r3_model.specs.Event.{Event, Turn, Dequeue, Reply, Call}
use Rattle.r3_model.specs.Machine.{State, step}
use Rattle.r3_model.specs.Run.{Trail, next, run}
use Rattle.r3_model.specs.Drain.{Form, drained}
use Rattle.r3_model.specs.Goes.{Goes}

-- whatever happens, what stood in the history stays, and at most one entry comes behind it
abbrev pub OnlyAppends : Type 0
OnlyAppends = (P : Language) (st : State) (ev : Event) (answers : List (Option Outcome))
    → (more : List Entry) × (length more ≤ 1) × ((step P st ev answers).state.history ≡ st.history ++ more)

-- a run over two lists is one run after the other
abbrev pub RunsInParts : Type 0
RunsInParts = (P : Language) (t : Trail) (evs more : List Event) → run P t (evs ++ more) ≡ run P (run P t evs) more

-- the same of the relation, with the replies and calls of both
abbrev pub GoesInParts : Type 0
GoesInParts = (P : Language) (old mid new : State) (evs more : List Event) (rs rs' : List Reply) (ks ks' : List Call)
    → Goes P old evs rs ks mid → Goes P mid more rs' ks' new → Goes P old (evs ++ more) (rs ++ rs') (ks ++ ks') new

abbrev pub IsOfDrain : Event → Type 0
IsOfDrain (Turn id) = ⊤
IsOfDrain (Dequeue queue) = ⊤
IsOfDrain ev = ⊥

-- A drain is a run of dequeues and turns, at most as many as it was given.
abbrev pub DrainsByTurns : Type 0
DrainsByTurns = (P : Language) (form : Form) (n : ℕ) (t : Trail)
    → (evs : List Event) × AllByRecursion IsOfDrain evs × (length evs ≤ n)
    × ((drained (next P) P.queues form n t).trail ≡ run P t evs)
