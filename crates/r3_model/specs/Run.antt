-- Runs of the machine over a list of events, from a restart on.
use Rattle.std.specs.Prelude.{List, [], ◌∷◌, ◌++◌, length, map, drop, fold, Option, None}
use Rattle.r3_value.specs.declared.value.Outcome.{Outcome}
use Rattle.r3_entry.specs.declared.entry.Entry.{Entry}
use Rattle.sys_flow.specs.declared.command.Command.TheVariants.{Recover}
use Rattle.r3_model.specs.Language.{Text, Language}
use Rattle.r3_model.specs.Event.{Event, Append, Run, Reply, Nil, Call}
use Rattle.r3_model.specs.Rows.{Flow, pending_at}
use Rattle.r3_model.specs.Bodies.{Body, bodies_of}
use Rattle.r3_model.specs.Machine.{State, Out, step, calls_of, snap_of}
use Rattle.r3_model.specs.Held.{Mark, asks_of}

-- What a run came to: its state, its replies and calls in order, the bodies that it ran, what it promised,
-- and the answers of the outside that are left.
pub record Trail : Type 0 where
  pub state : State
  pub replies : List Reply
  pub last : Reply
  pub calls : List Call
  pub bodies : List Body
  pub marks : List Mark
  pub answers : List (Option Outcome)

abbrev pub from_state : State → List (Option Outcome) → Trail
from_state st answers =
    record { state = st; replies = []; last = Nil; calls = []; bodies = []; marks = []; answers = answers }

abbrev pub empty : State
empty = record { history = []; begun = [] }

-- a restart keeps the history alone
abbrev pub restarted : List Entry → State
restarted h = record { history = h; begun = [] }

abbrev pub then_out : Trail → List Body → Out → Trail
then_out t bodies o = record {
  state = o.state;
  replies = t.replies ++ o.reply ∷ [];
  last = o.reply;
  calls = t.calls ++ o.calls;
  bodies = t.bodies ++ bodies;
  marks = t.marks ++ asks_of t.state o;
  answers = drop (length o.calls) t.answers;
}

-- the IDs of the running workflows, the first started first
abbrev pub pending_ids : State → List Text
pending_ids st = map (λ (f : Flow). f.id) (pending_at st.history (length st.history))

-- The opening: a program is appended to an empty history; else each running workflow is recovered.
abbrev pub opening_events : Text → State → List Event
opening_events text st =
    elim st.history [ [] ↦ Append text ∷ [] | e ∷ es ↦ map (λ id. Run (Recover id)) (pending_ids st) ]

module _ (P : Language) where
  abbrev pub bodies_at : State → Event → List Body
  bodies_at st ev = bodies_of P st.history ev (snap_of st.begun ev)

  -- one more event, with the next answer
  abbrev pub next : Trail → Event → Trail
  next t ev = then_out t (bodies_at t.state ev) (step P t.state ev t.answers)

  -- a list of events
  abbrev pub run : Trail → List Event → Trail
  run t evs = fold next t evs

  -- one more event, where each call is answered by what was called
  abbrev pub next_by : (Call → Option Outcome) → Trail → Event → Trail
  next_by outside t ev =
      then_out t (bodies_at t.state ev)
      (step P t.state ev (map outside (calls_of P t.state.history ev None)))

  abbrev pub run_by : (Call → Option Outcome) → Trail → List Event → Trail
  run_by outside t evs = fold (next_by outside) t evs
