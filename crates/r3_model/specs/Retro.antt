-- Retroaction: what changed functions would have made of a stored history.
use Rattle.std.specs.Prelude.{not, Bool, true, false, List, [], map, drop, filter, filter_map, find, fold, Option, Some, None, option_map, unwrap_or, bytes_eq}
use Rattle.r3_value.specs.declared.value.Outcome.{Outcome}
use Rattle.r3_entry.specs.declared.entry.Act.{Act}
use Rattle.r3_entry.specs.declared.entry.Act.TheVariants as acts
use Rattle.r3_entry.specs.declared.entry.Entry.{Entry}
use Rattle.r3_model.specs.Language.{Text, Language}
use Rattle.r3_model.specs.Event.{Event, Append, Call}
use Rattle.r3_model.specs.Run.{Trail, from_state, empty, next_by, run_by}
use Rattle.r3_model.specs.Drain.{Form, Plain, Paired, drained}
use Rattle.r3_model.specs.Schedule.{schedule, event_of}
use Rattle.r3_model.specs.Verdict.{recorded_answer, unrecorded}

-- which events of the stored history are run
pub data Order : Type 0 where
  -- all of them, as they were scheduled
  Recorded : Order
  -- its requests, one after another
  Serial : Order
  -- its loads, and then the workflows of these IDs, one after another
  Given : List Text → Order

-- canned outcomes, by the name of the outside call
abbrev pub Stubs : Type 0
Stubs = List (Text × Outcome)

abbrev pub stub_for : Stubs → Call → Option Outcome
stub_for stubs c = option_map (λ s. s.1) (find (λ s. bytes_eq s.0 c.name) stubs)

abbrev pub or_else : {X : Type 0} → Option X → Option X → Option X
or_else None o = o
or_else (Some x) o = Some x

-- the record's answer, else the stub's, else a failure
abbrev pub retro_answer : List Entry → Stubs → Call → Option Outcome
retro_answer h stubs c = Some (unwrap_or (or_else (recorded_answer h c) (stub_for stubs c)) unrecorded)

-- ---- the events of an order

-- what came from outside the machine
abbrev pub is_request : Act → Bool
is_request acts.Load = true
is_request (acts.Start id) = true
is_request (acts.Enqueue id) = true
is_request (acts.Cancel id) = true
is_request (acts.Resume id) = true
is_request (acts.Fork id from below) = true
is_request act = false

abbrev pub is_load : Act → Bool
is_load acts.Load = true
is_load act = false

-- makes a workflow that is asked for
abbrev pub is_making : Text → Act → Bool
is_making id (acts.Start i) = bytes_eq i id
is_making id (acts.Enqueue i) = bytes_eq i id
is_making id (acts.Fork i from below) = bytes_eq i id
is_making id act = false

-- the least entry that made the workflow
abbrev pub maker_of : List Entry → Text → Option Entry
maker_of h id = find (λ (e : Entry). is_making id e.act) h

abbrev pub is_append : Event → Bool
is_append (Append text) = true
is_append ev = false

module _ (P : Language) (outside : Call → Option Outcome) where
  abbrev pub go : Trail → Event → Trail
  go = next_by P outside

  abbrev pub drain : Form → Trail → Trail
  drain form t = (drained go P.queues form 100000 t).trail

  -- each event is followed by a drain in which no other event comes between the two turns of a transaction
  abbrev pub one_by_one : Trail → List Event → Trail
  one_by_one t evs = fold (λ (t : Trail) ev. drain Paired (go t ev)) t evs

  abbrev pub ordered : List Entry → Order → Trail → Trail
  ordered h Recorded t = run_by P outside t (filter (λ ev. not (is_append ev)) (drop 1 (schedule h)))
  ordered h Serial t = one_by_one t (map event_of (filter (λ (e : Entry). is_request e.act) h))
  ordered h (Given ids) t =
      one_by_one
      (run_by P outside t (map event_of (filter (λ (e : Entry). is_load e.act) h)))
      (map event_of (filter_map (maker_of h) ids))

-- The machine from empty with the changed functions, on the order's events and a last drain.
abbrev pub retroacted : Language → Text → List Entry → Order → Stubs → Trail
retroacted P text h order stubs =
    let outside = retro_answer h stubs in
    drain P outside Plain (ordered P outside h order (go P outside (from_state empty []) (Append text)))
