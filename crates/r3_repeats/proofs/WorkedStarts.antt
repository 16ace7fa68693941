-- Worked starts: a first one, the same again, one of another function and one with other arguments. And a history that
-- the program made.
use Rattle.std.proofs.Common.{◌≡◌, [], Some, None, refl, arith}
use Rattle.std.specs.Prelude.{codes, IsTrue}
use Rattle.std.specs.Fmt.{digits}
use Rattle.serde_json.proofs.OnLiterals.{serde_json_on_literals}
use Rattle.r3_value.specs.Value as value
use Rattle.r3_value.specs.declared.value.Val.TheVariants.{Null, List as ListOf}
use Rattle.r3_value.specs.View.{value_of}
use Rattle.sys_flow.specs.declared.command.Command.TheVariants.{Start, Enqueue, Fork}
use Rattle.sys_flow.specs.declared.command.Refusal.TheVariants as refusals
use Rattle.r3_model.specs.Event.{Run, EntryOf, Refused}
use Rattle.r3_model.specs.Event as reply
use Rattle.r3_model.specs.Machine.{step}
use Rattle.r3_model.specs.Run.{from_state, restarted, next}
use Rattle.r3_model.specs.Made.{IsMade}
use Rattle.r3_repeats.specs.Flows.{row_now, is_ended}
use Rattle.r3_repeats.specs.Starting.{is_named}
use Rattle.r3_repeats.proofs.Worked.{tiny, no_args, start, one, two, three, running, ended}

-- a new ID
gone : row_now one (codes "a") ≡ None
unfolding digits serde_json_on_literals tiny
gone = refl

the_first : (step tiny (restarted one) (Run (start (codes "a"))) []).reply ≡ EntryOf 2 (codes "a")
unfolding digits serde_json_on_literals tiny
the_first = refl

its_entry : (step tiny (restarted one) (Run (start (codes "a"))) []).state.history ≡ two
unfolding digits serde_json_on_literals tiny
its_entry = refl

-- the ID is there
there : row_now two (codes "a") ≡ Some running
unfolding digits serde_json_on_literals tiny
there = refl

again : (step tiny (restarted two) (Run (start (codes "a"))) []).reply ≡ EntryOf 2 (codes "a")
unfolding digits serde_json_on_literals tiny
again = refl

of_another_function : (step tiny (restarted two) (Run (Start (Some (codes "a")) (codes "g") no_args)) []).reply ≡ Refused refusals.Conflict
unfolding digits serde_json_on_literals tiny
of_another_function = refl

-- the refusals before stand before the repeat rule
with_an_argument : (step tiny (restarted two) (Run (Start (Some (codes "a")) (codes "f") (ListOf (value.item (value_of Null) value.no_items)))) []).reply ≡ Refused refusals.Arity
unfolding digits serde_json_on_literals tiny
with_an_argument = refl

-- once it has ended it is answered so still
when_ended : (step tiny (restarted three) (Run (start (codes "a"))) []).reply ≡ EntryOf 2 (codes "a")
unfolding digits serde_json_on_literals tiny
when_ended = refl

ended_there : row_now three (codes "a") ≡ Some ended
unfolding digits serde_json_on_literals tiny
ended_there = refl

has_ended : IsTrue (is_ended ended.status)
has_ended = refl

-- a fork to the ID of its own source is a repeat
a_fork : (step tiny (restarted three) (Run (Fork (codes "a") 0 (Some (codes "a")))) []).reply ≡ EntryOf 2 (codes "a")
unfolding digits serde_json_on_literals tiny
a_fork = refl

-- what a queue would start is refused first, since no queue is declared
an_enqueue : (step tiny (restarted two) (Run (Enqueue (Some (codes "a")) (codes "q") (codes "f") no_args)) []).reply ≡ Refused refusals.UnknownQueue
unfolding digits serde_json_on_literals tiny
an_enqueue = refl

named : IsTrue (is_named (start (codes "a")))
named = refl

-- accepted, and accepted again behind other events
accepted : (next tiny (from_state (restarted one) []) (Run (start (codes "a")))).last ≡ EntryOf 2 (codes "a")
unfolding digits serde_json_on_literals tiny
accepted = refl

-- the program made the history
made : IsMade tiny three
unfolding digits serde_json_on_literals tiny
made = (
  record { reply = reply.Entry 1; gives = refl; fits = refl; program = refl; below = omega arith; own = tt },
  (
    record { reply = EntryOf 2 (codes "a"); gives = refl; fits = refl; program = refl; below = omega arith; own = refl },
    (record { reply = reply.Entry 3; gives = refl; fits = refl; program = refl; below = omega arith; own = refl }, tt),
  ),
)
