-- What an event's entry comes to.
use Rattle.std.specs.Prelude.{◌≡◌, ℕ, ◌+◌, List, [], ◌∷◌, ◌++◌, length, Option, Some, None}
use Rattle.r3_value.specs.declared.value.Outcome.{Outcome}
use Rattle.r3_entry.specs.declared.entry.Act.{Act}
use Rattle.r3_entry.specs.declared.entry.Act.TheVariants as acts
use Rattle.r3_entry.specs.declared.entry.Entry.{Entry}
use Rattle.r3_entry.specs.Limits.{IfThere, IsOutcome}
use Rattle.r3_model.specs.Event.{Event, Reply}
use Rattle.r3_model.specs.Event as reply
use Rattle.r3_model.specs.Fits.{Fits}
use Rattle.r3_model.specs.Given.{Enters}
use Rattle.r3_model.specs.Language.{Language, Text}
use Rattle.r3_model.specs.Machine.{State, Begun, after_act, closed, calls_of, given, snap_of, stepped}
use Rattle.r3_exec.specs.Ends.{limit_of}
use Rattle.r3_exec.specs.Runs.{Runs}
use Rattle.r3_exec.specs.declared.exec.Exec.{Exec}
use Rattle.r3_exec.specs.declared.enter.Entered.{Entered}
use Rattle.r3_exec.specs.declared.enter.Entered.TheVariants.{Number, Full}

-- the event that fits comes to this entry, on all that stands before it, and to this reply once it stands
pub record Gives (P : Language) (st : State) (ev : Event) (answer : Option Outcome) (e : Entry) (r : Reply) : Type 0 where
  pub fits : Fits st.history ev
  pub outcome : IfThere IsOutcome answer
  pub plain : e.snap ≡ length st.history
  pub given_is : given P st.history ev (snap_of st.begun ev) answer ≡ Enters e r

abbrev pub state_after : State → Entry → Entered → State
state_after st e (Number n) = record { history = st.history ++ e ∷ []; begun = after_act e.act st.begun }
state_after st e (Full limit) = st

abbrev pub reply_after : Reply → Entered → Reply
reply_after r (Number n) = r
reply_after r (Full limit) = reply.Full (limit_of limit)

-- the entry has the next number
abbrev pub HasNumber : List Entry → Entered → Type 0
HasNumber h (Number n) = n ≡ length h + 1
HasNumber h (Full limit) = Unit {0}

-- the machine's step, done
pub record HasCome {D : Type 0} (P : Language) (told_size : D → Option ℕ) (told_image : D → Option (List ℕ)) (may_leave : D → List ℕ → Type 0) (desk : D) (exec : Exec) (st : State) (settled : ℕ) (ev : Event) (answer : Option Outcome) (e : Entry) (r : Reply) (end : Entered) : Type 0 where
  pub number : HasNumber st.history end
  pub step : stepped P st ev answer ≡ record { state = state_after st e end; reply = reply_after r end; calls = calls_of P st.history ev answer }
  pub runs : Runs told_size told_image may_leave desk exec (state_after st e end) settled

-- the workflow whose snapshot an act closes
abbrev pub closing : Act → Option Text
closing (acts.Txn id n args) = Some id
closing (acts.Cancel id) = Some id
closing (acts.Recover id) = Some id
closing act = None

abbrev pub after_closing : Option Text → Begun → Begun
after_closing None begun = begun
after_closing (Some id) begun = closed id begun
