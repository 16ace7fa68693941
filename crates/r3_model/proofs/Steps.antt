-- One step of the machine.
use Rattle.std.proofs.Common.{◌≡◌, ◌≤◌, List, [], ◌∷◌, ◌++◌, length, Option, Some, None, refl, sym, append-nil, arith}
use Rattle.r3_value.specs.declared.value.Outcome.{Outcome}
use Rattle.r3_entry.specs.declared.entry.Entry.{Entry}
use Rattle.r3_model.specs.Language.{Language}
use Rattle.r3_model.specs.Event.{Event, Limit, Reply}
use Rattle.r3_model.specs.Given.{Given, Enters, Answers}
use Rattle.r3_model.specs.Machine.{State, step, given, came, entered, full_of, snap_of, first_of}

abbrev Extends : List Entry → List Entry → Type 0
Extends h g = (more : List Entry) × (length more ≤ 1) × (g ≡ h ++ more)

entered-appends : (st : State) (e : Entry) (r : Reply) (limit : Option Limit) → Extends st.history (entered st e r limit).0.history
entered-appends st e r (Some limit) = ([], omega arith, sym (append-nil st.history))
entered-appends st e r None = (e ∷ [], omega arith, refl)

came-appends : (st : State) (ev : Event) (g : Given) → Extends st.history (came st ev g).0.history
came-appends st ev (Enters e r) = entered-appends st e r (full_of st.history e)
came-appends st ev (Answers r) = ([], omega arith, sym (append-nil st.history))

pub step-appends : (P : Language) (st : State) (ev : Event) (answers : List (Option Outcome)) → Extends st.history (step P st ev answers).state.history
step-appends P st ev answers = came-appends st ev (given P st.history ev (snap_of st.begun ev) (first_of answers))
