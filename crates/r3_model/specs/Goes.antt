-- The machine as a relation: from one state to another by events, with their replies and calls.
-- A call tells its own answer.
use Rattle.std.specs.Prelude.{◌≡◌, List, [], ◌∷◌, ◌++◌, Option}
use Rattle.r3_value.specs.declared.value.Outcome.{Outcome}
use Rattle.r3_model.specs.Language.{Language}
use Rattle.r3_model.specs.Event.{Event, Reply, Call}
use Rattle.r3_model.specs.Machine.{State, stepped}

-- One event, for some answer of the outside.
pub record Steps (P : Language) (old : State) (ev : Event) (reply : Reply) (calls : List Call) (new : State) : Type 0 where
  pub answer : Option Outcome
  pub is : stepped P old ev answer ≡ record { state = new; reply = reply; calls = calls }

-- One event after another.
abbrev pub Goes : Language → State → List Event → List Reply → List Call → State → Type 0
Goes P old [] [] calls new = (new ≡ old) × (calls ≡ [])
Goes P old (ev ∷ evs) (r ∷ rs) calls new =
    (mid : State) × (first : List Call) × (later : List Call)
    × Steps P old ev r first mid × (calls ≡ first ++ later) × Goes P mid evs rs later new
Goes P old [] (r ∷ rs) calls new = ⊥
Goes P old (ev ∷ evs) [] calls new = ⊥
