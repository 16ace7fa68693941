-- What one event does on a desk.
use Rattle.std.specs.Prelude.{◌≡◌, ◌⊎◌, ℕ, ◌+◌, ◌*◌, ◌≤◌, List, [], ◌∷◌, ◌++◌, length, map, take, Option}
use Rattle.std.specs.Option.{option_map}
use Rattle.r3_value.specs.declared.value.Outcome.{Outcome}
use Rattle.r3_entry.specs.declared.entry.Entry.{Entry}
use Rattle.r3_entry.specs.Image.{IsHistoryOf}
use Rattle.r3_desk.specs.Asked as desk
use Rattle.r3_desk.specs.Disk.{told_len}
use Rattle.r3_desk.specs.Crash.{Reach, LeavesOnly}
use Rattle.r3_model.specs.Language.{Language}
use Rattle.r3_model.specs.Event.{Event, Reply, Call}
use Rattle.r3_model.specs.Machine.{State, calls_of}
use Rattle.r3_model.specs.Goes.{Steps}
use Rattle.r3_exec.specs.Runs.{Runs, language}
use Rattle.r3_exec.specs.declared.exec.Exec.{Exec}

-- a call of the machine, as a desk tells it
abbrev pub told_of : Call → desk.Call
told_of c = record { id = c.id; number = c.n; name = c.name; args = c.args; answer = c.answer }

-- the calls that a desk tells after these
abbrev pub told_after : Option (List desk.Call) → List Call → Option (List desk.Call)
told_after told calls = option_map (λ (k : List desk.Call). k ++ map told_of calls) told

-- all is settled before a call is asked, and nothing else is
abbrev pub settled_by : ℕ → State → List Call → ℕ
settled_by settled st [] = settled
settled_by settled st (c ∷ cs) = length st.history

-- at most so many syncs more
abbrev pub SyncsWithin : Option ℕ → Option ℕ → ℕ → Type 0
SyncsWithin before after most = (n : ℕ) × (n ≤ most) × (after ≡ option_map (λ syncs. syncs + n) before)

-- The event was done as the machine does it, with the answers that the desk gave.
pub record Does {D : Type 0} (told_size : D → Option ℕ) (told_image : D → Option (List ℕ)) (may_leave : D → List ℕ → Type 0) (asked : D → Option (List desk.Call)) (syncs : D → Option ℕ) (old new : D) (exec : Exec) (st : State) (settled : ℕ) (ev : Event) (reply : Reply) : Type 0 where
  pub calls : List Call
  pub after : State
  pub steps : Steps (language exec) st ev reply calls after
  pub told : asked new ≡ told_after (asked old) calls
  pub runs : Runs told_size told_image may_leave new exec after (settled_by settled st calls)
  -- a call costs two syncs at most, and nothing else costs any
  pub few_syncs : SyncsWithin (syncs old) (syncs new) (2 * length calls)

-- The event ended early: of its call, with some answer, at most the asking was done.
abbrev pub AskedFirst : Language → State → Event → Option (List desk.Call) → Option (List desk.Call) → Type 0
AskedFirst P st ev before after =
    (answer : Option Outcome) × (made : ℕ) × (after ≡ told_after before (take made (calls_of P st.history ev answer)))

-- What a crash leaves: what was settled before, or all that stood before the event, and that for sure once its call is asked.
abbrev pub IsLeft : Option (List desk.Call) → Option (List desk.Call) → List Entry → ℕ → List ℕ → ℕ → Type 0
IsLeft before after h settled image m =
    (told_len before ≤ m) × (m ≤ told_len after)
    × (IsHistoryOf h image ⊎ (IsHistoryOf (take settled h) image × (m ≡ told_len before)))

-- at any moment of the event, at which nothing is said
abbrev pub Leaves : {D : Type 0} → (D → ℕ) → (D → Reach) → (D → Option (List ℕ)) → (D → Option (List desk.Call)) → D → D → List Entry → ℕ → Type 0
Leaves moment reach said asked old new h settled =
    LeavesOnly moment reach old new (λ image n m. (n ≡ told_len (said old)) × IsLeft (asked old) (asked new) h settled image m)

-- what a read gives after it
abbrev pub IsRead : List Entry → ℕ → List ℕ → Type 0
IsRead h settled image = IsHistoryOf h image ⊎ IsHistoryOf (take settled h) image
