-- What a desk in memory shows, and how each device call changes it.
use Rattle.std.specs.Prelude.{◌≡◌, ℕ, ◌+◌, ◌-◌, ◌^◌, min, List, [], ◌∷◌, ◌++◌, length, drop, Result, Ok, Err, Some, None, MatchResult, Contains, slice_get, unwrap_or, if◌then◌else◌}
use Rattle.r3_value.specs.declared.value.Val.{Val}
use Rattle.r3_value.specs.declared.value.Val.TheVariants.{Null}
use Rattle.r3_value.specs.declared.value.Outcome.{Outcome}
use Rattle.r3_value.specs.declared.value.Outcome.TheVariants.{Value}
use Rattle.r3_desk.specs.declared.calls.Room.{Room}
use Rattle.r3_desk.specs.declared.desk.AskFault.{AskFault}
use Rattle.r3_desk.specs.declared.desk.AskFault.TheVariants.{Fault, Memory}
use Rattle.r3_desk.specs.Asked.{Call}
use Rattle.r3_desk.specs.Disk.{overwritten}
use Rattle.r3_desk.specs.Fails.{next_number, past_room, Fails as FailsIn}

-- The image, the bytes said, the calls asked, the answers still to be given, the numbers of calls that fail, the
-- room, how many device calls were made and recorded, how many bytes were written, and the three counts of faults.
pub record Contents : Type 0 where
  pub image : List ℕ
  pub said : List ℕ
  pub asked : List Call
  pub answers : List Outcome
  pub fails : List ℕ
  pub room : Room
  pub made : ℕ
  pub recorded : ℕ
  pub written : ℕ
  pub disk_faults : ℕ
  pub say_faults : ℕ
  pub ask_faults : ℕ

-- before the first call
abbrev pub fresh : List ℕ → List Outcome → List ℕ → Room → Contents
fresh image answers fails room = record { image = image; said = []; asked = []; answers = answers; fails = fails; room = room; made = 0; recorded = 0; written = 0; disk_faults = 0; say_faults = 0; ask_faults = 0 }

-- the next call fails, if it is one on the disk or the output that carries n bytes
abbrev pub Fails : Contents → ℕ → Type 0
Fails s n = FailsIn s.fails s.room s.made (s.written + length s.said + n)

-- a count of faults after one more: it stands still at the last value of its type
abbrev pub risen : ℕ → ℕ
risen count = min (count + 1) (2 ^ 64 - 1)

-- after a call on the disk or the output that carried n bytes: it was counted, and recorded if it wasn't past the room
abbrev pub counted : Contents → ℕ → Contents
counted s n = record s { made = next_number s.made; recorded = if past_room s.room s.made (s.written + length s.said + n) then s.recorded else s.recorded + 1 }

-- after a write of these bytes at this offset, and after these bytes were said
abbrev pub wrote : Contents → ℕ → List ℕ → Contents
wrote s at bytes = record (counted s (length bytes)) { image = overwritten s.image at bytes; written = s.written + length bytes }

abbrev pub spoke : Contents → List ℕ → Contents
spoke s bytes = record (counted s (length bytes)) { said = s.said ++ bytes }

-- a call on the disk that carries n bytes and answers this: it fails exactly by the rule, and then only its count rises
abbrev pub DiskCall : {T E : Type 0} → Contents → Contents → ℕ → Contents → Result T E → Type 0
DiskCall old new n done result = MatchResult result
    (λ _. (Fails old n → ⊥) × (new ≡ done))
    (λ _. Fails old n × (new ≡ record (counted old n) { disk_faults = risen old.disk_faults }))

-- the same of a call on the output
abbrev pub SayCall : {T E : Type 0} → Contents → Contents → ℕ → Contents → Result T E → Type 0
SayCall old new n done result = MatchResult result
    (λ _. (Fails old n → ⊥) × (new ≡ done))
    (λ _. Fails old n × (new ≡ record (counted old n) { say_faults = risen old.say_faults }))

-- the answer that comes next
abbrev pub next_answer : Contents → Outcome
next_answer s = unwrap_or (slice_get s.answers 0) (Value Null)

-- after an external call
abbrev pub after_ask : Contents → Call → Contents
after_ask s call = record s { asked = s.asked ++ call ∷ []; made = next_number s.made; recorded = s.recorded + 1 }

-- an external call: it fails exactly where its number says so, answers the answers in order, and without memory nothing happens
abbrev pub AskCall : Contents → Contents → List ℕ → ℕ → List ℕ → Val → Result Outcome AskFault → Type 0
AskCall old new id number name args (Ok outcome) =
    (Contains old.fails (next_number old.made) → ⊥) × (outcome ≡ next_answer old)
    × (new ≡ record (after_ask old (record { id = id; number = number; name = name; args = args; answer = Some outcome })) { answers = drop 1 old.answers })
AskCall old new id number name args (Err Fault) =
    Contains old.fails (next_number old.made)
    × (new ≡ record (after_ask old (record { id = id; number = number; name = name; args = args; answer = None })) { ask_faults = risen old.ask_faults })
AskCall old new id number name args (Err Memory) = new ≡ old
