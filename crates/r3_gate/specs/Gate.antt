-- What a contract sees of a log: two lists of payloads, and which images of the disk go with them.
use Rattle.std.specs.Prelude.{◌≡◌, ℕ, ◌≤◌, List, [], ◌++◌, length, Bool, true, false, Some}
use Rattle.std.specs.declared.option.Option.{Option}
use Rattle.r3_desk.specs.Crash.{NothingPending}
use Rattle.r3_gate.specs.Log.{size_of, Fits, Fronts, Staged}
use Rattle.r3_gate.specs.declared.gate.Gate.{Gate}

-- the image as read; a file without a header has no records
abbrev pub Seen : Bool → List (List ℕ) → List (List ℕ) → List ℕ → Type 0
Seen true published staged image = length image ≤ 9
Seen false published staged image = Staged image published staged

-- what a crash may leave: what is staged may be pending, and nothing up to its first commit byte
abbrev pub Left : Bool → List (List ℕ) → List ℕ → Type 0
Left true published image = length image ≤ 9
Left false published image = Fronts image published

-- The log has these payloads: published, and staged behind them.
pub record Tracks {D : Type 0} (told_size : D → Option ℕ) (told_image : D → Option (List ℕ)) (may_leave : D → List ℕ → Type 0) (desk : D) (gate : Gate) (published staged : List (List ℕ)) : Type 0 where
  pub published_end : gate.published ≡ size_of published
  pub end : gate.end ≡ size_of (published ++ staged)
  pub count : gate.count ≡ length (published ++ staged)
  pub fits : Fits (published ++ staged)
  pub fresh : gate.fresh ≡ true → (published ≡ []) × (staged ≡ [])
  pub size : gate.fresh ≡ false → (n : ℕ) → told_size desk ≡ Some n → gate.end ≤ n
  pub seen : (i : List ℕ) → told_image desk ≡ Some i → Seen gate.fresh published staged i
  pub left : (c : List ℕ) → may_leave desk c → Left gate.fresh published c
  -- where nothing is staged, nothing is pending
  pub quiet : staged ≡ [] → NothingPending (told_image desk) (may_leave desk)

-- what the bytes of a file give when it is opened: nothing is staged
pub record Opened (bytes : List ℕ) (gate : Gate) (payloads : List (List ℕ)) : Type 0 where
  pub published_end : gate.published ≡ size_of payloads
  pub end : gate.end ≡ size_of payloads
  pub count : gate.count ≡ length payloads
  pub fits : Fits payloads
  pub fresh : gate.fresh ≡ true → (length bytes ≤ 9) × (payloads ≡ [])
  pub ready : gate.fresh ≡ false → Fronts bytes payloads
