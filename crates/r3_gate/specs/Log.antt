-- Which bytes a list of payloads is: the magic bytes, each record behind an open commit byte (gate), a closed one,
-- and whatever stands behind it.
use Rattle.std.specs.Prelude.{◌≡◌, ◌≢◌, ◌⊎◌, ℕ, ◌+◌, ◌<◌, ◌≤◌, ◌^◌, List, [], ◌∷◌, ◌++◌, length, take, All}
use Rattle.std.specs.Int.{to_be_bytes, w32}

-- R3STORE1
abbrev pub magic : List ℕ
magic = 82 ∷ 51 ∷ 83 ∷ 84 ∷ 79 ∷ 82 ∷ 69 ∷ 49 ∷ []

-- a record: a payload's length and its bytes
unfoldable pub frame : List ℕ → List ℕ
frame payload = to_be_bytes w32 (length payload) ++ payload

-- an open commit byte before each record
abbrev pub records : List (List ℕ) → List ℕ
records [] = []
records (payload ∷ payloads) = 165 ∷ frame payload ++ records payloads

-- all that stands before the commit byte behind these payloads
abbrev pub front : List (List ℕ) → List ℕ
front payloads = magic ++ records payloads

-- the number of bytes up to that commit byte and with it
abbrev pub size_of : List (List ℕ) → ℕ
size_of [] = 9
size_of (payload ∷ payloads) = 5 + length payload + size_of payloads

abbrev pub IsPayload : List ℕ → Type 0
IsPayload payload = (1 ≤ length payload) × (length payload ≤ 2 ^ 23)

-- these payloads are within the limits of a log
pub record Fits (payloads : List (List ℕ)) : Type 0 where
  pub each : All IsPayload payloads
  pub entries : length payloads ≤ 1000000
  pub bytes : size_of payloads ≤ 2 ^ 30

-- the image is these payloads, a closed commit byte and any bytes
pub record Fronts (image : List ℕ) (payloads : List (List ℕ)) : Type 0 where
  pub gate : ℕ
  pub rest : List ℕ
  pub shut : gate ≢ 165
  pub is : image ≡ front payloads ++ gate ∷ rest

-- the image is accepted, as the log of these payloads
pub record IsLog (image : List ℕ) (payloads : List (List ℕ)) : Type 0 where
  pub fits : Fits payloads
  pub bytes : ((length image ≤ 9) × (payloads ≡ [])) ⊎ Fronts image payloads

-- what stands behind the first commit byte of staged records: those between them are open, the last one is closed
abbrev pub behind : List (List ℕ) → List ℕ → List ℕ
behind [] rest = rest
behind (payload ∷ payloads) rest = frame payload ++ (records payloads ++ 0 ∷ rest)

-- the image has payloads that are published, and behind a closed commit byte payloads that are staged
pub record Staged (image : List ℕ) (published staged : List (List ℕ)) : Type 0 where
  pub gate : ℕ
  pub rest : List ℕ
  pub shut : gate ≢ 165
  pub is : image ≡ front published ++ gate ∷ behind staged rest

-- the image is longer than a header, and begins otherwise
abbrev pub IsForeign : List ℕ → Type 0
IsForeign image = (9 < length image) × (take 8 image ≢ magic)

-- the image has an open commit byte before record number k, and that is the first record that isn't whole
pub record IsDamaged (image : List ℕ) (k : ℕ) : Type 0 where
  pub payloads : List (List ℕ)
  pub after : List ℕ
  pub fits : Fits payloads
  pub long : 9 < length image
  pub number : k ≡ length payloads + 1
  pub is : image ≡ front payloads ++ 165 ∷ after
  pub not_whole : (payload : List ℕ) (gate : ℕ) (rest : List ℕ) → Fits (payloads ++ payload ∷ []) → after ≡ frame payload ++ gate ∷ rest → ⊥
