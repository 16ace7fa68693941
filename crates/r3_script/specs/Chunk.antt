-- Bytes that were read ahead.
use Rattle.std.specs.Prelude.{◌≡◌, ℕ, List, [], ◌++◌, Result, MatchResult, None, slice_range, option_to_list}
use Rattle.std.specs.declared.option.Option.{Option}
use Rattle.std.specs.Io.KnownBytes.{Consumes}
use Rattle.r3_script.specs.declared.chunk.Chunk.{Chunk}

-- the bytes that were read and not taken yet
abbrev pub unread : Chunk → List ℕ
unread c = slice_range c.bytes.items c.at c.end

-- A byte was taken, or none at the end: those that were unread before, and what the source gave, are this byte and
-- those that are unread now.
pub record Moves (left_before left_now : Option (List ℕ)) (before now : List ℕ) (byte : Option ℕ) : Type 0 where
  pub more : List ℕ
  pub consumed : Consumes left_before left_now more
  pub order : before ++ more ≡ option_to_list byte ++ now
  pub none : byte ≡ None → now ≡ []

-- the same of a call that may fail, and then takes none
abbrev pub Fetched : {E : Type 0} → Option (List ℕ) → Option (List ℕ) → List ℕ → List ℕ → Result (Option ℕ) E → Type 0
Fetched left_before left_now before now result = MatchResult result (λ byte. Moves left_before left_now before now byte) (λ _. Moves left_before left_now before now None)
