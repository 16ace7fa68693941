-- Keys and bounds, which are texts of limited length.
use Rattle.std.specs.Prelude.{◌≡◌, ℕ, Bool, List, codes, Option, Some, None, Result, Ok, Err, if◌then◌else◌}
use Rattle.fn_walk.specs.declared.broken.Break.{Break}
use Rattle.fn_walk.specs.declared.broken.Break.TheVariants as broken

-- the text that passes the test, or the word of the failure
abbrev pub text_or_word : (List ℕ → Bool) → Option (List ℕ) → Result (List ℕ) (List ℕ)
text_or_word fits None = Err (codes "type")
text_or_word fits (Some t) = if fits t then Ok t else Err (codes "size")

-- a call answered so
abbrev pub IsTextOrWord : Result (List ℕ) Break → Result (List ℕ) (List ℕ) → Type 0
IsTextOrWord (Ok t) r = r ≡ Ok t
IsTextOrWord (Err (broken.Failed word)) r = r ≡ Err word
IsTextOrWord (Err broken.Memory) r = Unit {0}
IsTextOrWord (Err (broken.Returned v)) r = ⊥
IsTextOrWord (Err (broken.Asks q)) r = ⊥
IsTextOrWord (Err broken.Stuck) r = ⊥
