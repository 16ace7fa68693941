-- Where a text token ends.
use Rattle.std.specs.Prelude.{ℕ, Bool, not, ◌&&◌, ◌==◌}

-- the byte closes a text token
abbrev pub closes_text : (escaped : Bool) → ℕ → Bool
closes_text escaped b = not escaped && b == 34
