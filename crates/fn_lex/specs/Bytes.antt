-- Classes of bytes.
use Rattle.std.specs.Prelude.{ℕ, ◌==◌, ◌||◌, ◌&&◌, Bool, not, List, slice_index_or, nat_lt, nat_le}

-- space, tab, carriage return and newline
abbrev pub is_blank : ℕ → Bool
is_blank b = (b == 32 || b == 9) || (b == 13 || b == 10)

abbrev pub is_lower : ℕ → Bool
is_lower b = nat_le 97 b && nat_le b 122

abbrev pub is_digit : ℕ → Bool
is_digit b = nat_le 48 b && nat_le b 57

-- lower-case letters, digits and `_`
abbrev pub is_name_byte : ℕ → Bool
is_name_byte b = (is_lower b || is_digit b) || b == 95

-- what stands for itself in a text: 0x20 to 0x7e but `"` and `\`
abbrev pub is_plain : ℕ → Bool
is_plain b = ((nat_le 32 b && nat_le b 126) && not (b == 34)) && not (b == 92)

-- what may follow a `\` in a text: `"`, `\` and `n`
abbrev pub is_escape : ℕ → Bool
is_escape b = (b == 34 || b == 92) || b == 110

-- what a comment may hold
abbrev pub is_comment_byte : ℕ → Bool
is_comment_byte b = not (b == 10) && nat_lt b 128

-- the byte at a place, or a newline past the end
abbrev pub byte_or : List ℕ → ℕ → ℕ
byte_or bytes n = slice_index_or bytes n 10
