-- Which device calls of a fake in memory fail. They are numbered from 1.
use Rattle.std.specs.Prelude.{◌⊎◌, ℕ, ◌+◌, ◌-◌, ◌^◌, min, List, Bool, ◌||◌, nat_lt, IsTrue, Contains}
use Rattle.r3_desk.specs.declared.calls.Room.{Room}

-- the number of the call after so many; the count stands still at the last value of its type
abbrev pub next_number : ℕ → ℕ
next_number made = min (made + 1) (2 ^ 64 - 1)

-- the call after so many is above the number of calls, or with it so many bytes pass the number of bytes
abbrev pub past_room : Room → ℕ → ℕ → Bool
past_room room made bytes = nat_lt room.calls (next_number made) || nat_lt room.bytes bytes

-- the call after so many fails, if it is one on the disk or the output, and with it so many bytes were written and said
abbrev pub Fails : List ℕ → Room → ℕ → ℕ → Type 0
Fails fails room made bytes = Contains fails (next_number made) ⊎ IsTrue (past_room room made bytes)
