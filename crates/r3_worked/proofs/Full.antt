-- Worked cases of room: the last entry that has it, and the first that hasn't, by their number and by their bytes.
use Rattle.std.proofs.Common.{◌≡◌, ℕ, suc, zero, ◌+◌, ◌*◌, ◌-◌, ◌^◌, List, [], ◌∷◌, ◌++◌, length, length-append, replicate, Option, Some, None, refl, sym, ap, ◌∙◌, arith}
use Rattle.std.proofs.lemmas.List.{length-replicate}
use Rattle.std.specs.Prelude.{if◌then◌else◌, nat_le, nat_lt}
use Rattle.r3_entry.specs.declared.entry.Act.TheVariants as acts
use Rattle.r3_entry.specs.declared.entry.Entry.{Entry}
use Rattle.r3_entry.specs.Bytes.{entry, size, record_sizes}
use Rattle.r3_model.specs.Event.{Limit, Entries, Bytes}
use Rattle.r3_model.specs.Machine.{full_of}
use Rattle.r3_model.specs.Made.{Agrees}
use Rattle.r3_model.proofs.Bank.{bank}
use Rattle.r3_model.proofs.WorkedReplay.{plain}
use Rattle.r3_worked.proofs.Made.{program, load_on}

-- a load of one row has 38 bytes, and 43 with its length and commit byte
a_load_has_38_bytes : (h : List Entry) → length (entry (load_on h)) ≡ 38
a_load_has_38_bytes h = refl

abbrev limit_of : ℕ → ℕ → Option Limit
limit_of n bytes = if nat_le 1000000 n then Some Entries else if nat_lt (2 ^ 30) bytes then Some Bytes else None

by_length : (h : List Entry) (n : ℕ) → length h ≡ n → full_of h (load_on h) ≡ limit_of n (size h + 5 + 38)
by_length h n is = ap (λ k. limit_of k (size h + 5 + 38)) is

by_size : (n bytes b : ℕ) → bytes ≡ b → limit_of n (bytes + 5 + 38) ≡ limit_of n (b + 5 + 38)
by_size n bytes b is = ap (λ k. limit_of n (k + 5 + 38)) is

-- ---- by the number of entries

after_a_million : (h : List Entry) → length h ≡ 1000000 → full_of h (load_on h) ≡ Some Entries
after_a_million h is = by_length h 1000000 is

-- a full history that is short of bytes too is full of entries
before_a_million : (h : List Entry) → length h ≡ 999999 → size h ≡ 2 ^ 30 - 43 → full_of h (load_on h) ≡ None
before_a_million h is bytes = by_length h 999999 is ∙ by_size 999999 (size h) (2 ^ 30 - 43) bytes

-- ---- by its bytes

one_byte_too_many : (h : List Entry) → length h ≡ 999999 → size h ≡ 2 ^ 30 - 42 → full_of h (load_on h) ≡ Some Bytes
one_byte_too_many h is bytes = by_length h 999999 is ∙ by_size 999999 (size h) (2 ^ 30 - 42) bytes

-- ---- such histories, of one entry again and again

abbrev record_size : Entry → ℕ
record_size e = 5 + length (entry e)

sizes_of : (n : ℕ) (e : Entry) (b : ℕ) → record_size e ≡ b → record_sizes (replicate n e) ≡ n * b
sizes_of zero e b is = omega arith
sizes_of (suc n) e b is = omega (arith, sizes_of n e b is, is)

abbrev million : List Entry
million = replicate 1000000 program

a_million_is_full : full_of million (load_on million) ≡ Some Entries
a_million_is_full = after_a_million million (length-replicate 1000000 program)

-- so there a load doesn't agree, for want of room alone
abbrev is_some_limit : Option Limit → ℕ
is_some_limit None = 0
is_some_limit (Some limit) = 1

a_load_past_a_million : Agrees bank million (load_on million) → ⊥
a_load_past_a_million a = let z : 1 ≡ 0 = ap is_some_limit (sym a_million_is_full ∙ a.fits) in absurd (omega (arith, z))

-- a program of n bytes has a record of n + 22
abbrev of_bytes : ℕ → Entry
of_bytes n = plain 0 (acts.Program (replicate n 32)) []

record_of_bytes : (n : ℕ) → record_size (of_bytes n) ≡ n + 22
record_of_bytes n =
    let text : List ℕ = replicate n 32 in
    let zeros : List ℕ = 0 ∷ 0 ∷ 0 ∷ 0 ∷ [] in
    omega (arith, length-append (text ++ zeros ++ zeros) zeros, length-append (text ++ zeros) zeros, length-append text zeros, length-replicate {A = ℕ} n 32)

abbrev programs : ℕ → List Entry
programs n = replicate n (of_bytes 1048576)

sizes_of_programs : (n : ℕ) → size (programs n) ≡ n * 1048598 + 9
sizes_of_programs n = omega (arith, sizes_of n (of_bytes 1048576) 1048598 (record_of_bytes 1048576))

-- 1,072,715,763 bytes, and 1,026,061 are left
room_is_left : full_of (programs 1023) (load_on (programs 1023)) ≡ None
room_is_left =
    by_length (programs 1023) 1023 (length-replicate 1023 (of_bytes 1048576))
    ∙ by_size 1023 (size (programs 1023)) 1072715763 (sizes_of_programs 1023)

-- 1,073,764,361 bytes are more than 2^30
no_bytes_are_left : full_of (programs 1024) (load_on (programs 1024)) ≡ Some Bytes
no_bytes_are_left =
    by_length (programs 1024) 1024 (length-replicate 1024 (of_bytes 1048576))
    ∙ by_size 1024 (size (programs 1024)) 1073764361 (sizes_of_programs 1024)
