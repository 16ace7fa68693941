-- Worked cases of a full history: what its events leave, where the program's text takes all bytes.
use Rattle.std.proofs.Common.{◌≡◌, ℕ, ◌+◌, ◌^◌, List, [], ◌∷◌, ◌++◌, length, length-append, replicate, Option, Some, None, refl, ap, arith}
use Rattle.std.proofs.lemmas.List.{length-replicate}
use Rattle.std.specs.Prelude.{codes, if◌then◌else◌, nat_le, nat_lt}
use Rattle.r3_value.specs.declared.value.Val.TheVariants.{Null}
use Rattle.r3_value.specs.declared.value.Outcome.{Outcome}
use Rattle.r3_value.specs.declared.value.Outcome.TheVariants as outcomes
use Rattle.r3_entry.specs.declared.entry.Act.TheVariants as acts
use Rattle.r3_entry.specs.declared.entry.Entry.{Entry}
use Rattle.r3_entry.specs.Bytes.{entry, size, record_sizes}
use Rattle.r3_model.specs.Event.{Event, Turn, Limit, Entries, Bytes, Reply, Full, Entry as EntryReply, Began, Call}
use Rattle.r3_model.specs.Given.{Enters}
use Rattle.r3_model.specs.Rows.{step_at}
use Rattle.r3_model.specs.Bodies.{bodies_of}
use Rattle.r3_model.specs.Machine.{State, Begun, Out, full_of, entered, came, stepped}
use Rattle.r3_model.proofs.Bank.{bank, args2}
use Rattle.r3_model.proofs.WorkedReplay.{int, txt, m1, plain}
use Rattle.r3_worked.proofs.Made.{loaded, started, paid, told}

-- ---- an entry that has no room leaves the state as it was, with its open snapshots

an_entry_without_room : (st : State) (ev : Event) (e : Entry) (r : Reply) (limit : Limit) → full_of st.history e ≡ Some limit → came st ev (Enters e r) ≡ (st, Full limit)
an_entry_without_room st ev e r limit is = ap (entered st e r) is

past_a_million : (st : State) (ev : Event) (e : Entry) (r : Reply) → length st.history ≡ 1000000 → came st ev (Enters e r) ≡ (st, Full Entries)
past_a_million st ev e r is =
    an_entry_without_room st ev e r Entries (ap (λ n. if nat_le 1000000 n then Some Entries else if nat_lt (2 ^ 30) (size st.history + 5 + length (entry e)) then Some Bytes else None) is)

-- ---- a transfer under a program of so many bytes

abbrev program_of : List ℕ → Entry
program_of text = plain 0 (acts.Program text) []

abbrev under : List ℕ → List Entry
under text = program_of text ∷ loaded ∷ started ∷ []

abbrev record_size : Entry → ℕ
record_size e = 5 + length (entry e)

size_of_program : (text : List ℕ) → record_size (program_of text) ≡ length text + 22
size_of_program text =
    let zeros : List ℕ = 0 ∷ 0 ∷ 0 ∷ 0 ∷ [] in
    omega (arith, length-append (text ++ zeros ++ zeros) zeros, length-append (text ++ zeros) zeros, length-append text zeros)

abbrev limit_of : ℕ → ℕ → Option Limit
limit_of n bytes = if nat_le 1000000 n then Some Entries else if nat_lt (2 ^ 30) bytes then Some Bytes else None

-- with a text of 2^30 bytes: what is left is told by the other records and the entry alone
no_room : (text : List ℕ) (more : List Entry) (e : Entry) (n m : ℕ) → length text ≡ 2 ^ 30 → record_sizes (loaded ∷ started ∷ more) ≡ n → length (entry e) ≡ m
    → full_of (under text ++ more) e ≡ limit_of (length (under text ++ more)) (2 ^ 30 + 31 + n + 5 + m)
no_room text more e n m is sizes last =
    let bytes : size (under text ++ more) + 5 + length (entry e) ≡ 2 ^ 30 + 31 + n + 5 + m =
    omega (arith, size_of_program text, is, sizes, last) in
    ap (limit_of (length (under text ++ more))) bytes

abbrev state_of : List Entry → Begun → State
state_of h begun = record { history = h; begun = begun }

abbrev out_by : State → Entry → Reply → List Call → Option Limit → Out
out_by st e r calls limit = record { state = (entered st e r limit).0; reply = (entered st e r limit).1; calls = calls }

-- a turn that would commit is answered so, and its snapshot stays open
a_commit_without_room : (text : List ℕ) → length text ≡ 2 ^ 30
    → stepped bank (state_of (under text) ((m1, 3) ∷ [])) (Turn m1) None ≡ record { state = state_of (under text) ((m1, 3) ∷ []); reply = Full Bytes; calls = [] }
a_commit_without_room text is =
    ap (out_by (state_of (under text) ((m1, 3) ∷ [])) (paid 3 3) (EntryReply 4) []) (no_room text [] (paid 3 3) (record_sizes (loaded ∷ started ∷ [])) (length (entry (paid 3 3))) is refl refl)

-- but its body was run
a_body_without_room : (text : List ℕ) → length (bodies_of bank (under text) (Turn m1) (Some 3)) ≡ 1
a_body_without_room text = refl

-- a turn that begins needs no room
a_turn_begins : (text : List ℕ) → stepped bank (state_of (under text) []) (Turn m1) None ≡ record { state = state_of (under text) ((m1, 3) ∷ []); reply = Began 3; calls = [] }
a_turn_begins text = refl

-- ---- a call of the outside: it is made and told, and its answer isn't recorded

abbrev null : Option Outcome
null = Some (outcomes.Value Null)

abbrev call : Call
call = record { id = m1; n = 1; name = codes "notify"; args = args2 (txt (codes "b")) (int 3); answer = null }

abbrev has_paid : List ℕ → State
has_paid text = state_of (under text ++ paid 3 3 ∷ []) []

a_call_without_room : (text : List ℕ) → length text ≡ 2 ^ 30
    → stepped bank (has_paid text) (Turn m1) null ≡ record { state = has_paid text; reply = Full Bytes; calls = call ∷ [] }
a_call_without_room text is =
    ap (out_by (has_paid text) told (EntryReply 5) (call ∷ [])) (no_room text (paid 3 3 ∷ []) told (record_sizes (loaded ∷ started ∷ paid 3 3 ∷ [])) (length (entry told)) is refl refl)

a_step_that_is_not_recorded : (text : List ℕ) → step_at (has_paid text).history 4 m1 1 ≡ None
a_step_that_is_not_recorded text = refl

-- there is such a text
blanks : length {A = ℕ} (replicate (2 ^ 30) 32) ≡ 2 ^ 30
blanks = length-replicate {A = ℕ} (2 ^ 30) 32
