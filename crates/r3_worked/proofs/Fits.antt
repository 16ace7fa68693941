-- Worked cases of commands and events that fit, and of those that don't.
use Rattle.std.proofs.Common.{◌≡◌, ◌≢◌, ℕ, zero, suc, ◌≤◌, Bool, true, false, List, [], ◌∷◌, replicate, Some, None, refl, ap, arith, lit≤, lit<}
use Rattle.std.specs.Prelude.{codes, All}
use Rattle.std.specs.Str.{is_utf8, chars}
use lib.Utf8.{encode}
use Rattle.r3_value.specs.declared.value.Val.{Val}
use Rattle.r3_value.specs.declared.value.Val.TheVariants.{Null, Text as TextVal}
use Rattle.r3_entry.specs.declared.entry.Entry.{Entry}
use Rattle.r3_entry.specs.Limits.{IsRowKey, IsVal}
use Rattle.sys_flow.specs.declared.command.Command.TheVariants.{Load, Start, Enqueue, Cancel, Resume, Fork, Recover}
use Rattle.r3_model.specs.Language.{Text}
use Rattle.r3_model.specs.Event.{Append, Run, Turn, Dequeue, ShowStatus}
use Rattle.r3_model.specs.Fits.{IsFit, Fits}
use Rattle.r3_model.proofs.Bank.{args1}
use Rattle.r3_model.proofs.WorkedReplay.{int, txt}
use Rattle.r3_worked.proofs.Made.{before}

abbrev Row : Type 0
Row = Text × Val

abbrev a_row : Row
a_row = (codes "a", int 10)

abbrev IsRow : Row → Type 0
IsRow r = IsRowKey r.0 × IsVal r.1

a_row-fits : IsRow a_row
unfolding is_utf8 chars encode
a_row-fits = (record { long = lit≤ tt; short = lit≤ tt; utf8 = refl }, record { proper = omega arith; small = lit≤ tt; shallow = lit≤ tt })

all_alike : (n : ℕ) → All IsRow (replicate n a_row)
all_alike zero k d lt = absurd (omega (arith, lt))
all_alike (suc n) zero d lt = a_row-fits
all_alike (suc n) (suc k) d lt = all_alike n k d (omega (arith, lt))

-- ---- 1 to 1,024 rows

a_load_of_one_row : IsFit (Load (codes "acct") (replicate 1 a_row))
a_load_of_one_row = (lit≤ tt, lit≤ tt, all_alike 1)

a_load_of_1024_rows : IsFit (Load (codes "acct") (replicate 1024 a_row))
a_load_of_1024_rows = (lit≤ tt, lit≤ tt, all_alike 1024)

a_load_of_no_rows : IsFit (Load (codes "acct") []) → ⊥
a_load_of_no_rows f = let z : 1 ≤ 0 = f.0 in absurd (omega (arith, z))

a_load_of_1025_rows : IsFit (Load (codes "acct") (replicate 1025 a_row)) → ⊥
a_load_of_1025_rows f = let z : 1025 ≤ 1024 = f.1 in absurd (omega (arith, z))

-- the machine refuses a table that isn't declared
a_load_of_any_table : IsFit (Load [] (replicate 1 a_row))
a_load_of_any_table = (lit≤ tt, lit≤ tt, all_alike 1)

a_row_without_a_key : IsFit (Load (codes "acct") (a_row ∷ ([], int 1) ∷ [])) → ⊥
a_row_without_a_key f = let key = f.2 1 a_row (lit< tt) in let z : 1 ≤ 0 = key.0.long in absurd (omega (arith, z))

-- a text of 4,092 bytes has 4,097 with its length
a_row_that_is_too_large : IsFit (Load (codes "acct") ((codes "a", TextVal (replicate 4092 97)) ∷ [])) → ⊥
a_row_that_is_too_large f = let row = f.2 0 a_row (lit< tt) in let z : 4097 ≤ 4096 = row.1.small in absurd (omega (arith, z))

-- ---- arguments are a list

a_start : IsFit (Start (Some (codes "m1")) (codes "wait") (args1 (int 1))) × IsFit (Start None (codes "wait") (args1 (int 1)))
unfolding is_utf8 chars encode
a_start = (
  (refl, record { proper = omega arith; small = lit≤ tt; shallow = lit≤ tt }),
  (tt, record { proper = omega arith; small = lit≤ tt; shallow = lit≤ tt }),
)

a_start_whose_args_are_no_list : IsFit (Start None (codes "wait") (txt (codes "a"))) → ⊥
a_start_whose_args_are_no_list f = absurd f.1

an_enqueue_whose_args_are_no_list : IsFit (Enqueue None (codes "mail") (codes "wait") Null) → ⊥
an_enqueue_whose_args_are_no_list f = absurd f.1

abbrev is_yes : Bool → ℕ
is_yes true = 1
is_yes false = 0

-- the byte 255 stands in no text
a_start_whose_id_is_no_text : IsFit (Start (Some (255 ∷ [])) (codes "wait") (args1 (int 1))) → ⊥
unfolding is_utf8 chars encode
a_start_whose_id_is_no_text f = let z : 0 ≡ 1 = ap is_yes f.0 in absurd (omega (arith, z))

-- ---- a fork names any step, and the machine refuses one that isn't recorded

a_fork_of_any_step : IsFit (Fork (codes "m1") 1000 None) × IsFit (Fork (codes "m1") 1001 None)
a_fork_of_any_step = (tt, tt)

a_fork_whose_id_is_no_text : IsFit (Fork (codes "m1") 0 (Some (255 ∷ []))) → ⊥
unfolding is_utf8 chars encode
a_fork_whose_id_is_no_text f = let z : 0 ≡ 1 = ap is_yes f in absurd (omega (arith, z))

-- any text cancels, resumes and recovers
of_any_text : IsFit (Cancel []) × IsFit (Resume []) × IsFit (Recover [])
of_any_text = (tt, tt, tt)

-- ---- events

a_program_first : Fits [] (Append (codes "table acct;"))
unfolding is_utf8 chars encode
a_program_first = (refl, record { long = lit≤ tt; short = lit≤ tt; utf8 = refl })

a_command_first : Fits [] (Run (Cancel (codes "m1"))) → ⊥
a_command_first f = f.0 refl

a_dequeue_first : Fits [] (Dequeue (codes "mail")) → ⊥
a_dequeue_first f = f refl

a_turn_first : Fits [] (Turn (codes "m1")) × Fits [] (ShowStatus (codes "m1"))
a_turn_first = (tt, tt)

abbrev is_some_entry : List Entry → ℕ
is_some_entry [] = 0
is_some_entry (e ∷ es) = 1

a_command_later : Fits before (Run (Cancel (codes "m1"))) × Fits before (Dequeue (codes "mail"))
a_command_later =
    let some : before ≢ [] = λ is. (let z : 1 ≡ 0 = ap is_some_entry is in absurd (omega (arith, z))) in
    ((some, tt), some)

a_program_later : Fits before (Append (codes "table acct;")) → ⊥
a_program_later f = let z : 1 ≡ 0 = ap is_some_entry f.0 in absurd (omega (arith, z))
