-- Worked cases of made histories: one whose entries all agree, and for each field of the relation an entry that breaks it alone.
use Rattle.std.proofs.Common.{◌≡◌, ℕ, ◌+◌, ◌≤◌, Bool, true, false, List, [], ◌∷◌, ◌++◌, length, Option, Some, None, refl, ap, pos, arith}
use Rattle.std.specs.Prelude.{codes}
use Rattle.r3_value.specs.declared.value.Val.TheVariants.{Null, Int}
use Rattle.r3_value.specs.declared.value.Outcome.{Outcome}
use Rattle.r3_value.specs.declared.value.Outcome.TheVariants as outcomes
use Rattle.r3_rows.specs.declared.rows.Read.TheVariants.{At}
use Rattle.r3_rows.specs.declared.rows.StepKind.TheVariants as kinds
use Rattle.r3_rows.specs.declared.rows.StepRow.{StepRow}
use Rattle.r3_rows.specs.declared.rows.Status.TheVariants.{Pending, Success, Cancelled}
use Rattle.r3_entry.specs.declared.entry.Act.TheVariants as acts
use Rattle.r3_entry.specs.declared.entry.Entry.{Entry}
use Rattle.r3_model.specs.Event.{Reply, Entry as EntryReply, EntryOf}
use Rattle.r3_model.specs.Given.{Given, Enters, Answers}
use Rattle.r3_entry.specs.Formed.{is_program, is_first}
use Rattle.r3_model.specs.Machine.{given, full_of}
use Rattle.r3_model.specs.Made.{Agrees, IsMade, AreOwnUnwritten, id_of, recorded}
use Rattle.r3_model.specs.Schedule.{event_of, step_written}
use Rattle.r3_model.proofs.Bank.{bank, args2}
use Rattle.r3_model.proofs.WorkedReplay.{int, txt, m1, plain, flow, row, step_row, args_m1}

abbrev pub program : Entry
program = plain 0 (acts.Program (codes "bank")) []

abbrev pub loaded : Entry
loaded = plain 1 acts.Load (row (codes "a") (pos 10) ∷ row (codes "b") (pos 5) ∷ [])

abbrev pub started : Entry
started = plain 2 (acts.Start m1) (flow m1 (codes "move") args_m1 Pending 3 None ∷ [])

-- the transaction on this snapshot, with this value as its outcome
abbrev pub paid : ℕ → ℕ → Entry
paid snap n = record {
  act = acts.Txn m1 0 args_m1;
  snap = snap;
  reads = At (codes "acct") (codes "a") 2 ∷ At (codes "acct") (codes "b") 2 ∷ [];
  writes = row (codes "a") (pos 7) ∷ row (codes "b") (pos 8) ∷ step_row m1 0 (codes "pay") kinds.Txn (int n) ∷ [];
}

abbrev pub told : Entry
told = plain 4 (acts.Outside m1 1 (args2 (txt (codes "b")) (int 3))) (step_row m1 1 (codes "notify") kinds.Outside Null ∷ [])

abbrev pub ended : Entry
ended = plain 5 (acts.Finish m1) (flow m1 (codes "move") args_m1 Success 3 (Some (outcomes.Value (int 3))) ∷ [])

abbrev pub before : List Entry
before = program ∷ loaded ∷ started ∷ []

-- ---- each entry agrees

made : IsMade bank (program ∷ loaded ∷ started ∷ paid 3 3 ∷ told ∷ ended ∷ [])
made = (
  record { reply = EntryReply 1; gives = refl; fits = refl; program = refl; below = omega arith; own = tt },
  (
    record { reply = EntryReply 2; gives = refl; fits = refl; program = refl; below = omega arith; own = tt },
    (
      record { reply = EntryOf 3 m1; gives = refl; fits = refl; program = refl; below = omega arith; own = refl },
      (
        record { reply = EntryReply 4; gives = refl; fits = refl; program = refl; below = omega arith; own = refl },
        (
          record { reply = EntryReply 5; gives = refl; fits = refl; program = refl; below = omega arith; own = refl },
          (record { reply = EntryReply 6; gives = refl; fits = refl; program = refl; below = omega arith; own = refl }, tt),
        ),
      ),
    ),
  ),
)

-- ---- the fields, each alone

abbrev pub Gives : List Entry → Entry → Reply → Type 0
Gives h e r = given bank h (event_of e) (Some e.snap) (recorded e e.act) ≡ Enters e r

abbrev pub Fits : List Entry → Entry → Type 0
Fits h e = full_of h e ≡ None

abbrev IsInPlace : List Entry → Entry → Type 0
IsInPlace h e = is_program e.act ≡ is_first h

abbrev IsBelow : List Entry → Entry → Type 0
IsBelow h e = e.snap ≤ length h

abbrev IsUnwritten : List Entry → Entry → Type 0
IsUnwritten h e = AreOwnUnwritten h e.snap (id_of e.act)

-- ---- `gives`: the step says 4, where the body gives 3

abbrev number_in : Outcome → ℕ
number_in (outcomes.Value (Int (pos n))) = n
number_in o = 0

abbrev told_by : Option StepRow → ℕ
told_by None = 0
told_by (Some r) = number_in r.outcome

abbrev said_by : Given → ℕ
said_by (Answers r) = 0
said_by (Enters e r) = told_by (step_written e m1 0)

pub another_outcome : (Agrees bank before (paid 3 4) → ⊥) × Fits before (paid 3 4) × IsInPlace before (paid 3 4) × IsBelow before (paid 3 4) × IsUnwritten before (paid 3 4)
another_outcome = ((λ a. let z : 3 ≡ 4 = ap said_by a.gives in absurd (omega (arith, z))), refl, refl, omega arith, refl)

abbrev enters : Given → ℕ
enters (Answers r) = 0
enters (Enters e r) = 1

-- the workflow has ended, and its turn comes to no entry
ended_twice : Agrees bank (before ++ paid 3 3 ∷ told ∷ ended ∷ []) (plain 6 (acts.Finish m1) (flow m1 (codes "move") args_m1 Success 3 (Some (outcomes.Value (int 3))) ∷ [])) → ⊥
ended_twice a = let z : 0 ≡ 1 = ap enters a.gives in absurd (omega (arith, z))

-- ---- `program`: a second one, and a first entry that is none

abbrev is_yes : Bool → ℕ
is_yes true = 1
is_yes false = 0

abbrev second : Entry
second = plain 3 (acts.Program (codes "bank")) []

a_second_program : Gives before second (EntryReply 4) × Fits before second × (Agrees bank before second → ⊥) × IsBelow before second × IsUnwritten before second
a_second_program = (refl, refl, (λ a. let z : 1 ≡ 0 = ap is_yes a.program in absurd (omega (arith, z))), omega arith, tt)

abbrev load_first : Entry
load_first = plain 0 acts.Load (row (codes "a") (pos 10) ∷ [])

no_program_first : Gives [] load_first (EntryReply 1) × Fits [] load_first × (Agrees bank [] load_first → ⊥) × IsBelow [] load_first × IsUnwritten [] load_first
no_program_first = (refl, refl, (λ a. let z : 0 ≡ 1 = ap is_yes a.program in absurd (omega (arith, z))), omega arith, tt)

-- ---- `below`: a snapshot past the entries, where there are three

a_later_snapshot : Gives before (paid 4 3) (EntryReply 4) × Fits before (paid 4 3) × IsInPlace before (paid 4 3) × (Agrees bank before (paid 4 3) → ⊥) × IsUnwritten before (paid 4 3)
a_later_snapshot = (refl, refl, refl, (λ a. let z : 4 ≤ 3 = a.below in absurd (omega (arith, z))), refl)

-- ---- `own`: the workflow was cancelled and resumed since its snapshot

abbrev resumed : List Entry
resumed = before ++ plain 3 (acts.Cancel m1) (flow m1 (codes "move") args_m1 Cancelled 3 None ∷ []) ∷ plain 4 (acts.Resume m1) (flow m1 (codes "move") args_m1 Pending 3 None ∷ []) ∷ []

abbrev number_or_none : Option ℕ → ℕ
number_or_none None = 0
number_or_none (Some j) = j

a_snapshot_before_its_cancel : Gives resumed (paid 3 3) (EntryReply 6) × Fits resumed (paid 3 3) × IsInPlace resumed (paid 3 3) × IsBelow resumed (paid 3 3) × (Agrees bank resumed (paid 3 3) → ⊥)
a_snapshot_before_its_cancel = (refl, refl, refl, omega arith, (λ a. let z : 4 ≡ 0 = ap number_or_none a.own in absurd (omega (arith, z))))

-- after it, the same transaction agrees
a_snapshot_after_its_resume : Agrees bank resumed (paid 5 3)
a_snapshot_after_its_resume = record { reply = EntryReply 6; gives = refl; fits = refl; program = refl; below = omega arith; own = refl }

-- ---- `fits`: a load on a history of so many entries

abbrev pub load_on : List Entry → Entry
load_on h = plain (length h) acts.Load (row (codes "a") (pos 10) ∷ [])

pub a_load_is_given : (h : List Entry) → Gives h (load_on h) (EntryReply (length h + 1)) × IsBelow h (load_on h) × IsUnwritten h (load_on h)
a_load_is_given h = (refl, omega arith, tt)

-- ---- histories

-- one entry that doesn't agree
not_made : IsMade bank (before ++ paid 3 4 ∷ []) → ⊥
not_made m = another_outcome.0 m.1.1.1.0
