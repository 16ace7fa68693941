-- Worked cases of the bodies that an event runs: one of a turn that commits or conflicts, and none of all else.
use Rattle.std.proofs.Common.{◌≡◌, ℕ, List, [], ◌∷◌, ◌++◌, length, Option, Some, None, refl, pos}
use Rattle.std.specs.Prelude.{codes}
use Rattle.r3_rows.specs.declared.rows.Status.TheVariants.{Cancelled}
use Rattle.r3_rows.specs.declared.rows.StepKind.TheVariants as kinds
use Rattle.r3_entry.specs.declared.entry.Act.TheVariants as acts
use Rattle.r3_entry.specs.declared.entry.Entry.{Entry}
use Rattle.fn_tree.specs.declared.flow.AskKind.TheVariants as asking
use Rattle.sys_flow.specs.declared.command.Command.TheVariants.{Cancel}
use Rattle.r3_model.specs.Event.{Run, Turn, Dequeue, Nothing, Entry as EntryReply, Conflicts, Began, Unexpects}
use Rattle.r3_model.specs.Given.{Enters, Answers}
use Rattle.r3_model.specs.Machine.{given}
use Rattle.r3_model.specs.Bodies.{Body, bodies_of}
use Rattle.r3_model.proofs.Bank.{bank}
use Rattle.r3_model.proofs.WorkedReplay.{int, m1, plain, flow, row, step_row, args_m1}
use Rattle.r3_model.proofs.WorkedTurns.{after, start, turns, moved, a, b, s1, s2}
use Rattle.r3_worked.proofs.Made.{program, before, paid, told}

abbrev of_turn : List Entry → Option ℕ → List Body
of_turn h snap = bodies_of bank h (Turn m1) snap

-- ---- one body

a_turn_that_commits : (given bank before (Turn m1) (Some 3) None ≡ Enters (paid 3 3) (EntryReply 4))
    × (of_turn before (Some 3) ≡ record { history = before; id = m1; request = record { n = 0; kind = asking.Txn; name = codes "pay"; args = args_m1 }; snap = 3 } ∷ [])
a_turn_that_commits = (refl, refl)

-- entry 4 writes a row of the transfer
abbrev contended : List Entry
contended = before ++ plain 3 acts.Load (row (codes "a") (pos 1) ∷ []) ∷ []

a_turn_that_conflicts : (given bank contended (Turn m1) (Some 3) None ≡ Answers (Conflicts 4)) × (length (of_turn contended (Some 3)) ≡ 1)
a_turn_that_conflicts = (refl, refl)

-- ---- none

a_turn_that_begins : (given bank before (Turn m1) None None ≡ Answers (Began 3)) × (of_turn before None ≡ [])
a_turn_that_begins = (refl, refl)

a_turn_that_asks_the_outside : of_turn (before ++ paid 3 3 ∷ []) (Some 4) ≡ []
a_turn_that_asks_the_outside = refl

a_turn_that_ends : of_turn (before ++ paid 3 3 ∷ told ∷ []) (Some 5) ≡ []
a_turn_that_ends = refl

a_turn_of_one_that_is_cancelled : of_turn (before ++ plain 3 (acts.Cancel m1) (flow m1 (codes "move") args_m1 Cancelled 3 None ∷ []) ∷ []) (Some 3) ≡ []
a_turn_of_one_that_is_cancelled = refl

a_turn_of_none : of_turn (program ∷ []) (Some 1) ≡ []
a_turn_of_none = refl

-- its step was recorded under another name
abbrev strange : List Entry
strange = before ++ plain 3 (acts.Txn m1 0 args_m1) (step_row m1 0 (codes "take") kinds.Txn (int 3) ∷ []) ∷ []

a_turn_that_is_unexpected : (given bank strange (Turn m1) (Some 4) None ≡ Answers (Unexpects 0 (codes "take") (codes "pay"))) × (of_turn strange (Some 4) ≡ [])
a_turn_that_is_unexpected = (refl, refl)

no_turn : (bodies_of bank before (Run (Cancel m1)) (Some 3) ≡ []) × (bodies_of bank before (Dequeue (codes "mail")) (Some 3) ≡ []) × (bodies_of bank before Nothing (Some 3) ≡ [])
no_turn = (refl, refl, refl)

-- ---- in runs

a_whole_transfer : length (after moved).bodies ≡ 1
a_whole_transfer = refl

-- the second transfer conflicts, and its body is run again
two_transfers_on_one_row : length (after (start s1 (codes "send") a b 3 ∷ start s2 (codes "send") a (codes "c") 4 ∷ Turn s1 ∷ Turn s2 ∷ Turn s1 ∷ turns 3 s2)).bodies ≡ 3
two_transfers_on_one_row = refl

-- a body that fails counts too
a_withdrawal_that_falls_short : length (after (start s1 (codes "draw") a b 100 ∷ turns 2 s1)).bodies ≡ 1
a_withdrawal_that_falls_short = refl
