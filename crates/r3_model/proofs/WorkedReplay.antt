-- Worked cases of schedules, made histories and verdicts.
use Rattle.std.proofs.Common.{◌≡◌, ℕ, List, [], ◌∷◌, Option, Some, None, refl, pos, ℤ, replicate, arith}
use Rattle.std.specs.Prelude.{codes}
use Rattle.r3_value.specs.declared.value.Val.{Val}
use Rattle.r3_value.specs.declared.value.Val.TheVariants.{Null, Int, Text as TextVal}
use Rattle.r3_value.specs.declared.value.Outcome.{Outcome}
use Rattle.r3_value.specs.declared.value.Outcome.TheVariants as outcomes
use Rattle.r3_entry.specs.declared.entry.Entry.{Entry}
use Rattle.r3_entry.specs.declared.entry.Act.{Act}
use Rattle.r3_entry.specs.declared.entry.Act.TheVariants as acts
use Rattle.r3_rows.specs.declared.rows.Key.{Key}
use Rattle.r3_rows.specs.declared.rows.Key.TheVariants as keys
use Rattle.r3_rows.specs.declared.rows.Cell.{Cell}
use Rattle.r3_rows.specs.declared.rows.Cell.TheVariants as cells
use Rattle.r3_rows.specs.declared.rows.Read.TheVariants.{At}
use Rattle.r3_rows.specs.declared.rows.Status.{Status}
use Rattle.r3_rows.specs.declared.rows.Status.TheVariants.{Pending, Success}
use Rattle.r3_rows.specs.declared.rows.StepKind.{StepKind}
use Rattle.r3_rows.specs.declared.rows.StepKind.TheVariants as kinds
use Rattle.r3_model.specs.Language.{Text}
use Rattle.r3_model.specs.Event.{Event, Append, Run, Turn, Entry as EntryReply, EntryOf}
use Rattle.sys_flow.specs.declared.command.Command.TheVariants.{Load, Start}
use Rattle.r3_model.specs.Run.{from_state, empty, run}
use Rattle.r3_model.specs.Schedule.{schedule}
use Rattle.r3_model.specs.Verdict.{Same, IsVerdict, IsVerdictOn}
use Rattle.r3_model.proofs.Bank.{bank, args2, args3}

abbrev pub int : ℕ → Val
int n = Int (pos n)

abbrev pub txt : Text → Val
txt s = TextVal s

abbrev pub start : Text → Text → Text → Text → ℕ → Event
start id function a b n = Run (Start (Some id) function (args3 (txt a) (txt b) (int n)))

abbrev pub load : Event
load = Run (Load (codes "acct") ((codes "a", int 10) ∷ (codes "b", int 5) ∷ (codes "c", int 4) ∷ (codes "d", int 9) ∷ []))

abbrev pub m1 : Text
m1 = codes "m1"

abbrev pub d1 : Text
d1 = codes "d1"

abbrev pub history_of : List Event → List Entry
history_of evs = (run bank (from_state empty (Some (outcomes.Value Null) ∷ [])) (Append (codes "bank") ∷ load ∷ evs)).state.history

-- ---- a history, written out

abbrev pub flow : Text → Text → Val → Status → ℕ → Option Outcome → Key × Option Cell
flow id function args status started o = (
  keys.Flow id,
  Some (cells.Flow (record {
    status = status;
    function = function;
    args = args;
    outcome = o;
    queue = None;
    started = started;
    attempts = 0;
    parent = None;
  })),
)

abbrev pub row : Text → ℤ → Key × Option Cell
row key z = (keys.User (codes "acct") key, Some (cells.Row (Int z)))

abbrev pub step_row : Text → ℕ → Text → StepKind → Val → Key × Option Cell
step_row id n name kind v = (keys.Step id n, Some (cells.Step (record { name = name; kind = kind; outcome = outcomes.Value v })))

abbrev pub plain : ℕ → Act → List (Key × Option Cell) → Entry
plain snap act writes = record { act = act; snap = snap; reads = []; writes = writes }

abbrev pub args_m1 : Val
args_m1 = args3 (txt (codes "a")) (txt (codes "b")) (int 3)

abbrev pub args_d1 : Val
args_d1 = args3 (txt (codes "c")) (txt (codes "d")) (int 1)

abbrev pub history : List Entry
history =
    plain 0 (acts.Program (codes "bank")) []
    ∷ plain 1 acts.Load (row (codes "a") (pos 10) ∷ row (codes "b") (pos 5) ∷ row (codes "c") (pos 4) ∷ row (codes "d") (pos 9) ∷ [])
    ∷ plain 2 (acts.Start m1) (flow m1 (codes "move") args_m1 Pending 3 None ∷ [])
    ∷ record {
      act = acts.Txn m1 0 args_m1;
      snap = 3;
      reads = At (codes "acct") (codes "a") 2 ∷ At (codes "acct") (codes "b") 2 ∷ [];
      writes = row (codes "a") (pos 7) ∷ row (codes "b") (pos 8) ∷ step_row m1 0 (codes "pay") kinds.Txn (int 3) ∷ [];
    }
    ∷ plain 4 (acts.Outside m1 1 (args2 (txt (codes "b")) (int 3))) (step_row m1 1 (codes "notify") kinds.Outside Null ∷ [])
    ∷ plain 5 (acts.Finish m1) (flow m1 (codes "move") args_m1 Success 3 (Some (outcomes.Value (int 3))) ∷ [])
    ∷ []

history-made : history_of (start m1 (codes "move") (codes "a") (codes "b") 3 ∷ replicate 4 (Turn m1)) ≡ history
history-made = refl

history-schedule : schedule history ≡ Append (codes "bank") ∷ load ∷ start m1 (codes "move") (codes "a") (codes "b") 3 ∷ replicate 4 (Turn m1)
history-schedule = refl

-- the history repeats
it_repeats : IsVerdict bank history (Same 6)
it_repeats = (refl, refl)

-- ---- a history of two transfers that overlap

abbrev pub requests : List Entry
requests =
    plain 0 (acts.Program (codes "bank")) []
    ∷ plain 1 acts.Load (row (codes "a") (pos 10) ∷ row (codes "b") (pos 5) ∷ row (codes "c") (pos 4) ∷ row (codes "d") (pos 9) ∷ [])
    ∷ plain 2 (acts.Start m1) (flow m1 (codes "move") args_m1 Pending 3 None ∷ [])
    ∷ plain 3 (acts.Start d1) (flow d1 (codes "draw") args_d1 Pending 4 None ∷ [])
    ∷ record {
      act = acts.Txn m1 0 args_m1;
      snap = 4;
      reads = At (codes "acct") (codes "a") 2 ∷ At (codes "acct") (codes "b") 2 ∷ [];
      writes = row (codes "a") (pos 7) ∷ row (codes "b") (pos 8) ∷ step_row m1 0 (codes "pay") kinds.Txn (int 3) ∷ [];
    }
    ∷ record {
      act = acts.Txn d1 0 args_d1;
      snap = 4;
      reads = At (codes "acct") (codes "c") 2 ∷ At (codes "acct") (codes "d") 2 ∷ [];
      writes = row (codes "c") (pos 3) ∷ step_row d1 0 (codes "take") kinds.Txn (int 3) ∷ [];
    }
    ∷ plain 6 (acts.Outside m1 1 (args2 (txt (codes "b")) (int 3))) (step_row m1 1 (codes "notify") kinds.Outside Null ∷ [])
    ∷ plain 7 (acts.Finish m1) (flow m1 (codes "move") args_m1 Success 3 (Some (outcomes.Value (int 3))) ∷ [])
    ∷ plain 8 (acts.Finish d1) (flow d1 (codes "draw") args_d1 Success 4 (Some (outcomes.Value (int 3))) ∷ [])
    ∷ []

requests-made : history_of (
    start m1 (codes "move") (codes "a") (codes "b") 3 ∷ start d1 (codes "draw") (codes "c") (codes "d") 1 ∷ Turn m1 ∷ Turn d1 ∷ Turn m1 ∷ Turn d1 ∷ Turn m1 ∷ Turn m1 ∷ Turn d1 ∷ []) ≡ requests
requests-made = refl

they_repeat : IsVerdict bank requests (Same 9)
they_repeat = (refl, refl)

-- ---- one workflow, and a history that was changed by hand

one_repeats : IsVerdictOn bank m1 history (Same 4)
one_repeats = (
  (tt, (tt, (record { reply = EntryOf 3 m1; gives = refl; fits = refl; program = refl; below = omega arith; own = refl }, (record { reply = EntryReply 4; gives = refl; fits = refl; program = refl; below = omega arith; own = refl }, (record { reply = EntryReply 5; gives = refl; fits = refl; program = refl; below = omega arith; own = refl }, (record { reply = EntryReply 6; gives = refl; fits = refl; program = refl; below = omega arith; own = refl }, tt)))))),
  refl,
)

none_repeats : IsVerdictOn bank (codes "zz") history (Same 0)
none_repeats = ((tt, (tt, (tt, (tt, (tt, (tt, tt)))))), refl)
