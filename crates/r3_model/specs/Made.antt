-- Which histories a program made.
use Rattle.std.specs.Prelude.{◌≡◌, ℕ, ◌≤◌, Bool, false, List, [], ◌∷◌, ◌++◌, length, Option, Some, None, option_map, bytes_eq, ⊤}
use Rattle.r3_value.specs.declared.value.Outcome.{Outcome}
use Rattle.r3_rows.specs.declared.rows.Key.{Key}
use Rattle.r3_rows.specs.declared.rows.Key.TheVariants as keys
use Rattle.r3_rows.specs.declared.rows.StepRow.{StepRow}
use Rattle.r3_entry.specs.declared.entry.Act.{Act}
use Rattle.r3_entry.specs.declared.entry.Act.TheVariants as acts
use Rattle.r3_entry.specs.declared.entry.Entry.{Entry}
use Rattle.r3_entry.specs.Formed.{is_program, is_first}
use Rattle.r3_model.specs.Language.{Text, Language}
use Rattle.r3_model.specs.Event.{Reply}
use Rattle.r3_model.specs.Given.{Enters}
use Rattle.r3_model.specs.Turns.{writer_past}
use Rattle.r3_model.specs.Machine.{given, full_of}
use Rattle.r3_model.specs.Schedule.{event_of, step_written}

-- the ID of an entry's act
abbrev pub id_of : Act → Option Text
id_of (acts.Program text) = None
id_of acts.Load = None
id_of (acts.Start id) = Some id
id_of (acts.Enqueue id) = Some id
id_of (acts.Dequeue id) = Some id
id_of (acts.Txn id n args) = Some id
id_of (acts.Outside id n args) = Some id
id_of (acts.Child id n child) = Some id
id_of (acts.Await id n on) = Some id
id_of (acts.Finish id) = Some id
id_of (acts.Cancel id) = Some id
id_of (acts.Resume id) = Some id
id_of (acts.Fork id from below) = Some id
id_of (acts.Recover id) = Some id

-- the outcome that an outside call's entry records
abbrev pub recorded : Entry → Act → Option Outcome
recorded e (acts.Outside id n args) = option_map (λ (r : StepRow). r.outcome) (step_written e id n)
recorded e act = None

-- a workflow's own rows
abbrev pub is_own : Text → Key → Bool
is_own id (keys.User table key) = false
is_own id (keys.Flow i) = bytes_eq i id
is_own id (keys.Step i n) = bytes_eq i id

abbrev pub AreOwnUnwritten : List Entry → ℕ → Option Text → Type 0
AreOwnUnwritten h snap None = ⊤
AreOwnUnwritten h snap (Some id) = writer_past h snap (is_own id) ≡ None

-- The entry is the one that its event gives on the entries before it, on its own snapshot and with the outcome
-- that it records.
pub record Agrees (P : Language) (h : List Entry) (e : Entry) : Type 0 where
  pub reply : Reply
  pub gives : given P h (event_of e) (Some e.snap) (recorded e e.act) ≡ Enters e reply
  pub fits : full_of h e ≡ None
  -- a program stands first, and never again
  pub program : is_program e.act ≡ is_first h
  -- its snapshot is one of the entries before it
  pub below : e.snap ≤ length h
  -- no entry since its snapshot wrote its workflow's rows
  pub own : AreOwnUnwritten h e.snap (id_of e.act)

-- each of the entries agrees, after those before it
abbrev pub AllAgree : Language → List Entry → List Entry → Type 0
AllAgree P h [] = ⊤
AllAgree P h (e ∷ es) = Agrees P h e × AllAgree P (h ++ e ∷ []) es

-- The program made the history: each entry agrees.
abbrev pub IsMade : Language → List Entry → Type 0
IsMade P h = AllAgree P [] h
