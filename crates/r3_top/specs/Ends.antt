-- What a call has come to: refused before it has changed anything, or done as far as it says.
use Rattle.std.specs.Prelude.{◌≡◌, ◌⊎◌, ℕ, ◌<◌, ◌≤◌, ◌^◌, List, [], ◌∷◌, ◌++◌, length, take, Option, Some, None, Result, Ok, Err}
use Rattle.std.specs.Option.{ForSome}
use Rattle.std.specs.Io.KnownBytes.{Consumes}
use Rattle.fn_tree.specs.declared.program.Item.{Item}
use Rattle.r3_entry.specs.declared.entry.Entry.{Entry}
use Rattle.r3_desk.specs.Asked as desk
use Rattle.r3_desk.specs.Crash.{Reach}
use Rattle.r3_json.specs.Lines as json
use Rattle.r3_model.specs.Functions.{language_of}
use Rattle.r3_model.specs.Generator.{generated}
use Rattle.r3_model.specs.Language.{Text}
use Rattle.r3_model.specs.Script.{Drain}
use Rattle.r3_serve.specs.Scripted.{script_lines, ended_script_lines}
use Rattle.r3_gen.specs.Ran.{Ran}
use Rattle.r3_top.specs.Statuses.{status, last}
use Rattle.r3_top.specs.Counts.{counts_data}
use Rattle.r3_top.specs.Refusals.{IsFile, IsFileRefusal, IsRefusal, IsOpened}
use Rattle.r3_top.specs.Answered.{Says, Answered}
use Rattle.r3_top.specs.declared.halt.Halt.{Halt}
use Rattle.r3_top.specs.declared.halt.Halt.TheVariants as halts

-- a status, and all that was said with its last line
abbrev pub EndsAs : (Option Halt → Text → Type 0) → ℕ → Type 0
EndsAs Comes answer = (end : Option Halt) × (answer ≡ status end) × Comes end (last end)

-- why a command is halted, if it is
abbrev pub end_of : {T : Type 0} → Result T Halt → Option Halt
end_of (Ok x) = None
end_of (Err halt) = Some halt

module _ {D : Type 0} (told_image : D → Option Text) (may_leave : D → Text → Type 0) (moment : D → ℕ) (reach : D → Reach) (said : D → Option Text) (asked : D → Option (List desk.Call)) (from now : D) where
  -- What is done of a script, and behind it this line: all of its lines; or those that end within the limit; or
  -- within what was given before the source failed.
  abbrev pub RunWork : Option Text → Option Text → Text → List Item → List Entry → Option Halt → Text → Type 0
  RunWork left_then left_now text items h None line =
      ForSome left_then (λ script. (length script ≤ 2 ^ 26)
      × Answered told_image may_leave moment reach said asked from now (language_of items) text h (script_lines script) line)
  RunWork left_then left_now text items h (Some halts.LongScript) line =
      ForSome left_then (λ script. (2 ^ 26 < length script)
      × Answered told_image may_leave moment reach said asked from now (language_of items) text h (ended_script_lines (take (2 ^ 26) script)) line)
  RunWork left_then left_now text items h (Some halts.Script) line =
      (given : Text) × Consumes left_then left_now given
      × Answered told_image may_leave moment reach said asked from now (language_of items) text h (ended_script_lines given) line
  RunWork left_then left_now text items h end line = ⊥

  -- one drain
  abbrev pub RecoverWork : ℕ → Text → List Item → List Entry → Option Halt → Text → Type 0
  RecoverWork turns text items h None line =
      Answered told_image may_leave moment reach said asked from now (language_of items) text h (Drain turns ∷ []) line
  RecoverWork turns text items h end line = ⊥

  -- A call on a store was refused, or has done this work. Behind its replies it has said this line.
  abbrev pub Comes : Text → (List Item → List Entry → Option Halt → Text → Type 0) → Option Halt → Text → Type 0
  Comes text Work end line =
      (IsRefusal text (told_image from) end × Says told_image said asked from now line)
      ⊎ ((items : List Item) × (h : List Entry) × IsOpened text (told_image from) items h × Work items h end line)

  abbrev pub RunComes : Option Text → Option Text → Text → Option Halt → Text → Type 0
  RunComes left_then left_now text end line = Comes text (RunWork left_then left_now text) end line

  abbrev pub RecoverComes : ℕ → Text → Option Halt → Text → Type 0
  RecoverComes turns text end line = Comes text (RecoverWork turns text) end line

  -- all of the generator's lines, of which the summary alone is said
  abbrev pub GenWork : ℕ → ℕ → Text → List Item → List Entry → Option Halt → Text → Type 0
  GenWork number count text items h None line =
      (line ≡ []) × Ran told_image moment reach said asked from now (language_of items) text h (generated number count) count
  GenWork number count text items h end line = ⊥

  abbrev pub GenComes : ℕ → ℕ → Text → Option Halt → Text → Type 0
  GenComes number count text end line = Comes text (GenWork number count text) end line

-- The function file was refused, or it was said how many items of each kind there are.
abbrev pub CheckComes : {D : Type 0} → (D → Option Text) → (D → Option Text) → (D → Option (List desk.Call)) → D → D → Text → Option Halt → Text → Type 0
CheckComes told_image said asked from now text end line =
    (IsFileRefusal text end × Says told_image said asked from now line)
    ⊎ ((items : List Item) × IsFile text items × (end ≡ None)
    × Says told_image said asked from now (json.line_of (counts_data items) ++ line))
