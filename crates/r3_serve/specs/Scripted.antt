-- The lines of a script, as far as they were answered.
use Rattle.std.specs.Prelude.{◌≡◌, ◌⊎◌, ℕ, List, ◌∷◌, ◌++◌, map, Option}
use Rattle.r3_entry.specs.declared.entry.Entry.{Entry}
use Rattle.r3_desk.specs.Asked as desk
use Rattle.r3_desk.specs.Crash.{Reach}
use Rattle.r3_script.specs.Lines.{lines_of, ended_lines}
use Rattle.r3_model.specs.Forms.{line_of}
use Rattle.r3_model.specs.Language.{Text}
use Rattle.r3_model.specs.Script.{Line}
use Rattle.r3_exec.specs.Runs.{language}
use Rattle.r3_exec.specs.declared.exec.Exec.{Exec}
use Rattle.r3_serve.specs.Served.{Loud, Served, Stopped}

-- the machine's lines of a script
abbrev pub script_lines : Text → List Line
script_lines script = map line_of (lines_of script)

-- the machine's lines that end in these bytes
abbrev pub ended_script_lines : Text → List Line
ended_script_lines bytes = map line_of (ended_lines bytes)

-- Within a script: all lines before this one, or before the end of what was read, were answered.
pub record StoppedIn {D : Type 0} (told_size : D → Option ℕ) (told_image : D → Option (List ℕ)) (may_leave : D → List ℕ → Type 0) (moment : D → ℕ) (reach : D → Reach) (said : D → Option (List ℕ)) (asked : D → Option (List desk.Call)) (from now : D) (exec : Exec) (text : Text) (h : List Entry) (first : List Line) (script : Text) : Type 0 where
  pub done : List Line
  pub later : List Line
  pub of_script : script_lines script ≡ done ++ later
  pub state : Served told_size told_image may_leave moment reach said asked from now exec Loud text h (first ++ done)
      ⊎ ((line : Line) × (more : List Line) × (later ≡ line ∷ more)
      × Stopped told_image moment reach said asked from now (language exec) Loud text h (first ++ done) line)
