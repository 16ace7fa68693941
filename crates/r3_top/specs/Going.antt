-- However a call has ended that began on a history: how far it has come, and what a crash leaves.
use Rattle.std.specs.Prelude.{◌≡◌, ◌⊎◌, ℕ, ◌<◌, ◌^◌, List, [], ◌∷◌, ◌++◌, length, take, Option, Some, None}
use Rattle.std.specs.Option.{ForSome}
use Rattle.fn_tree.specs.declared.program.Item.{Item}
use Rattle.r3_entry.specs.declared.entry.Entry.{Entry}
use Rattle.r3_entry.specs.Image.{IsHistoryOf}
use Rattle.r3_desk.specs.Asked as desk
use Rattle.r3_desk.specs.Crash.{Reach}
use Rattle.r3_json.specs.Lines as json
use Rattle.r3_model.specs.Event.{Reply, Call}
use Rattle.r3_model.specs.Functions.{language_of}
use Rattle.r3_model.specs.Generator.{generated}
use Rattle.r3_model.specs.Language.{Language, Text}
use Rattle.r3_model.specs.Held.{Mark}
use Rattle.r3_model.specs.Machine.{State}
use Rattle.r3_model.specs.Script.{Line, Drain}
use Rattle.r3_exec.specs.Does.{told_after}
use Rattle.r3_session.specs.Begun.{StopsOpening}
use Rattle.r3_serve.specs.Held.{LeavesHeld, asked_marks}
use Rattle.r3_serve.specs.Served.{Loud, Quiet, Calls, Stopped}
use Rattle.r3_serve.specs.Scripted.{script_lines, ended_script_lines}
use Rattle.r3_serve.specs.Failed.{ReplyFailed, ReplyFailedIn}
use Rattle.r3_gen.specs.Ran.{Ran, HasSaid, SummaryFailed}
use Rattle.r3_top.specs.Functions.{IsAccepted}
use Rattle.r3_top.specs.Counts.{counts_data}
use Rattle.r3_top.specs.Refusals.{IsFile, IsFileRefusal}
use Rattle.r3_top.specs.Statuses.{HasLine, last_line}
use Rattle.r3_top.specs.Answered.{Says, Answered, LeavesPrefix, Untouched}
use Rattle.r3_top.specs.declared.halt.Halt.{Halt}
use Rattle.r3_top.specs.declared.halt.Halt.TheVariants as halts

-- Nothing was done of it: at most this line was said. A crash now leaves the history as it was.
pub record Unbegun {D : Type 0} (told_image : D → Option Text) (may_leave : D → Text → Type 0) (moment : D → ℕ) (reach : D → Reach) (said : D → Option Text) (asked : D → Option (List desk.Call)) (from now : D) (h : List Entry) (line : Text) : Type 0 where
  pub says : Says told_image said asked from now line
  pub settled : (image : Text) → may_leave now image → IsHistoryOf h image
  pub leaves : LeavesPrefix moment reach said asked from now h (length h) []

-- The machine's call on this history with these lines was done: none of its replies was said, its calls were asked,
-- and its history is stored. A crash now leaves all of it.
pub record Unsaid {D : Type 0} (told_image : D → Option Text) (may_leave : D → Text → Type 0) (moment : D → ℕ) (reach : D → Reach) (said : D → Option Text) (asked : D → Option (List desk.Call)) (from now : D) (P : Language) (text : Text) (h : List Entry) (lines : List Line) : Type 0 where
  pub calls : List Call
  pub marks : List Mark
  pub after : State
  pub replies : List Reply
  pub machine : Calls P text h lines after calls marks replies
  pub told : said now ≡ said from
  pub asks : asked now ≡ told_after (asked from) calls
  pub stored : ForSome (told_image now) (IsHistoryOf after.history)
  pub settled : (image : Text) → may_leave now image → IsHistoryOf after.history image
  pub leaves : LeavesHeld moment reach said asked from now after.history (length h) (asked_marks marks)

-- no work was begun
abbrev pub NoWork : Language → Option Halt → Text → Type 0
NoWork P end line = ⊥

module _ {D : Type 0} (told_image : D → Option Text) (may_leave : D → Text → Type 0) (moment : D → ℕ) (reach : D → Reach) (said : D → Option Text) (asked : D → Option (List desk.Call)) (from now : D) where
  -- the opening ended early, and no line was answered
  abbrev pub Opening : Language → Text → List Entry → Type 0
  Opening P text h =
      StopsOpening told_image moment reach said asked P from now text h × (said now ≡ said from) × (asked now ≡ asked from)

  -- the lines before some line were answered, and a part of it at most
  abbrev pub Within : Language → Text → List Entry → List Line → Type 0
  Within P text h lines =
      (done : List Line) × (later : List Line) × (lines ≡ done ++ later)
      × (Answered told_image may_leave moment reach said asked from now P text h done []
      ⊎ ((line : Line) × (more : List Line) × (later ≡ line ∷ more)
      × Stopped told_image moment reach said asked from now P Loud text h done line))

  -- so it did, with the functions of this text
  abbrev pub OpensEarly : Text → List Entry → Type 0
  OpensEarly text h = (items : List Item) × IsAccepted text items × Opening (language_of items) text h

  -- so much of its work was done, with the functions of this text
  abbrev pub AtWork : Text → (Language → Option Halt → Text → Type 0) → Option Halt → Text → Type 0
  AtWork text Work end line = (items : List Item) × IsAccepted text items × Work (language_of items) end line

  -- How a call has gone, by what has ended it, and behind all that it did it has said this line: the function file was
  -- refused; the opening ended early; or so much of its work was done. The store is never refused.
  abbrev pub Goes : Text → List Entry → (Language → Option Halt → Text → Type 0) → Option Halt → Text → Type 0
  Goes text h Work (Some halts.Usage) line = ⊥
  Goes text h Work (Some (halts.Store entry)) line = ⊥
  Goes text h Work (Some halts.Program) line = ⊥
  Goes text h Work (Some halts.Files) line = Unbegun told_image may_leave moment reach said asked from now h line
  Goes text h Work (Some halts.LongFile) line =
      IsFileRefusal text (Some halts.LongFile) × Unbegun told_image may_leave moment reach said asked from now h line
  Goes text h Work (Some (halts.Functions fault)) line =
      IsFileRefusal text (Some (halts.Functions fault)) × Unbegun told_image may_leave moment reach said asked from now h line
  Goes text h Work (Some halts.Disk) line = OpensEarly text h ⊎ AtWork text Work (Some halts.Disk) line
  Goes text h Work (Some halts.Memory) line =
      Unbegun told_image may_leave moment reach said asked from now h line
      ⊎ (OpensEarly text h ⊎ AtWork text Work (Some halts.Memory) line)
  Goes text h Work end line = AtWork text Work end line

  -- Of a script: all of its lines; those that end within the limit, where it is too long; or up to the reply that failed to
  -- be said; else those before some line.
  abbrev pub OfScript : Text → List Entry → Text → Language → Option Halt → Text → Type 0
  OfScript text h script P None line =
      Answered told_image may_leave moment reach said asked from now P text h (script_lines script) line
  OfScript text h script P (Some halts.LongScript) line =
      (2 ^ 26 < length script)
      × Answered told_image may_leave moment reach said asked from now P text h (ended_script_lines (take (2 ^ 26) script)) line
  OfScript text h script P (Some halts.Script) line = Within P text h (script_lines script)
  OfScript text h script P (Some halts.Disk) line = Within P text h (script_lines script)
  OfScript text h script P (Some halts.Memory) line = Within P text h (script_lines script)
  OfScript text h script P (Some halts.Say) line =
      ReplyFailedIn told_image may_leave moment reach said asked from now P text h [] script
  OfScript text h script P end line = ⊥

  abbrev pub RunGoes : Text → List Entry → Text → Option Halt → Text → Type 0
  RunGoes text h script end line = Goes text h (OfScript text h script) end line

  -- of a drain
  abbrev pub OfDrain : Text → List Entry → ℕ → Language → Option Halt → Text → Type 0
  OfDrain text h turns P None line =
      Answered told_image may_leave moment reach said asked from now P text h (Drain turns ∷ []) line
  OfDrain text h turns P (Some halts.Disk) line = Within P text h (Drain turns ∷ [])
  OfDrain text h turns P (Some halts.Memory) line = Within P text h (Drain turns ∷ [])
  OfDrain text h turns P (Some halts.Say) line =
      ReplyFailed told_image may_leave moment reach said asked from now P text h [] (Drain turns)
  OfDrain text h turns P end line = ⊥

  abbrev pub RecoverGoes : Text → List Entry → ℕ → Option Halt → Text → Type 0
  RecoverGoes text h turns end line = Goes text h (OfDrain text h turns) end line

  -- of lines whose replies aren't said, those before some line were answered, and a part of it at most
  abbrev pub WithinUnsaid : Language → Text → List Entry → List Line → Type 0
  WithinUnsaid P text h lines =
      (done : List Line) × (later : List Line) × (lines ≡ done ++ later)
      × (Unsaid told_image may_leave moment reach said asked from now P text h done
      ⊎ ((line : Line) × (more : List Line) × (later ≡ line ∷ more)
      × Stopped told_image moment reach said asked from now P Quiet text h done line))

  -- within the generator's lines, or with so much of the summary
  abbrev pub Generating : Language → Text → List Entry → ℕ → ℕ → Type 0
  Generating P text h number count =
      WithinUnsaid P text h (generated number count)
      ⊎ ((part : Text) × (rest : Text)
      × HasSaid told_image moment reach said asked from now P text h (generated number count) count part rest)

  -- Of the generator's lines: all of them with their summary; else those before some line, or all with a part of it.
  abbrev pub OfGenerated : Text → List Entry → ℕ → ℕ → Language → Option Halt → Text → Type 0
  OfGenerated text h number count P None line =
      Ran told_image moment reach said asked from now P text h (generated number count) count
  OfGenerated text h number count P (Some halts.Disk) line = Generating P text h number count
  OfGenerated text h number count P (Some halts.Memory) line = Generating P text h number count
  OfGenerated text h number count P (Some halts.Say) line =
      SummaryFailed told_image moment reach said asked from now P text h (generated number count) count
  OfGenerated text h number count P end line = ⊥

  abbrev pub GenGoes : Text → List Entry → ℕ → ℕ → Option Halt → Text → Type 0
  GenGoes text h number count end line = Goes text h (OfGenerated text h number count) end line

module _ {D : Type 0} (told_image : D → Option Text) (may_leave : D → Text → Type 0) (moment : D → ℕ) (reach : D → Reach) (said : D → Option Text) (asked : D → Option (List desk.Call)) (syncs : D → Option ℕ) (from now : D) where
  -- Of the counts of a function file: all of their line, or a first part where the output failed; else nothing, for want
  -- of memory or since the file was refused. Behind it this was said.
  abbrev pub OfCounts : Text → Option Halt → Text → Type 0
  OfCounts text None line =
      (items : List Item) × IsFile text items × Says told_image said asked from now (json.line_of (counts_data items) ++ line)
  OfCounts text (Some halts.Say) line =
      (items : List Item) × IsFile text items × (part : Text) × (rest : Text) × (part ++ rest ≡ json.line_of (counts_data items))
      × Says told_image said asked from now (part ++ line)
  OfCounts text (Some halts.Memory) line = Says told_image said asked from now line
  OfCounts text end line = IsFileRefusal text end × Says told_image said asked from now line

  -- However it has ended, nothing was stored.
  abbrev pub CheckGoes : Text → Option Halt → Text → Type 0
  CheckGoes text end line = OfCounts text end line × Untouched told_image may_leave moment reach said asked syncs from now

-- The output has failed: at the reply of a line, with each one before said whole and in order, and nothing else; or at
-- the last line, of which this first part was said.
abbrev pub FailsToSay : (Option Halt → Text → Type 0) → Type 0
FailsToSay Goes =
    Goes (Some halts.Say) []
    ⊎ ((halt : Halt) × (part : Text) × (rest : Text) × HasLine halt × (part ++ rest ≡ last_line halt) × Goes (Some halt) part)
