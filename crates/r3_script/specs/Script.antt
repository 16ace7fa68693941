-- What a contract sees of a script.
use Rattle.std.specs.Prelude.{◌≡◌, ℕ, ◌^◌, ◌<◌, ◌≤◌, Bool, true, false, List, [], ◌∷◌, ◌++◌, length, take, Result, Ok, Err}
use Rattle.std.specs.declared.option.Option.{Option}
use Rattle.std.specs.Io.KnownBytes.{Consumes, IsAtEnd}
use Rattle.r3_script.specs.declared.script.Script.{Script}
use Rattle.r3_script.specs.declared.fault.ScriptFault.{ScriptFault}
use Rattle.r3_script.specs.declared.fault.ScriptFault.TheVariants.{Source, TooLong, Memory}
use Rattle.r3_script.specs.Lines.{Text, is_line, lines_of, ended_lines, Passed}
use Rattle.r3_script.specs.Chunk.{unread}

-- the line that was handed out last
abbrev pub line_of : Script → Text
line_of s = s.piece.bytes.items

-- the source has given its end
abbrev pub has_ended : Script → Bool
has_ended s = s.ended

-- The source has given these bytes, and these lines of them were handed out: the lines of the bytes that were passed,
-- which stop between two lines or are all.
pub record Reads (script : Script) (given : Text) (handed : List Text) : Type 0 where
  pub past : Text
  pub split : given ≡ past ++ unread script.chunk
  pub count : length past ≡ script.piece.passed
  pub lines : handed ≡ lines_of past
  pub between : script.ended ≡ false → Passed past handed
  pub over : script.ended ≡ true → unread script.chunk ≡ []

-- a line more was handed out
pub record HasLine (script : Script) (given : Text) (handed : List Text) : Type 0 where
  pub reads : Reads script given (handed ++ line_of script ∷ [])
  pub line : is_line (line_of script) ≡ true

-- all lines of all bytes were handed out
pub record HasAll (script : Script) (given : Text) (handed : List Text) : Type 0 where
  pub reads : Reads script given handed
  pub all : handed ≡ lines_of given
  pub short : length given ≤ 2 ^ 26
  pub over : has_ended script ≡ true

-- what an answer says, with all bytes that were given by then and the lines that were handed out before
abbrev pub Answered : Script → Text → List Text → Result Bool ScriptFault → Type 0
Answered script given handed (Ok true) = HasLine script given handed
Answered script given handed (Ok false) = HasAll script given handed
Answered script given handed (Err Source) = handed ≡ ended_lines given
Answered script given handed (Err TooLong) = (2 ^ 26 < length given) × (handed ≡ ended_lines (take (2 ^ 26) given))
Answered script given handed (Err Memory) = Unit {0}

-- the same, where these bytes were given before the call and the source gives more in it
pub record Answers (left_before left_now : Option (List ℕ)) (script : Script) (given : Text) (handed : List Text) (result : Result Bool ScriptFault) : Type 0 where
  pub more : Text
  pub consumed : Consumes left_before left_now more
  pub answered : Answered script (given ++ more) handed result

-- where the script has seen the end, the source has given it, and has no more
abbrev pub EndsWith : Bool → Bool → Option (List ℕ) → Type 0
EndsWith seen ended left = seen ≡ true → (ended ≡ true) × IsAtEnd left
