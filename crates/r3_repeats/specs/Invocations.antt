-- Calls of the program on one store, with crashes between and inside them.
use Rattle.std.specs.Prelude.{◌≡◌, ℕ, ◌<◌, ◌≤◌, List, [], ◌∷◌, length, take, flat_map, slice_get, Option, Some, ⊤}
use Rattle.r3_value.specs.declared.value.Outcome.{Outcome}
use Rattle.r3_entry.specs.declared.entry.Entry.{Entry}
use Rattle.r3_model.specs.Language.{Text, Language}
use Rattle.r3_model.specs.Event.{Reply}
use Rattle.r3_model.specs.Replies.{reply_text}
use Rattle.r3_model.specs.Script.{Line, Told, called, held_by}

-- A call: the text of its functions, the history that it was begun on, the lines that it was given with the answers of
-- the outside, the bytes said and the calls asked until it ended or was cut by a crash, and the history that it left.
pub record Invocation : Type 0 where
  pub text : Text
  pub before : List Entry
  pub lines : List Line
  pub answers : List (Option Outcome)
  pub said : ℕ
  pub asked : ℕ
  pub left : List Entry

-- what the machine comes to with all of its lines
abbrev pub told_in : Language → Invocation → Told
told_in P i = called P i.text i.before i.lines i.answers

-- It went by the machine, and left a prefix of the machine's history with all that was acknowledged.
pub record GoesByMachine (P : Language) (i : Invocation) : Type 0 where
  pub len : ℕ
  pub within : len ≤ length (told_in P i).trail.state.history
  pub held_kept : held_by i.before (told_in P i) i.said i.asked ≤ len
  pub left_is : i.left ≡ take len (told_in P i).trail.state.history

-- it lost nothing
abbrev pub IsWhole : Language → Invocation → Type 0
IsWhole P i = i.left ≡ (told_in P i).trail.state.history

-- Call after call: each is begun on what the one before it left, and the first on this history.
abbrev pub AreOnOneStore : Language → List Entry → List Invocation → Type 0
AreOnOneStore P h [] = ⊤
AreOnOneStore P h (i ∷ is) = (i.before ≡ h) × GoesByMachine P i × AreOnOneStore P i.left is

-- ---- its replies

-- the machine's reply to line k, counted from 0
pub record Replied (P : Language) (i : Invocation) (k : ℕ) (line : Line) (reply : Reply) : Type 0 where
  pub line_is : slice_get i.lines k ≡ Some line
  pub reply_is : slice_get (told_in P i).said k ≡ Some reply

-- a byte of the reply to line k was said
abbrev pub IsAcknowledged : Language → Invocation → ℕ → Type 0
IsAcknowledged P i k = length (flat_map reply_text (take k (told_in P i).said)) < i.said

-- Line k of call number a comes before line l of call number b, and what it did was not lost between.
pub data Outlives (P : Language) (i : Invocation) (a k b l : ℕ) : Type 0 where
  in_one_call : a ≡ b → k < l → Outlives P i a k b l
  acknowledged : a < b → IsAcknowledged P i k → Outlives P i a k b l
  whole : a < b → IsWhole P i → Outlives P i a k b l
