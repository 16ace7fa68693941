-- What a call has left on the disk, and calls one after another on it.
use Rattle.std.specs.Prelude.{◌≡◌, ℕ, ◌≤◌, List, [], ◌∷◌, ◌++◌, slice_get, Some, ⊤}
use Rattle.std.specs.List.{AllByRecursion}
use Rattle.fn_tree.specs.declared.program.Item.{Item}
use Rattle.r3_entry.specs.declared.entry.Entry.{Entry}
use Rattle.r3_entry.specs.Image.{IsHistoryOf}
use Rattle.r3_model.specs.Functions.{language_of}
use Rattle.r3_model.specs.Language.{Text, Language}
use Rattle.r3_model.specs.Script.{Line, Drain}
use Rattle.r3_serve.specs.Served.{Voice, Loud, Quiet}
use Rattle.r3_repeats.specs.Invocations.{Invocation, GoesByMachine, IsWhole}
use Rattle.r3_repeats.specs.Steps.{KeepsLimits}

-- how many of the bytes said are of replies: none where the replies aren't said
abbrev pub bytes_of : Voice → ℕ → ℕ
bytes_of Loud n = n
bytes_of Quiet n = 0

-- The image holds what a call has left that was begun on this history and given these lines, when so many bytes of its
-- replies were said and so many calls asked.
pub record IsLeftBy (P : Language) (text : Text) (h : List Entry) (lines : List Line) (said asked : ℕ) (image : List ℕ) : Type 0 where
  pub call : Invocation
  pub text_is : call.text ≡ text
  pub before_is : call.before ≡ h
  pub lines_are : call.lines ≡ lines
  pub said_is : call.said ≡ said
  pub asked_is : call.asked ≡ asked
  pub goes : GoesByMachine P call
  pub holds : IsHistoryOf call.left image

-- and that has lost nothing
pub record IsAllOf (P : Language) (text : Text) (h : List Entry) (lines : List Line) (said asked : ℕ) (image : List ℕ) : Type 0 where
  pub by : IsLeftBy P text h lines said asked image
  pub whole : IsWhole P by.call

-- The lines of a call that ended within this line: without it, with it, or with a drain of fewer turns in its place.
pub data AreBegun (lines : List Line) (line : Line) (begun : List Line) : Type 0 where
  before_it : begun ≡ lines → AreBegun lines line begun
  with_it : begun ≡ lines ++ line ∷ [] → AreBegun lines line begun
  within_it : (turns done : ℕ) → line ≡ Drain turns → done ≤ turns → begun ≡ lines ++ Drain done ∷ [] → AreBegun lines line begun

-- Call after call on the disk: each went by the machine, from the history of the image that the one before it left.
abbrev pub AreOnOneDisk : Language → List ℕ → List Invocation → Type 0
AreOnOneDisk P image [] = ⊤
AreOnOneDisk P image (i ∷ is) =
    IsHistoryOf i.before image × GoesByMachine P i × (next : List ℕ) × IsHistoryOf i.left next × AreOnOneDisk P next is

-- One of the program's calls on a disk that began empty, each with lines as they are read.
pub record IsOneOnDisk (items : List Item) (i : Invocation) : Type 0 where
  pub image : List ℕ
  pub empty : IsHistoryOf [] image
  pub calls : List Invocation
  pub on_disk : AreOnOneDisk (language_of items) image calls
  pub limits : AllByRecursion KeepsLimits calls
  pub place : ℕ
  pub is : slice_get calls place ≡ Some i
