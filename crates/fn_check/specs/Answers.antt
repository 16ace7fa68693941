-- What the calls of the checker answer.
use Rattle.std.specs.Prelude.{◌≡◌, ℕ, Result, Ok, Err, List, Option, Some, None}
use Rattle.fn_tree.specs.declared.program.Item.{Item}
use Rattle.fn_tree.specs.Soundness.{Scope}
use Rattle.fn_check.specs.declared.fault.CheckKind.{CheckKind}
use Rattle.fn_check.specs.declared.fault.CheckError.{CheckError}
use Rattle.fn_check.specs.declared.fault.CheckError.TheVariants as error
use Rattle.fn_check.specs.declared.fault.Stop.{Stop}
use Rattle.fn_check.specs.declared.fault.Stop.TheVariants as stop
use Rattle.fn_check.specs.FirstFault.{first_fault}

-- The program where it has no fault, else the first one. Nothing is said where memory ran out.
abbrev pub Tells : {A : Type 0} → Result A CheckError → Option (ℕ × CheckKind) → Type 0
Tells (Ok a) fault = fault ≡ None
Tells (Err (error.Check item what)) fault = fault ≡ Some (item, what)
Tells (Err error.Memory) fault = Unit {0}

-- A part's check, which ends in this scope.
abbrev pub FindsIn : Result (Unit {0}) Stop → Result Scope CheckKind → Scope → Type 0
FindsIn (Ok u) check scope = check ≡ Ok scope
FindsIn (Err (stop.Fault fault)) check scope = check ≡ Err fault
FindsIn (Err stop.Memory) check scope = Unit {0}

-- the same of what leaves its scope
abbrev pub Finds : Result (Unit {0}) Stop → Result (Unit {0}) CheckKind → Type 0
Finds (Ok u) check = check ≡ Ok u
Finds (Err (stop.Fault fault)) check = check ≡ Err fault
Finds (Err stop.Memory) check = Unit {0}

-- What is answered for the item of this number.
abbrev pub Answers : Result (Unit {0}) CheckError → ℕ → Result (Unit {0}) Stop → Type 0
Answers (Ok u) number found = found ≡ Ok u
Answers (Err (error.Check item fault)) number found = (item ≡ number) × (found ≡ Err (stop.Fault fault))
Answers (Err error.Memory) number found = Unit {0}
