-- The first fault, in the order of the text.
use Rattle.std.specs.Prelude.{◌≡◌, Bool, true, false, Result, Ok, Err, List, [], ◌∷◌}
use Rattle.fn_tree.specs.Soundness.{Scope}
use Rattle.fn_check.specs.declared.fault.CheckKind.{CheckKind}

-- what is found in a scope: Ok where there is no fault, else the first one
abbrev pub Check : Type 0
Check = Scope → Result (Unit {0}) CheckKind

-- the same of a statement, which leaves a scope behind
abbrev pub Binding : Type 0
Binding = Scope → Result Scope CheckKind

-- one part stands before the other
abbrev pub then_ : {A B : Type 0} → Result A CheckKind → (A → Result B CheckKind) → Result B CheckKind
then_ (Ok a) next = next a
then_ (Err fault) next = Err fault

-- one test at a token
abbrev pub needs : Bool → CheckKind → Result (Unit {0}) CheckKind
needs true fault = Ok tt
needs false fault = Err fault

abbrev pub none : Result (Unit {0}) CheckKind
none = Ok tt
