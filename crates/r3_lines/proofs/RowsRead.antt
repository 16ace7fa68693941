-- Rows that are read one after another.
use Rattle.std.proofs.Common.{◌≡◌, List, [], ◌∷◌, ◌++◌, Option, Some, None, refl, sym, ap, append_assoc}
use Rattle.std.specs.List.{AllByRecursion}
use Rattle.std.proofs.lemmas.List.{append-nil}
use Rattle.r3_value.specs.declared.value.Val.{Val}
use Rattle.r3_model.specs.Language.{Text}
use Rattle.r3_model.specs.Forms.{and_row}

-- these rows, and those behind them
abbrev pub behind : List (Text × Val) → Option (List (Text × Val)) → Option (List (Text × Val))
behind done None = None
behind done (Some rows) = Some (done ++ rows)

pub behind_none : (o : Option (List (Text × Val))) → behind [] o ≡ o
behind_none None = refl
behind_none (Some rows) = refl

pub behind_more : (done : List (Text × Val)) (r : Text × Val) (o : Option (List (Text × Val))) → behind done (and_row (Some r) o) ≡ behind (done ++ r ∷ []) o
behind_more done r None = refl
behind_more done r (Some rows) = ap (λ (rs : List (Text × Val)). Some rs) (sym (append_assoc done (r ∷ []) rows))

pub behind_all : (done : List (Text × Val)) → behind done (Some []) ≡ Some done
behind_all done = ap (λ (rs : List (Text × Val)). Some rs) (append-nil done)

pub all_more : {X : Type 0} (P : X → Type 0) (xs : List X) (x : X) → AllByRecursion P xs → P x → AllByRecursion P (xs ++ x ∷ [])
all_more P [] x all here = (here, tt)
all_more P (y ∷ ys) x all here = (all.0, all_more P ys x all.1 here)
