-- What is told of a text holds of what is copied from it.
use Rattle.std.proofs.Common.{◌≡◌, ℕ, ◌<◌, ◌≤◌, ◌↔◌, List, length, Option, Some, Result, Ok, Err, IfOk, OnOk, IsErrOf, refl, sym, ◌∙◌, subst, arith}
use Rattle.std.specs.Option.{ForSome}
use Rattle.r3_desk.specs.declared.shelf.ShelfFault.{ShelfFault}
use Rattle.r3_desk.specs.declared.shelf.ShelfFault.TheVariants.{Fault, TooLong, Memory}

pub whole_told : {V : Type 0} (items : V → List ℕ) (r : Result V ShelfFault) (told : Option (List ℕ)) (text : List ℕ) → told ≡ Some text
    → IfOk r (λ v. items v ≡ text) → IfOk r (λ v. ForSome told (λ t. items v ≡ t))
whole_told items (Ok v) told text is copied = λ t was. copied ∙ (let e : Some text ≡ Some t = sym is ∙ was in cc)
whole_told items (Err e) told text is copied = tt

long_is : {V : Type 0} (r : Result V ShelfFault) (limit n : ℕ) → OnOk r (n ≤ limit) → (IsErrOf r TooLong → limit < n)
    → (IsErrOf r Fault → ⊥) → (IsErrOf r Memory → ⊥) → IsErrOf r TooLong ↔ (limit < n)
long_is (Ok v) limit n within long no_fault no_memory = (λ e. absurd cc, λ lt. absurd (omega (arith, within, lt)))
long_is (Err Fault) limit n within long no_fault no_memory = absurd (no_fault refl)
long_is (Err TooLong) limit n within long no_fault no_memory = (λ e. long refl, λ lt. refl)
long_is (Err Memory) limit n within long no_fault no_memory = absurd (no_memory refl)

pub long_told : {V : Type 0} (r : Result V ShelfFault) (told : Option (List ℕ)) (text : List ℕ) (limit : ℕ) → told ≡ Some text
    → OnOk r (length text ≤ limit) → (IsErrOf r TooLong → limit < length text)
    → (IsErrOf r Fault → ⊥) → (IsErrOf r Memory → ⊥) → ForSome told (λ t. IsErrOf r TooLong ↔ (limit < length t))
long_told r told text limit is within long no_fault no_memory = λ t was.
    let e : Some text ≡ Some t = sym is ∙ was in
    let same : text ≡ t = cc in
    subst (λ (l : List ℕ). IsErrOf r TooLong ↔ (limit < length l)) same (long_is r limit (length text) within long no_fault no_memory)
