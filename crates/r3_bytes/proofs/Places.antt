-- Where a reader stands after a field.
use Rattle.std.proofs.Common.{◌≡◌, ℕ, ◌+◌, ◌-◌, ◌≤◌, List, ◌++◌, length, take, drop, refl, ap, ◌∙◌, sym, arith, length-append, length-drop}
use Rattle.std.proofs.lemmas.List.{drop-drop, drop_at, take_all}
use Rattle.r3_bytes.specs.Field.{Reads}

-- the bytes from the place on begin with the field
pub went_on : (bytes rest field : List ℕ) (at : ℕ) → at ≤ length bytes → take (length bytes - at) (drop at bytes) ≡ field ++ rest
    → Reads (record { at = at; rest = drop at bytes }) (record { at = length bytes - length rest; rest = drop (length bytes - length rest) bytes }) field
went_on bytes rest field at le h =
    let e : drop at bytes ≡ field ++ rest = sym (take_all (length bytes - at) (drop at bytes) (omega (arith, length-drop at bytes))) ∙ h in
    let long : length bytes - at ≡ length field + length rest = sym (length-drop at bytes) ∙ ap length e ∙ length-append field rest in
    let place : length bytes - length rest ≡ at + length field = omega arith in
    let back : drop (length bytes - length rest) bytes ≡ rest = rw place (sym (drop-drop (length field) at bytes) ∙ ap (λ (x : List ℕ). drop (length field) x) e ∙ drop_at field rest (length field) refl) in
    record { bytes = rw back e; place = place }
