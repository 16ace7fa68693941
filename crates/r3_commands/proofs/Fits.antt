-- A new workflow's ID that fits.
use Rattle.std.proofs.Common.{◌≡◌, List, ◌∷◌, Some, None, Bool, true, false, refl, sym, ap}
use Rattle.std.specs.Prelude.{not, if◌then◌else◌}
use Rattle.sys_flow.specs.declared.command.Refusal.{Refusal}
use Rattle.r3_model.specs.Language.{Text}
use Rattle.r3_model.specs.Given.{Given, unless, is_id}
use Rattle.r3_commands.specs.Drafts.{id_if_fits}

-- the first test doesn't refuse
pub passed : (b : Bool) (r : Refusal) (ts : List (Bool × Refusal)) (g : Given) → b ≡ true → unless ((not b, r) ∷ ts) g ≡ unless ts g
passed b r ts g is = ap (λ (x : Bool). unless ((not x, r) ∷ ts) g) is

fits-by : (b : Bool) (id x : Text) → (if b then Some id else None) ≡ Some x → (b ≡ true) × (x ≡ id)
fits-by true id x is = (refl, cc)
fits-by false id x is = absurd cc

-- it has 1 to 200 bytes
pub fits : (id x : Text) → Some x ≡ id_if_fits id → (is_id id ≡ true) × (x ≡ id)
fits id x is = fits-by (is_id id) id x (sym is)
