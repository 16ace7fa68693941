-- Which workflows' rows the writes of an entry leave alone.
use Rattle.std.proofs.Common.{◌≡◌, ℕ, Bool, true, false, ◌||◌, List, [], ◌∷◌, ◌++◌, map, length, Option, refl, ap, ◌∙◌, arith}
use Rattle.std.specs.Prelude.{bytes_eq}
use Rattle.std.specs.List.{list_any}
use Rattle.r3_value.specs.declared.value.Val.{Val}
use Rattle.r3_rows.specs.declared.rows.Key.{Key}
use Rattle.r3_rows.specs.declared.rows.Cell.{Cell}
use Rattle.r3_rows.specs.declared.rows.StepRow.{StepRow}
use Rattle.fn_tree.specs.Writes.{Write as Put}
use Rattle.r3_model.specs.Language.{Text}
use Rattle.r3_model.specs.Acts.{Writes, put_write, row_write, step_write, in_order}
use Rattle.r3_model.specs.Made.{is_own}
use Rattle.r3_laws.proofs.Loads.{AreRows, in_order-rows}

module _ (i : Text) where
  abbrev pub leaves : Writes → Bool
  leaves ws = list_any (λ (w : Key × Option Cell). is_own i w.0) ws

  or_both : (a b : Bool) → a ≡ false → b ≡ false → (a || b) ≡ false
  or_both false b p q = q
  or_both true b p q = absurd cc

  -- a row of another workflow, and what follows it
  pub other-first : (id : Text) (ws : Writes) → bytes_eq id i ≡ false → leaves ws ≡ false → (bytes_eq id i || leaves ws) ≡ false
  other-first id ws other rest = or_both (bytes_eq id i) (leaves ws) other rest

  pub puts-leave : (puts : List Put) (rest : Writes) → leaves rest ≡ false → leaves (map put_write puts ++ rest) ≡ false
  puts-leave [] rest quiet = quiet
  puts-leave (p ∷ ps) rest quiet = puts-leave ps rest quiet

  rows-leave : (table : Text) (rows : List (Text × Val)) → leaves (map (row_write table) rows) ≡ false
  rows-leave table [] = refl
  rows-leave table (r ∷ rs) = rows-leave table rs

  pub load-leaves : (table : Text) (rows : List (Text × Val)) → leaves (in_order (map (row_write table) rows)) ≡ false
  load-leaves table [] = refl
  load-leaves table (r ∷ rs) =
      let are : AreRows table (length (r ∷ rs)) (in_order (map (row_write table) (r ∷ rs))) = in_order-rows table (r ∷ rs) (omega arith) in
      ap leaves are.are ∙ rows-leave table are.rows

  pub steps-leave : (id : Text) (steps : List (ℕ × StepRow)) → bytes_eq id i ≡ false → leaves (map (λ (s : ℕ × StepRow). step_write id s.0 s.1) steps) ≡ false
  steps-leave id [] other = refl
  steps-leave id (s ∷ ss) other = other-first id (map (λ (s : ℕ × StepRow). step_write id s.0 s.1) ss) other (steps-leave id ss other)
