-- Which of an entry's writes are of a step.
use Rattle.std.proofs.Common.{◌≡◌, ℕ, suc, zero, ◌+◌, List, [], ◌∷◌, map, length, Option, Some, sym, ap, ◌∙◌, arith}
use Rattle.std.specs.Prelude.{slice_get}
use Rattle.r3_value.specs.declared.value.Val.{Val}
use Rattle.r3_rows.specs.declared.rows.Key.{Key}
use Rattle.r3_rows.specs.declared.rows.Key.TheVariants as keys
use Rattle.r3_rows.specs.declared.rows.Cell.{Cell}
use Rattle.r3_rows.specs.declared.rows.Cell.TheVariants as cells
use Rattle.r3_rows.specs.declared.rows.FlowRow.{FlowRow}
use Rattle.r3_rows.specs.declared.rows.StepRow.{StepRow}
use Rattle.fn_tree.specs.Writes.{Write as Put}
use Rattle.r3_model.specs.Language.{Text}
use Rattle.r3_model.specs.Acts.{Writes, put_write, row_write, step_write, flow_write, in_order}
use Rattle.r3_laws.proofs.After.{copies}
use Rattle.r3_laws.proofs.Loads.{AreRows, in_order-rows}

pub same-write : (w v : Key × Option Cell) → Some w ≡ Some v → w ≡ v
same-write w v is = cc

pub keys-same : (w v : Key × Option Cell) → Some w ≡ Some v → w.0 ≡ v.0
keys-same w v is = ap (λ (x : Key × Option Cell). x.0) (same-write w v is)

-- the parts of a step that is written
pub record SameStep (own id : Text) (m n : ℕ) (s r : StepRow) : Type 0 where
  pub ids : own ≡ id
  pub numbers : m ≡ n
  pub rows : s ≡ r

pub key-parts : (own id : Text) (m n : ℕ) → keys.Step own m ≡ keys.Step id n → (own ≡ id) × (m ≡ n)
key-parts own id m n is = (cc, cc)

pub row-part : (s r : StepRow) → Some (cells.Step s) ≡ Some (cells.Step r) → s ≡ r
row-part s r is = cc

pub same-step : (own id : Text) (m n : ℕ) (s r : StepRow) → step_write own m s ≡ step_write id n r → SameStep own id m n s r
same-step own id m n s r is =
    let k = key-parts own id m n (ap (λ (x : Key × Option Cell). x.0) is) in
    record { ids = k.0; numbers = k.1; rows = row-part s r (ap (λ (x : Key × Option Cell). x.1) is) }

module _ (id : Text) (n : ℕ) (r : StepRow) where
  abbrev IsAt : Writes → ℕ → Type 0
  IsAt ws j = slice_get ws j ≡ Some (step_write id n r)

  pub no-puts : {A : Type 0} (puts : List Put) (j : ℕ) → IsAt (map put_write puts) j → A
  no-puts [] j is = absurd cc
  no-puts (p ∷ ps) zero is = absurd (let z : keys.User p.0 p.1 ≡ keys.Step id n = keys-same (put_write p) (step_write id n r) is in cc)
  no-puts (p ∷ ps) (suc j) is = no-puts ps j is

  pub no-rows : {A : Type 0} (table : Text) (rows : List (Text × Val)) (j : ℕ) → IsAt (map (row_write table) rows) j → A
  no-rows table [] j is = absurd cc
  no-rows table (x ∷ xs) zero is = absurd (let z : keys.User table x.0 ≡ keys.Step id n = keys-same (row_write table x) (step_write id n r) is in cc)
  no-rows table (x ∷ xs) (suc j) is = no-rows table xs j is

  pub no-load : {A : Type 0} (table : Text) (rows : List (Text × Val)) (j : ℕ) → IsAt (in_order (map (row_write table) rows)) j → A
  no-load table [] j is = absurd cc
  no-load table (x ∷ xs) j is =
      let are : AreRows table (length (x ∷ xs)) (in_order (map (row_write table) (x ∷ xs))) = in_order-rows table (x ∷ xs) (omega arith) in
      no-rows table are.rows j (ap (λ (ws : Writes). slice_get ws j) (sym are.are) ∙ is)

  pub no-flow : {A : Type 0} (own : Text) (row : FlowRow) (j : ℕ) → IsAt (flow_write own row ∷ []) j → A
  no-flow own row zero is = absurd (let z : keys.Flow own ≡ keys.Step id n = keys-same (flow_write own row) (step_write id n r) is in cc)
  no-flow own row (suc j) is = absurd cc

  -- the one step of an entry of another kind
  pub no-step : {A : Type 0} (own : Text) (m : ℕ) (s : StepRow) (j : ℕ) → (s.kind ≡ r.kind → ⊥) → IsAt (step_write own m s ∷ []) j → A
  no-step own m s zero other is = absurd (other (ap (λ (x : StepRow). x.kind) (same-step own id m n s r (same-write (step_write own m s) (step_write id n r) is)).rows))
  no-step own m s (suc j) other is = absurd cc

  pub no-child : {A : Type 0} (child : Text) (row : FlowRow) (own : Text) (m : ℕ) (s : StepRow) (j : ℕ) → (s.kind ≡ r.kind → ⊥) → IsAt (flow_write child row ∷ step_write own m s ∷ []) j → A
  no-child child row own m s zero other is = absurd (let z : keys.Flow child ≡ keys.Step id n = keys-same (flow_write child row) (step_write id n r) is in cc)
  no-child child row own m s (suc j) other is = no-step own m s j other is

  pub record CopiedAt (own : Text) (k : ℕ) (rows : List StepRow) : Type 0 where
    pub id_is : own ≡ id
    pub place : ℕ
    pub number : k + place ≡ n
    pub there : slice_get rows place ≡ Some r

  pub copied_at : (own : Text) (k : ℕ) (rows : List StepRow) (j : ℕ) → IsAt (copies own k rows) j → CopiedAt own k rows
  copied_at own k [] j is = absurd cc
  copied_at own k (s ∷ ss) zero is =
      let same : SameStep own id k n s r = same-step own id k n s r (same-write (step_write own k s) (step_write id n r) is) in
      record { id_is = same.ids; place = 0; number = omega (arith, same.numbers); there = ap (λ (x : StepRow). Some x) same.rows }
  copied_at own k (s ∷ ss) (suc j) is = let later = copied_at own (k + 1) ss j is in record { id_is = later.id_is; place = suc later.place; number = omega (arith, later.number); there = later.there }
