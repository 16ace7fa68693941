-- What holds of each write of a workflow's row, and of the row before, holds of the row afterwards.
use Rattle.std.proofs.Common.{◌≡◌, ℕ, Bool, true, false, cond, List, [], ◌∷◌, ◌++◌, map, length, Option, refl, sym, subst, arith}
use Rattle.std.specs.List.{AllByRecursion}
use Rattle.std.specs.Ordering.{eq_by_cmp}
use Rattle.r3_value.specs.declared.value.Val.{Val}
use Rattle.r3_rows.specs.declared.rows.Key.{Key}
use Rattle.r3_rows.specs.declared.rows.Key.TheVariants as keys
use Rattle.r3_rows.specs.declared.rows.Cell.{Cell}
use Rattle.r3_rows.specs.declared.rows.StepRow.{StepRow}
use Rattle.r3_rows.specs.Keys.{key_cmp}
use Rattle.r3_rows.specs.KeyOrder.{key_cmp-same}
use Rattle.r3_entry.specs.declared.entry.Entry.{Entry}
use Rattle.r3_entry.specs.History.{cell_at}
use Rattle.fn_tree.specs.Writes.{Write as Put}
use Rattle.r3_model.specs.Language.{Text}
use Rattle.r3_model.specs.Acts.{Writes, put_write, row_write, step_write, in_order}
use Rattle.r3_laws.proofs.After.{after, cell-after, tied}
use Rattle.r3_laws.proofs.Loads.{AreRows, in_order-rows}

pub no-step : {A : Type 0} (id own : Text) (n : ℕ) → keys.Step own n ≡ keys.Flow id → A
no-step id own n same = absurd (let z : keys.Step own n ≡ keys.Flow id = same in cc)

module _ (A : Option Cell → Type 0) (id : Text) where
  -- of the workflow's own row
  abbrev pub Holds : Key × Option Cell → Type 0
  Holds w = w.0 ≡ keys.Flow id → A w.1

  abbrev pub AllHold : Writes → Type 0
  AllHold ws = AllByRecursion Holds ws

  one-holds : (w : Key × Option Cell) (c : Option Cell) (b : Bool) → eq_by_cmp key_cmp (keys.Flow id) w.0 ≡ b → Holds w → A c → A (cond b w.1 c)
  one-holds w c true is holds a = holds (sym (key_cmp-same (keys.Flow id) w.0 (tied (key_cmp (keys.Flow id) w.0) is)))
  one-holds w c false is holds a = a

  writes-hold : (ws : Writes) (c : Option Cell) → AllHold ws → A c → A (after ws (keys.Flow id) c)
  writes-hold [] c all a = a
  writes-hold (w ∷ ws) c all a = writes-hold ws (cond (eq_by_cmp key_cmp (keys.Flow id) w.0) w.1 c) all.1 (one-holds w c (eq_by_cmp key_cmp (keys.Flow id) w.0) refl all.0 a)

  pub entry-holds : (h : List Entry) (e : Entry) → AllHold e.writes → A (cell_at h (length h) (keys.Flow id)) → A (cell_at (h ++ e ∷ []) (length (h ++ e ∷ [])) (keys.Flow id))
  entry-holds h e all a = subst A (sym (cell-after h e (keys.Flow id))) (writes-hold e.writes (cell_at h (length h) (keys.Flow id)) all a)

  -- ---- writes of other rows

  user-holds : (table key : Text) (c : Option Cell) → Holds (keys.User table key, c)
  user-holds table key c same = absurd (let z : keys.User table key ≡ keys.Flow id = same in cc)

  step-holds : (own : Text) (n : ℕ) (c : Option Cell) → Holds (keys.Step own n, c)
  step-holds own n c same = no-step id own n same

  pub puts-hold : (puts : List Put) (rest : Writes) → AllHold rest → AllHold (map put_write puts ++ rest)
  puts-hold [] rest all = all
  puts-hold (p ∷ ps) rest all = (user-holds p.0 p.1 (put_write p).1, puts-hold ps rest all)

  rows-hold : (table : Text) (rows : List (Text × Val)) → AllHold (map (row_write table) rows)
  rows-hold table [] = tt
  rows-hold table (r ∷ rs) = (user-holds table r.0 (row_write table r).1, rows-hold table rs)

  pub load-holds : (table : Text) (rows : List (Text × Val)) → AllHold (in_order (map (row_write table) rows))
  load-holds table [] = tt
  load-holds table (r ∷ rs) =
      let are : AreRows table (length (r ∷ rs)) (in_order (map (row_write table) (r ∷ rs))) = in_order-rows table (r ∷ rs) (omega arith) in
      subst AllHold (sym are.are) (rows-hold table are.rows)

  pub steps-hold : (own : Text) (steps : List (ℕ × StepRow)) → AllHold (map (λ (s : ℕ × StepRow). step_write own s.0 s.1) steps)
  steps-hold own [] = tt
  steps-hold own (s ∷ ss) = (step-holds own s.0 (step_write own s.0 s.1).1, steps-hold own ss)
