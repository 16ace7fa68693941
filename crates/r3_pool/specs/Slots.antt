-- What contracts see of a pool: a finite map from slots to values.
use Rattle.std.specs.Prelude.{◌≡◌, ◌≢◌, ℕ, ◌+◌, ◌-◌, suc, zero, List, [], ◌∷◌, ◌++◌, length, take, Option, Some, None, is_some, slice_set, slice_index_or, count_by, refl}
use Rattle.std.specs.Coded.{Coded, code_by, coded×, coded_ℕ, coded_list, coded_option}

pub record Slots (T : Type 0) : Type 0 where
  -- what each slot holds that was ever used, or None where it was freed
  pub cells : List (Option T)
  -- the freed slots, the one freed last at the end
  pub freed : List ℕ
  pub cap : ℕ
  -- so many calls of `put` take no memory
  pub spare : ℕ

-- the slots are stored as the tuple of their fields
abbrev pub slots_code : {T : Type 0} → Coded T → Coded (Slots T)
slots_code {T} code =
    code_by (List (Option T) × (List ℕ × (ℕ × ℕ)))
    (coded× (coded_list (coded_option code)) (coded× (coded_list coded_ℕ) (coded× coded_ℕ coded_ℕ)))
    (λ p. (p.cells, (p.freed, (p.cap, p.spare))))
    (λ q. record { cells = q.0; freed = q.1.0; cap = q.1.1.0; spare = q.1.1.1 })
    (λ _. refl)

module _ {T : Type 0} where
  abbrev pub value_at : Slots T → ℕ → Option T
  value_at p slot = slice_index_or p.cells slot None

  -- how many slots are in use
  abbrev pub live_count : Slots T → ℕ
  live_count p = count_by is_some p.cells

  -- the slot freed last, else the least that was never used
  abbrev pub next_slot : Slots T → ℕ
  next_slot p = slice_index_or p.freed (length p.freed - 1) (length p.cells)

  abbrev pub empty : ℕ → Slots T
  empty cap = record { cells = []; freed = []; cap = cap; spare = 0 }

  abbrev pub with_spare : Slots T → ℕ → Slots T
  with_spare p n = record { cells = p.cells; freed = p.freed; cap = p.cap; spare = n }

  -- the cells with this one set, and one more where it is the next
  abbrev pub set_cell : List (Option T) → ℕ → Option T → List (Option T)
  set_cell [] slot c = c ∷ []
  set_cell (x ∷ xs) zero c = c ∷ xs
  set_cell (x ∷ xs) (suc slot) c = x ∷ set_cell xs slot c

  abbrev pub after_put : Slots T → T → Slots T
  after_put p x = record {
    cells = set_cell p.cells (next_slot p) (Some x);
    freed = take (length p.freed - 1) p.freed;
    cap = p.cap;
    spare = p.spare - 1;
  }

  abbrev pub after_take : Slots T → ℕ → Slots T
  after_take p slot = record {
    cells = slice_set p.cells slot None;
    freed = p.freed ++ slot ∷ [];
    cap = p.cap;
    spare = p.spare + 1;
  }

  -- the slot, which was free, holds the value, and no other one has changed
  pub record Fills (old new : Slots T) (slot : ℕ) (value : T) : Type 0 where
    pub was_free : value_at old slot ≡ None
    pub holds : value_at new slot ≡ Some value
    pub others : (t : ℕ) → t ≢ slot → value_at new t ≡ value_at old t
    pub live : live_count new ≡ live_count old + 1

  -- the slot is free, and no other one has changed
  pub record Empties (old new : Slots T) (slot : ℕ) : Type 0 where
    pub free : value_at new slot ≡ None
    pub others : (t : ℕ) → t ≢ slot → value_at new t ≡ value_at old t
    pub live : live_count new + 1 ≡ live_count old
