-- No row stands under a key that is too long.
use Rattle.std.proofs.Common.{◌≡◌, ℕ, ◌≤◌, ◌<◌, List, [], ◌∷◌, length, Option, Some, None, ap, arith}
use Rattle.std.specs.Prelude.{option_and_then}
use Rattle.std.specs.List.{AllByRecursion}
use Rattle.r3_rows.specs.declared.rows.Key.{Key}
use Rattle.r3_rows.specs.declared.rows.Key.TheVariants as keys
use Rattle.r3_rows.specs.declared.rows.Cell.{Cell}
use Rattle.r3_entry.specs.declared.entry.Entry.{Entry}
use Rattle.r3_entry.specs.Formed.{IsFormed}
use Rattle.r3_entry.specs.History.{cell_at}
use Rattle.r3_entry.specs.Limits.{IsEntry, IsKey, IsWrite}
use Rattle.r3_model.specs.Language.{Text}
use Rattle.r3_model.specs.Rows.{flow_of, user_of, flow_at, row_at}
use Rattle.r3_laws.proofs.Cells.{AllWrites, cell-holds}

all-writes : (h : List Entry) → AllByRecursion IsEntry h → AllWrites IsWrite h
all-writes [] all = tt
all-writes (e ∷ es) all = (all.0.writes, all-writes es all.1)

no-cell-by : (h : List Entry) (k : ℕ) (q : Key) (o : Option Cell) → cell_at h k q ≡ o → IsFormed h → (IsKey q → ⊥) → cell_at h k q ≡ None
no-cell-by h k q None is formed long = is
no-cell-by h k q (Some c) is formed long = absurd (long (cell-holds IsWrite h k q c (all-writes h formed.limits) is).0)

no-cell : (h : List Entry) (k : ℕ) (q : Key) → IsFormed h → (IsKey q → ⊥) → cell_at h k q ≡ None
no-cell h k q formed long = no-cell-by h k q (cell_at h k q) (λ i. cell_at h k q) formed long

pub long_flow : (h : List Entry) (k : ℕ) (id : Text) → IsFormed h → 200 < length id → flow_at h k id ≡ None
long_flow h k id formed long =
    ap (λ (o : Option Cell). option_and_then flow_of o) (no-cell h k (keys.Flow id) formed (λ is. let short : length id ≤ 200 = is.short in absurd (omega arith)))

pub long_table : (h : List Entry) (k : ℕ) (table key : Text) → IsFormed h → 64 < length table → row_at h k table key ≡ None
long_table h k table key formed long =
    ap (λ (o : Option Cell). option_and_then user_of o) (no-cell h k (keys.User table key) formed (λ is. let short : length table ≤ 64 = is.0.short in absurd (omega arith)))

pub long_key : (h : List Entry) (k : ℕ) (table key : Text) → IsFormed h → 256 < length key → row_at h k table key ≡ None
long_key h k table key formed long =
    ap (λ (o : Option Cell). option_and_then user_of o) (no-cell h k (keys.User table key) formed (λ is. let short : length key ≤ 256 = is.1.short in absurd (omega arith)))
