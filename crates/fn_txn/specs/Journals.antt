-- What a transaction records: a look, and a write.
use Rattle.std.specs.Prelude.{◌≡◌, ◌≤◌, ℕ, ◌+◌, Bool, true, false, List, [], ◌∷◌, ◌++◌, length, codes, nat_lt, if◌then◌else◌, Option, Some, None}
use Rattle.r3_value.specs.declared.value.Val.{Val}
use Rattle.fn_tree.specs.declared.look.Look.{Look}
use Rattle.fn_tree.specs.Ends.{At, Ends, Goes, Failed}
use Rattle.fn_tree.specs.Writes.{Log, Never, with_write}
use Rattle.fn_tree.specs.Looks.{items_of_look, read_items, contains_look}
use Rattle.fn_txn.specs.declared.row_key.RowKey.{RowKey}
use Rattle.fn_txn.specs.declared.look_place.LookPlace.{LookPlace}
use Rattle.fn_txn.specs.LookPlaces.{IsIndex}

-- the looks' number of items and their places are known, and the limits are kept
pub record IsKept (looks : List Look) (items : ℕ) (places : List LookPlace) (writes : List (RowKey × Option Val)) : Type 0 where
  pub counted : items ≡ read_items looks
  pub indexed : IsIndex looks places
  pub few : items ≤ 4096
  pub few_keys : length writes ≤ 1024

-- what is recorded after a look, unless it passes the limit
abbrev pub looked : Look → Log → Option Log
looked l log =
    if contains_look log.looks l then Some log
    else if nat_lt 4096 (read_items log.looks + items_of_look l) then None
    else Some (record { looks = log.looks ++ l ∷ []; writes = log.writes })

-- what is recorded after a write, unless it passes the limit
abbrev pub wrote_key : RowKey → Option Val → Log → Option Log
wrote_key key left log =
    let writes = with_write log.writes key.table key.key left in
    if nat_lt 1024 (length writes) then None else Some (record { looks = log.looks; writes = writes })

-- it was recorded, or passed the limit and nothing changed
abbrev pub Recorded : Bool → Option Log → Log → Log → Type 0
Recorded true after old new = after ≡ Some new
Recorded false after old new = (after ≡ None) × (new ≡ old)

-- goes on with what was recorded, or fails
abbrev pub kept_or_size : Option Log → At Log → Ends Never Log (Unit {0})
kept_or_size (Some log) at = Goes tt (record at { world = log })
kept_or_size None at = Failed (codes "size") at

-- the number of read items with a look more, unless it passes the limit
abbrev pub total_with : Look → ℕ → Option ℕ
total_with l items = if nat_lt 4096 (items + items_of_look l) then None else Some (items + items_of_look l)
