-- The order of keys: by kind, then by their fields.
use Rattle.std.specs.Prelude.{ℕ, List, []}
use Rattle.std.specs.Ordering.{nat_cmp, on, then_cmp}
use Rattle.std.specs.Cmp.Lexicographic.{slice_cmp}
use Rattle.std.specs.declared.cmp.Ordering.{Ordering}
use Rattle.r3_rows.specs.declared.rows.Key.{Key}
use Rattle.r3_rows.specs.declared.rows.Key.TheVariants.{User, Flow, Step}

abbrev pub kind : Key → ℕ
kind (User table key) = 0
kind (Flow id) = 1
kind (Step id n) = 2

-- a table or an ID
abbrev pub owner : Key → List ℕ
owner (User table key) = table
owner (Flow id) = id
owner (Step id n) = id

abbrev pub row_key : Key → List ℕ
row_key (User table key) = key
row_key (Flow id) = []
row_key (Step id n) = []

abbrev pub number_of : Key → ℕ
number_of (User table key) = 0
number_of (Flow id) = 0
number_of (Step id n) = n

abbrev pub bytes_cmp : List ℕ → List ℕ → Ordering
bytes_cmp = slice_cmp nat_cmp

abbrev pub key_cmp : Key → Key → Ordering
key_cmp = then_cmp (on kind nat_cmp) (then_cmp (on owner bytes_cmp) (then_cmp (on row_key bytes_cmp) (on number_of nat_cmp)))
