-- A cell is missing where its row is.
use Rattle.std.proofs.Common.{◌≡◌, ℕ, List, ◌∷◌, ◌++◌}
use Rattle.r3_bytes.specs.Field.{BeginsNone}
use Rattle.r3_rows.specs.declared.rows.Cell.TheVariants as cells
use Rattle.r3_entry.specs.declared.fields.Miss.{Miss}
use Rattle.r3_entry.specs.Bytes as spell
use Rattle.r3_entry.specs.Limits.{IsFlow, IsCell}
use Rattle.r3_entry.specs.Parse.{Misses}
use Rattle.r3_entry.proofs.Parts.{misses}

flow_cell_none : (rest : List ℕ) → BeginsNone spell.flow_row IsFlow rest → BeginsNone spell.cell IsCell (1 ∷ rest)
flow_cell_none rest none (cells.Row v) after is e = absurd cc
flow_cell_none rest none (cells.Flow r) after is e =
    let tail : rest ≡ spell.flow_row r ++ after = cc in none r after is tail
flow_cell_none rest none (cells.Step r) after is e = absurd cc

pub flow_cell_misses : (bytes rest : List ℕ) (m : Miss) → bytes ≡ 1 ∷ rest → Misses spell.flow_row IsFlow rest m → Misses spell.cell IsCell bytes m
flow_cell_misses bytes rest m b h =
    rw b (misses spell.flow_row IsFlow rest spell.cell IsCell (1 ∷ rest) m (flow_cell_none rest) h)
