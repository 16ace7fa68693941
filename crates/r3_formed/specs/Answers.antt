-- What a history tells beside its map.
use Rattle.std.specs.Prelude.{ℕ, ◌+◌, List, [], ◌∷◌, ◌++◌, length, Option, Some, None, String, string_bytes}
use Rattle.std.specs.List.{filter_map}
use Rattle.std.specs.declared.alloc.Global.{Global}
use Rattle.r3_rows.specs.declared.rows.Key.{Key}
use Rattle.r3_rows.specs.declared.rows.Key.TheVariants.{User, Flow, Step}
use Rattle.r3_entry.specs.declared.entry.Act.{Act}
use Rattle.r3_entry.specs.declared.entry.Act.TheVariants as acts
use Rattle.r3_entry.specs.declared.entry.Entry.{Entry}
use Rattle.r3_entry.specs.History.{Write, map_at}

-- the text by which a key is told: a row's key, or a workflow's ID
abbrev pub name : Key → List ℕ
name (User table key) = key
name (Flow id) = id
name (Step id n) = id

abbrev pub flow_in : Key × Write → Option (List ℕ)
flow_in (Flow id, (j, Some cell)) = Some id
flow_in (Flow id, (j, None)) = None
flow_in (User table key, w) = None
flow_in (Step id n, w) = None

-- the IDs that have a flow row, in byte order
abbrev pub flow_ids : List Entry → List (List ℕ)
flow_ids h = filter_map flow_in (map_at h (length h))

abbrev pub text_at : ℕ → Act → List (ℕ × List ℕ)
text_at j (acts.Program text) = (j, text) ∷ []
text_at j a = []

abbrev pub texts_from : ℕ → List Entry → List (ℕ × List ℕ)
texts_from j [] = []
texts_from j (e ∷ es) = text_at j e.act ++ texts_from (j + 1) es

-- the number and the text of each Program entry
abbrev pub program_texts : List Entry → List (ℕ × List ℕ)
program_texts h = texts_from 1 h

-- a number and a text, as they are kept
abbrev pub text_of : ℕ × String Global → ℕ × List ℕ
text_of p = (p.0, string_bytes p.1)
