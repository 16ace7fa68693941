-- The generator's summary, by its three numbers.
use Rattle.std.specs.Prelude.{ℕ, ℤ, codes}
use Rattle.serde_json.specs.Data.{Data, number, object, no_members, member}
use Rattle.serde_json.specs.Find.{of_integer}
use Rattle.r3_model.specs.Replies.{count}

-- the number of entries, of the workflows that succeeded, and the sum of the accounts
abbrev pub summary_data : ℕ → ℕ → ℤ → Data
summary_data entries success sum = object
    (member (codes "entries") (count entries)
    (member (codes "success") (count success)
    (member (codes "sum") (number (of_integer sum)) no_members)))
