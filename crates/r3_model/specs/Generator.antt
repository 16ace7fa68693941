-- The script that the generator runs, and its summary.
use Rattle.std.specs.Prelude.{ℕ, suc, zero, ℤ, pos, ◌+◌, ◌*◌, ◌/◌, ◌%◌, ◌^◌, ◌==◌, ◌+ℤ◌, Bool, true, false, List, [], ◌∷◌, ◌++◌, length, map, fold, count_by, Option, Some, None, if◌then◌else◌, codes, decimal}
use Rattle.serde_json.specs.Data.{Data, number, object, no_members, member}
use Rattle.serde_json.specs.Find.{of_integer}
use Rattle.r3_value.specs.Value.{no_items, item}
use Rattle.r3_value.specs.Value as value
use Rattle.r3_value.specs.declared.value.Val.{Val}
use Rattle.r3_value.specs.declared.value.Val.TheVariants as vals
use Rattle.r3_rows.specs.declared.rows.FlowRow.{FlowRow}
use Rattle.r3_rows.specs.declared.rows.Status.{Status}
use Rattle.r3_rows.specs.declared.rows.Status.TheVariants as status
use Rattle.r3_entry.specs.declared.entry.Entry.{Entry}
use Rattle.sys_flow.specs.declared.command.Command.TheVariants.{Load, Start}
use Rattle.r3_model.specs.Language.{Text}
use Rattle.r3_model.specs.Event.{Event, Run}
use Rattle.r3_model.specs.Replies.{count}
use Rattle.r3_model.specs.Rows.{row_at, flow_at}
use Rattle.r3_model.specs.Script.{Line, Does, Drain}

-- the number that is kept, after one draw
abbrev pub drawn : ℕ → ℕ
drawn x = (x * 25214903917 + 11) % 2 ^ 48

-- what the draw gives
abbrev pub draw_of : ℕ → ℕ
draw_of x = x / 2 ^ 16

-- the numbers from i on, n of them
abbrev pub numbers : ℕ → ℕ → List ℕ
numbers i zero = []
numbers i (suc n) = i ∷ numbers (i + 1) n

abbrev pub account : ℕ → Text
account i = codes "a" ++ decimal i

abbrev pub flow_id : ℕ → Text
flow_id i = codes "g" ++ decimal i

abbrev pub accounts : Line
accounts = Does (Run (Load (codes "acct") (map (λ i. (account i, vals.Int (pos 1000))) (numbers 0 64))))

-- a transfer from one account to another, by three draws
abbrev pub transfer : ℕ → ℕ → ℕ → ℕ → Line
transfer i x y z =
    Does (Run (Start (Some (flow_id i)) (codes "send")
    (vals.List (item (value.text (account (draw_of x % 64)))
    (item (value.text (account (draw_of y % 64)))
    (item (value.integer (pos (1 + draw_of z % 100))) no_items))))))

-- a drain follows each eighth start, and the last one
abbrev pub drain_after : ℕ → ℕ → List Line
drain_after i zero = Drain 1000 ∷ []
drain_after i (suc left) = if (i + 1) % 8 == 0 then Drain 1000 ∷ [] else []

abbrev pub transfers : ℕ → ℕ → ℕ → List Line
transfers i zero x = []
transfers i (suc left) x =
    let y = drawn x in
    let z = drawn y in
    let w = drawn z in
    transfer i y z w ∷ (drain_after i left ++ transfers (i + 1) left w)

-- the lines for a first number and a count of starts
abbrev pub generated : ℕ → ℕ → List Line
generated first starts = accounts ∷ transfers 0 starts first

-- ---- the summary

abbrev pub is_success : Option FlowRow → Bool
is_success None = false
is_success (Some row) = elim row.status [
  | status.Success ↦ true
  | status.Enqueued ↦ false
  | status.Pending ↦ false
  | status.Error ↦ false
  | status.Cancelled ↦ false
  | status.MaxRecoveryAttemptsExceeded ↦ false
]

-- a row that is no Int counts nothing
abbrev pub amount : Option Val → ℤ
amount (Some (vals.Int z)) = z
amount v = pos 0

abbrev pub successes : List Entry → ℕ → ℕ
successes h starts = count_by (λ i. is_success (flow_at h (length h) (flow_id i))) (numbers 0 starts)

abbrev pub total : List Entry → ℤ
total h = fold (λ (sum : ℤ) i. sum +ℤ amount (row_at h (length h) (codes "acct") (account i))) (pos 0) (numbers 0 64)

abbrev pub summary : List Entry → ℕ → Data
summary h starts = object
    (member (codes "entries") (count (length h))
    (member (codes "success") (count (successes h starts))
    (member (codes "sum") (number (of_integer (total h))) no_members)))
