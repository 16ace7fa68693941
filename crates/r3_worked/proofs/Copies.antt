-- Worked cases of copies: what a changed program leaves unchanged, which bodies are copied, and which copies are doubtful.
use Rattle.std.proofs.Common.{◌≡◌, ℕ, Bool, true, false, List, [], ◌∷◌, ◌++◌, length, replicate, Option, Some, None, refl, sym, ap, subst, pos, arith}
use Rattle.std.specs.Prelude.{codes, bytes_eq, find, unwrap_or}
use Rattle.r3_value.specs.declared.value.Val.{Val}
use Rattle.r3_value.specs.declared.value.Val.TheVariants.{Null}
use Rattle.r3_rows.specs.declared.rows.Key.{Key}
use Rattle.r3_rows.specs.declared.rows.Key.TheVariants as keys
use Rattle.r3_rows.specs.declared.rows.Cell.{Cell}
use Rattle.r3_rows.specs.declared.rows.Read.{Read}
use Rattle.r3_rows.specs.declared.rows.Read.TheVariants.{At, Range}
use Rattle.r3_rows.specs.declared.rows.StepKind.TheVariants as kinds
use Rattle.r3_entry.specs.declared.entry.Act.TheVariants as acts
use Rattle.r3_entry.specs.declared.entry.Entry.{Entry}
use Rattle.fn_tree.specs.declared.expr.Expr.{Expr, roll-Expr}
use Rattle.fn_tree.specs.declared.expr.Expr.TheOpen.{Expr-F}
use Rattle.fn_tree.specs.declared.stmt.Rhs.TheVariants as rhs
use Rattle.fn_tree.specs.declared.stmt.Stmt.{Stmt, roll-Stmt}
use Rattle.fn_tree.specs.declared.stmt.Stmt.TheOpen.{Stmt-F}
use Rattle.fn_tree.specs.declared.stmt.Stmt.TheFolds.{map-Stmt, fold-Stmt, fold-roll-Stmt}
use Rattle.fn_tree.specs.declared.program.Item.{Item}
use Rattle.fn_tree.specs.declared.program.Item.TheVariants as items
use Rattle.fn_tree.specs.declared.flow.AskKind.TheVariants as asking
use Rattle.r3_model.specs.Language.{Text}
use Rattle.r3_model.specs.Bodies.{Body}
use Rattle.r3_model.specs.Copied.{IsUnchanged, is_txn_of, helpers_of, scanned_among, same_row, same_range, same_look, is_copied, tables_of, present_in, passes_limit, is_doubtful}
use Rattle.r3_model.proofs.WorkedReplay.{int, m1, plain, row, step_row, args_m1, args_d1}

-- ---- trees

abbrev num : ℕ → Expr
num n = roll-Expr (Expr-F.Int (pos n))

abbrev gives : ℕ → Stmt
gives n = roll-Stmt (Stmt-F.Return (num n))

abbrev pay : List Stmt → Item
pay body = items.Txn false (codes "pay") (codes "a" ∷ []) body

abbrev take : Item
take = items.Txn false (codes "take") (codes "a" ∷ []) (gives 2 ∷ [])

abbrev fee : List Text → Item
fee params = items.Helper (codes "fee") params (num 1)

abbrev program : List Stmt → List Text → List Item
program body params = items.Table (codes "acct") ∷ fee params ∷ pay body ∷ take ∷ []

-- ---- unchanged transactions

-- the same transaction and the same helpers: a workflow and another transaction don't matter
another_one_changed : IsUnchanged (Some (program (gives 1 ∷ []) [])) (items.Flow (codes "f") [] [] ∷ program (gives 1 ∷ gives 2 ∷ []) []) (codes "take")
another_one_changed = record { items = program (gives 1 ∷ []) []; accepted = refl; txn = refl; helpers = refl }

abbrev pub statements : Option Item → ℕ
statements (Some (items.Txn serial name params body)) = length body
statements i = 0

abbrev params : List Item → ℕ
params (items.Helper name ps body ∷ is) = length ps
params is = 0

abbrev pub stored : List Item
stored = program (gives 1 ∷ []) []

pub accepted_as : (changed : List Item) (name : Text) (u : IsUnchanged (Some stored) changed name) → u.items ≡ stored
accepted_as changed name u = ap (λ (o : Option (List Item)). unwrap_or o []) (sym u.accepted)

abbrev pub longer : List Item
longer = program (gives 1 ∷ gives 2 ∷ []) []

its_body_changed : IsUnchanged (Some stored) longer (codes "pay") → ⊥
its_body_changed u =
    let z : find (is_txn_of (codes "pay")) stored ≡ find (is_txn_of (codes "pay")) longer =
    subst (λ (is : List Item). find (is_txn_of (codes "pay")) is ≡ find (is_txn_of (codes "pay")) longer) (accepted_as longer (codes "pay") u) u.txn in
    let n : 1 ≡ 2 = ap statements z in
    absurd (omega (arith, n))

-- it calls no helper, which makes no difference
abbrev helped : List Item
helped = program (gives 1 ∷ []) (codes "x" ∷ [])

a_helper_changed : IsUnchanged (Some stored) helped (codes "pay") → ⊥
a_helper_changed u =
    let z : helpers_of stored ≡ helpers_of helped = subst (λ (is : List Item). helpers_of is ≡ helpers_of helped) (accepted_as helped (codes "pay") u) u.helpers in
    let n : 0 ≡ 1 = ap params z in
    absurd (omega (arith, n))

-- a transaction that is gone has changed
abbrev gone : List Item
gone = items.Table (codes "acct") ∷ fee [] ∷ take ∷ []

it_is_gone : IsUnchanged (Some stored) gone (codes "pay") → ⊥
it_is_gone u =
    let z : find (is_txn_of (codes "pay")) stored ≡ find (is_txn_of (codes "pay")) gone =
    subst (λ (is : List Item). find (is_txn_of (codes "pay")) is ≡ find (is_txn_of (codes "pay")) gone) (accepted_as gone (codes "pay") u) u.txn in
    let n : 1 ≡ 0 = ap statements z in
    absurd (omega (arith, n))

-- the stored program isn't accepted
abbrev is_there : Option (List Item) → ℕ
is_there None = 0
is_there (Some is) = 1

no_stored_program : IsUnchanged None stored (codes "pay") → ⊥
no_stored_program u = let z : 0 ≡ 1 = ap is_there u.accepted in absurd (omega (arith, z))

-- ---- the tables that a body scans

scans_roll : (x : Stmt-F Stmt) → fold-Stmt (List Text) scanned_among (roll-Stmt x) ≡ scanned_among (map-Stmt Stmt (List Text) (fold-Stmt (List Text) scanned_among) x)
scans_roll x = fold-roll-Stmt (List Text) scanned_among x

abbrev scans : Text → Stmt
scans table = roll-Stmt (Stmt-F.Let (codes "s") (rhs.Scan table (num 1) (num 2)))

nested_scans : tables_of (Some (pay (scans (codes "a") ∷ roll-Stmt (Stmt-F.If (num 1) (scans (codes "b") ∷ []) (Some (scans (codes "c") ∷ [])))
    ∷ roll-Stmt (Stmt-F.While (num 1) (scans (codes "d") ∷ [])) ∷ roll-Stmt (Stmt-F.Each (codes "x") (num 1) (scans (codes "e") ∷ []))
    ∷ roll-Stmt (Stmt-F.Try (scans (codes "f") ∷ []) (codes "w") (scans (codes "g") ∷ [])) ∷ [])))
    ≡ codes "a" ∷ codes "b" ∷ codes "c" ∷ codes "d" ∷ codes "e" ∷ codes "f" ∷ codes "g" ∷ []
nested_scans = simp scans_roll

-- an item that is no transaction scans none
no_scans : (tables_of (Some take) ≡ []) × (tables_of (Some (fee [])) ≡ []) × (tables_of None ≡ [])
no_scans = (simp scans_roll, refl, refl)

-- ---- the stored step of a body

abbrev acct : Text
acct = codes "acct"

-- a step of m1 that paid, with these looks
abbrev paid : ℕ → List Read → Entry
paid snap reads = record {
  act = acts.Txn m1 0 args_m1;
  snap = snap;
  reads = reads;
  writes = row (codes "a") (pos 7) ∷ step_row m1 0 (codes "pay") kinds.Txn (int 3) ∷ [];
}

abbrev load : List (Key × Option Cell) → Entry
load rows = plain 1 acts.Load rows

abbrev both_rows : List Entry
both_rows = load (row (codes "a") (pos 10) ∷ row (codes "b") (pos 5) ∷ []) ∷ []

abbrev at_a : List Read
at_a = At acct (codes "a") 1 ∷ []

abbrev stored_history : List Entry
stored_history = both_rows ++ paid 1 at_a ∷ []

-- the body of step 0 of m1 on these entries
abbrev body : Text → Val → List Entry → Body
body name args g = record {
  history = g;
  id = m1;
  request = record { n = 0; kind = asking.Txn; name = name; args = args };
  snap = length g;
}

abbrev all_unchanged : Text → Bool
all_unchanged name = true

abbrev only_take : Text → Bool
only_take name = bytes_eq name (codes "take")

it_is_copied : is_copied all_unchanged stored_history (body (codes "pay") args_m1 both_rows) ≡ true
it_is_copied = refl

-- by another number of entries, and beside other rows
it_is_copied_after_more : is_copied all_unchanged stored_history (body (codes "pay") args_m1 (both_rows ++ load (row (codes "b") (pos 9) ∷ []) ∷ [])) ≡ true
it_is_copied_after_more = refl

its_transaction_changed : is_copied only_take stored_history (body (codes "pay") args_m1 both_rows) ≡ false
its_transaction_changed = refl

a_row_differs : is_copied all_unchanged stored_history (body (codes "pay") args_m1 (both_rows ++ load (row (codes "a") (pos 11) ∷ []) ∷ [])) ≡ false
a_row_differs = refl

-- the row has its value again, by a later entry
the_version_is_another : is_copied all_unchanged stored_history (body (codes "pay") args_m1 (both_rows ++ load (row (codes "a") (pos 10) ∷ []) ∷ [])) ≡ true
the_version_is_another = refl

a_row_is_gone : is_copied all_unchanged stored_history (body (codes "pay") args_m1 (both_rows ++ load ((keys.User acct (codes "a"), None) ∷ []) ∷ [])) ≡ false
a_row_is_gone = refl

its_args_differ : is_copied all_unchanged stored_history (body (codes "pay") args_d1 both_rows) ≡ false
its_args_differ = refl

its_name_differs : is_copied all_unchanged stored_history (body (codes "take") args_m1 both_rows) ≡ false
its_name_differs = refl

-- the history has no such step
no_step_is_stored : is_copied all_unchanged both_rows (body (codes "pay") args_m1 both_rows) ≡ false
no_step_is_stored = refl

-- ---- ranges: the same keys with the same values

abbrev range : List (Text × ℕ) → Read
range found = Range acct (codes "a") (codes "c") found

abbrev same_after : List (Key × Option Cell) → Bool
same_after rows = same_look both_rows 1 (both_rows ++ load rows ∷ []) 2 (range ((codes "a", 1) ∷ (codes "b", 1) ∷ []))

a_range_is_the_same : same_after [] ≡ true
a_range_is_the_same = refl

-- c lies outside
a_row_past_the_range : same_after (row (codes "c") (pos 1) ∷ []) ≡ true
a_row_past_the_range = refl

one_row_more : same_after (row (codes "aa") (pos 1) ∷ []) ≡ false
one_row_more = refl

one_row_less : same_after ((keys.User acct (codes "b"), None) ∷ []) ≡ false
one_row_less = refl

a_value_differs : same_after (row (codes "b") (pos 6) ∷ []) ≡ false
a_value_differs = refl

a_value_is_written_again : same_after (row (codes "b") (pos 5) ∷ []) ≡ true
a_value_is_written_again = refl

-- b is gone and bb stands there with its value
another_key_of_that_value : same_after ((keys.User acct (codes "b"), None) ∷ row (codes "bb") (pos 5) ∷ []) ≡ false
another_key_of_that_value = refl

keys_beside_one_another : (same_range both_rows 1 both_rows 1 acct (codes "a" ∷ codes "b" ∷ []) (codes "a" ∷ codes "b" ∷ []) ≡ true)
    × (same_range both_rows 1 both_rows 1 acct (codes "a" ∷ []) (codes "a" ∷ codes "b" ∷ []) ≡ false)
    × (same_range both_rows 1 both_rows 1 acct (codes "a" ∷ codes "b" ∷ []) (codes "a" ∷ []) ≡ false)
    × (same_range both_rows 1 both_rows 1 acct (codes "a" ∷ codes "b" ∷ []) (codes "b" ∷ codes "a" ∷ []) ≡ false)
keys_beside_one_another = (refl, refl, refl, refl)

-- none and Null aren't the same
rows_compared : (same_row None None ≡ true) × (same_row (Some (int 1)) (Some (int 1)) ≡ true) × (same_row None (Some Null) ≡ false) × (same_row (Some (int 1)) (Some (int 2)) ≡ false)
rows_compared = (refl, refl, refl, refl)

-- ---- doubtful copies

keys_present : (present_in both_rows 1 acct ≡ 2) × (present_in both_rows 0 acct ≡ 0) × (present_in both_rows 1 (codes "log") ≡ 0)
    × (present_in (both_rows ++ load ((keys.User acct (codes "b"), None) ∷ []) ∷ []) 2 acct ≡ 1)
keys_present = (refl, refl, refl, refl)

-- n + 1 read items
abbrev many : ℕ → List Read
many n = range (replicate n (codes "a", 1)) ∷ []

-- a scan of the two rows is 3 read items: with 4,093 they are 4,096
a_scan_within_the_limit : passes_limit both_rows (paid 1 (many 4092)) acct ≡ false
a_scan_within_the_limit = refl

a_scan_past_the_limit : passes_limit both_rows (paid 1 (many 4093)) acct ≡ true
a_scan_past_the_limit = refl

-- of a table without rows it is 1
a_scan_of_no_rows : (passes_limit both_rows (paid 1 (many 4094)) (codes "log") ≡ false) × (passes_limit both_rows (paid 1 (many 4095)) (codes "log") ≡ true)
a_scan_of_no_rows = (refl, refl)

-- the snapshot counts: at 0 nothing stands there
a_scan_of_an_earlier_snapshot : passes_limit both_rows (paid 0 (many 4093)) acct ≡ false
a_scan_of_an_earlier_snapshot = refl

abbrev with_scan : Text → List Item
with_scan table = pay (scans table ∷ []) ∷ []

abbrev of_many : ℕ → List Entry
of_many n = both_rows ++ paid 1 (many n) ∷ []

doubtful : is_doubtful (with_scan acct) (of_many 4093) (body (codes "pay") args_m1 both_rows) ≡ true
doubtful = simp scans_roll

not_doubtful : is_doubtful (with_scan acct) (of_many 4092) (body (codes "pay") args_m1 both_rows) ≡ false
not_doubtful = simp scans_roll

-- it scans a table without rows
not_by_another_table : is_doubtful (with_scan (codes "log")) (of_many 4093) (body (codes "pay") args_m1 both_rows) ≡ false
not_by_another_table = simp scans_roll

not_without_a_scan : is_doubtful stored (of_many 4095) (body (codes "pay") args_m1 both_rows) ≡ false
not_without_a_scan = simp scans_roll

-- there is no stored step
not_without_a_step : is_doubtful (with_scan acct) both_rows (body (codes "pay") args_m1 both_rows) ≡ false
not_without_a_step = refl
