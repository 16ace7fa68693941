-- A worked report of a retroaction, whole; and reports that break it.
use Rattle.std.proofs.Common.{◌≡◌, ◌≢◌, ℕ, Bool, true, false, not, cond, List, [], ◌∷◌, Option, Some, None, refl, sym, ap, subst, ◌∙◌, ◌↔◌, pos, arith, lit<}
use Rattle.std.specs.Prelude.{◌&&◌, codes, bytes_eq, find, count_by, IsTrue, ⊤, option_and_then}
use Rattle.std.specs.Ordering.{is_eq}
use Rattle.std.specs.FinMap.Entries as entries
use Rattle.std.specs.declared.cmp.Ordering.TheVariants.{Less, Equal, Greater}
use Rattle.r3_value.specs.declared.value.Val.{Val}
use Rattle.r3_value.specs.declared.value.Val.TheVariants.{Int}
use Rattle.r3_value.specs.declared.value.Outcome.TheVariants as outcomes
use Rattle.r3_rows.specs.declared.rows.Key.{Key}
use Rattle.r3_rows.specs.declared.rows.Key.TheVariants as keys
use Rattle.r3_rows.specs.declared.rows.Cell.{Cell}
use Rattle.r3_rows.specs.declared.rows.Read.TheVariants.{At}
use Rattle.r3_rows.specs.declared.rows.Status.TheVariants.{Pending, Success}
use Rattle.r3_rows.specs.declared.rows.StepKind.TheVariants as kinds
use Rattle.r3_rows.specs.Keys.{key_cmp, owner}
use Rattle.r3_rows.specs.KeyOrder.{key_cmp-same}
use Rattle.r3_entry.specs.declared.entry.Act.TheVariants as acts
use Rattle.r3_entry.specs.declared.entry.Entry.{Entry}
use Rattle.r3_entry.specs.History.{Map, map_at, cell_at}
use Rattle.fn_tree.specs.declared.program.Item.{Item}
use Rattle.r3_model.specs.Language.{Text}
use Rattle.r3_model.specs.Rows.{user_of, flow_of}
use Rattle.r3_model.specs.Copied.{IsUnchanged, is_txn_of, is_copied}
use Rattle.r3_model.specs.Retro.{Recorded}
use Rattle.r3_model.specs.Report.{Standing, Absent, Ended, Other, standing_of, FlowLine, RowLine, Report, IsFlowLine, IsRowLine, AreFlowLines, AreRowLines, IsReport}
use Rattle.r3_model.proofs.Bank.{args2}
use Rattle.r3_model.proofs.WorkedReplay.{int, txt, m1, d1, plain, flow, row, step_row, args_m1, args_d1, requests}
use Rattle.r3_model.proofs.WorkedRetro.{changed}
use Rattle.r3_worked.proofs.Copies.{stored, longer, statements, accepted_as}

-- ---- what the fee makes of two transfers that overlap: m1 pays one less, and nothing else differs

abbrev acct : Text
acct = codes "acct"

abbrev with_fee : List Entry
with_fee =
    plain 0 (acts.Program (codes "fee")) []
    ∷ plain 1 acts.Load (row (codes "a") (pos 10) ∷ row (codes "b") (pos 5) ∷ row (codes "c") (pos 4) ∷ row (codes "d") (pos 9) ∷ [])
    ∷ plain 2 (acts.Start m1) (flow m1 (codes "move") args_m1 Pending 3 None ∷ [])
    ∷ plain 3 (acts.Start d1) (flow d1 (codes "draw") args_d1 Pending 4 None ∷ [])
    ∷ record {
      act = acts.Txn m1 0 args_m1;
      snap = 4;
      reads = At acct (codes "a") 2 ∷ At acct (codes "b") 2 ∷ [];
      writes = row (codes "a") (pos 7) ∷ row (codes "b") (pos 7) ∷ step_row m1 0 (codes "pay") kinds.Txn (int 2) ∷ [];
    }
    ∷ record {
      act = acts.Txn d1 0 args_d1;
      snap = 4;
      reads = At acct (codes "c") 2 ∷ At acct (codes "d") 2 ∷ [];
      writes = row (codes "c") (pos 3) ∷ step_row d1 0 (codes "take") kinds.Txn (int 3) ∷ [];
    }
    ∷ plain 6 (acts.Outside m1 1 (args2 (txt (codes "b")) (int 2))) (step_row m1 1 (codes "notify") kinds.Outside (txt (codes "stub")) ∷ [])
    ∷ plain 7 (acts.Finish m1) (flow m1 (codes "move") args_m1 Success 3 (Some (outcomes.Value (int 2))) ∷ [])
    ∷ plain 8 (acts.Finish d1) (flow d1 (codes "draw") args_d1 Success 4 (Some (outcomes.Value (int 3))) ∷ [])
    ∷ []

it_made : (changed Recorded).state.history ≡ with_fee
it_made = refl

-- ---- what holds of each key of a map, and of a key that isn't there, holds of all keys

abbrev AllKeys : (Key → Type 0) → Map → Type 0
AllKeys P [] = ⊤
AllKeys P (e ∷ es) = P e.0 × AllKeys P es

by_keys : (P : Key → Type 0) (q : Key) (m : Map) → AllKeys P m → (entries.find key_cmp q m ≡ None → P q) → P q
by_keys P q [] all none = none refl
by_keys P q (e ∷ es) all none =
    elim (key_cmp q e.0) as (λ o. key_cmp q e.0 ≡ o → (cond (is_eq o) (Some e.1) (entries.find key_cmp q es) ≡ None → P q) → P q) [
      | Less ↦ λ t n. by_keys P q es all.1 n
      | Equal ↦ λ t n. subst P (sym (key_cmp-same q e.0 t)) all.0
      | Greater ↦ λ t n. by_keys P q es all.1 n
    ] refl none

-- ---- the lines of workflows

abbrev stands : List Entry → Key → Standing
stands h q = standing_of (option_and_then flow_of (cell_at h 9 q))

abbrev IsM1 : Key → Type 0
IsM1 q = stands requests q ≢ stands with_fee q → q ≡ keys.Flow m1

-- of a, b, c, d, d1, m1, the step of d1 and both of m1
each-flow : AllKeys IsM1 (map_at requests 9)
each-flow = (
  (λ differs. absurd (differs refl)),
  ((λ differs. absurd (differs refl)), ((λ differs. absurd (differs refl)), ((λ differs. absurd (differs refl)), ((λ differs. absurd (differs refl)), ((λ differs. refl), ((λ differs. absurd (differs refl)), ((λ differs. absurd (differs refl)), ((λ differs. absurd (differs refl)), tt)))))))),
)

abbrev Seen : Type 0
Seen = Option (ℕ × Option Cell)

abbrev standing_seen : Seen → Standing
standing_seen w = standing_of (option_and_then flow_of (option_and_then (λ (w : ℕ × Option Cell). w.1) w))

only-m1 : (q : Key) → IsM1 q
only-m1 q = by_keys IsM1 q (map_at requests 9) each-flow (λ no. by_keys IsM1 q (map_at with_fee 9) each-flow (λ nor differs. absurd (differs (ap standing_seen (no ∙ sym nor)))))

abbrev m1_line : FlowLine
m1_line = record { id = m1; old = Ended (outcomes.Value (int 3)); new = Ended (outcomes.Value (int 2)) }

abbrev number_in : Standing → ℕ
number_in Absent = 0
number_in (Ended (outcomes.Value (Int (pos n)))) = n
number_in (Ended o) = 0
number_in (Other s) = 0

m1_differs : Ended (outcomes.Value (int 3)) ≢ Ended (outcomes.Value (int 2))
m1_differs is = let z : 3 ≡ 2 = ap number_in is in absurd (omega (arith, z))

flow_lines : AreFlowLines requests with_fee (m1_line ∷ [])
flow_lines = record {
  lines = (record { old = refl; new = refl; differs = m1_differs }, tt);
  each = λ id differs. (0, lit< tt, sym (ap owner (only-m1 (keys.Flow id) differs)));
  rising = refl;
}

-- ---- the lines of rows

abbrev stored_row : List Entry → Key → Option Val
stored_row h q = option_and_then user_of (cell_at h 9 q)

abbrev b_key : Key
b_key = keys.User acct (codes "b")

abbrev IsB : Key → Type 0
IsB q = stored_row requests q ≢ stored_row with_fee q → q ≡ b_key

each-row : AllKeys IsB (map_at requests 9)
each-row = (
  (λ differs. absurd (differs refl)),
  ((λ differs. refl), ((λ differs. absurd (differs refl)), ((λ differs. absurd (differs refl)), ((λ differs. absurd (differs refl)), ((λ differs. absurd (differs refl)), ((λ differs. absurd (differs refl)), ((λ differs. absurd (differs refl)), ((λ differs. absurd (differs refl)), tt)))))))),
)

abbrev row_seen : Seen → Option Val
row_seen w = option_and_then user_of (option_and_then (λ (w : ℕ × Option Cell). w.1) w)

only-b : (q : Key) → IsB q
only-b q = by_keys IsB q (map_at requests 9) each-row (λ no. by_keys IsB q (map_at with_fee 9) each-row (λ nor differs. absurd (differs (ap row_seen (no ∙ sym nor)))))

abbrev b_line : RowLine
b_line = record { table = acct; key = codes "b"; old = Some (int 8); new = Some (int 7) }

abbrev number_of : Option Val → ℕ
number_of (Some (Int (pos n))) = n
number_of v = 0

b_differs : Some (int 8) ≢ Some (int 7)
b_differs is = let z : 8 ≡ 7 = ap number_of is in absurd (omega (arith, z))

row_lines : AreRowLines requests with_fee (b_line ∷ [])
row_lines = record {
  lines = (record { old = refl; new = refl; differs = b_differs }, tt);
  each = λ table key differs. (0, lit< tt, sym (only-b (keys.User table key) differs));
  rising = refl;
}

-- ---- the report: of the two bodies the changed one was run again

abbrev is_unchanged : Text → Bool
is_unchanged name = not (bytes_eq (codes "pay") name)

abbrev Tells : Text → Bool → Type 0
Tells name b = IsTrue (not b) ↔ IsUnchanged (Some stored) longer name

others_are_unchanged : (name : Text) → bytes_eq (codes "pay") name ≡ false → IsUnchanged (Some stored) longer name
others_are_unchanged name other = record { items = stored; accepted = refl; txn = rw other refl; helpers = refl }

pay_has_changed : (name : Text) → bytes_eq (codes "pay") name ≡ true → IsUnchanged (Some stored) longer name → ⊥
pay_has_changed name is u =
    let old : statements (find (is_txn_of name) stored) ≡ 1 = rw is refl in
    let new : statements (find (is_txn_of name) longer) ≡ 2 = rw is refl in
    let same : find (is_txn_of name) stored ≡ find (is_txn_of name) longer =
    subst (λ (is : List Item). find (is_txn_of name) is ≡ find (is_txn_of name) longer) (accepted_as longer name u) u.txn in
    let z : 1 ≡ 2 = sym old ∙ ap statements same ∙ new in
    absurd (omega (arith, z))

abbrev is_yes : Bool → ℕ
is_yes true = 1
is_yes false = 0

not_true : false ≡ true → ⊥
not_true is = let z : 0 ≡ 1 = ap is_yes is in absurd (omega (arith, z))

it_tells : (name : Text) → IsTrue (is_unchanged name) ↔ IsUnchanged (Some stored) longer name
it_tells name = elim (bytes_eq (codes "pay") name) as (λ b. bytes_eq (codes "pay") name ≡ b → Tells name b) [
  | true ↦ λ is. ((λ no. absurd (not_true no)), (λ u. absurd (pay_has_changed name is u)))
  | false ↦ λ other. ((λ yes. others_are_unchanged name other), (λ u. refl))
] refl

abbrev report : Report
report = record { flows = m1_line ∷ []; rows = b_line ∷ []; entries = 9; runs = 2; reran = 1 }

the_report : IsReport (Some stored) longer requests (changed Recorded) report
the_report = record {
  flows = flow_lines;
  rows = row_lines;
  entries = refl;
  runs = refl;
  is_unchanged = is_unchanged;
  unchanged = it_tells;
  reran = refl;
}

-- ---- reports that break it

-- all entries count, and all bodies that were run
another_number_of_entries : IsReport (Some stored) longer requests (changed Recorded) (record report { entries = 8 }) → ⊥
another_number_of_entries r = let z : 8 ≡ 9 = r.entries in absurd (omega (arith, z))

another_number_of_runs : IsReport (Some stored) longer requests (changed Recorded) (record report { runs = 1 }) → ⊥
another_number_of_runs r = let z : 1 ≡ 2 = r.runs in absurd (omega (arith, z))

-- any test that tells the unchanged transactions takes `take` for one of them, and `pay` for none
abbrev copied_by : Bool → Bool → List Bool
copied_by pay take = (pay && true) ∷ (take && true) ∷ []

abbrev rerun_by : Bool → Bool → ℕ
rerun_by pay take = count_by (λ b. not b) (copied_by pay take)

each_look_is_the_same : (tells : Text → Bool) → count_by (λ b. not (is_copied tells requests b)) (changed Recorded).bodies ≡ rerun_by (tells (codes "pay")) (tells (codes "take"))
each_look_is_the_same tells = refl

false_unless : (b : Bool) → (IsTrue b → ⊥) → b ≡ false
false_unless true never = absurd (never refl)
false_unless false never = refl

not_taken_for_unchanged : {r : Report} (is : IsReport (Some stored) longer requests (changed Recorded) r) → is.is_unchanged (codes "pay") ≡ false
not_taken_for_unchanged is = false_unless (is.is_unchanged (codes "pay")) (λ taken. pay_has_changed (codes "pay") refl ((is.unchanged (codes "pay")).0 taken))

not_taken_for_changed : {r : Report} (is : IsReport (Some stored) longer requests (changed Recorded) r) → is.is_unchanged (codes "take") ≡ true
not_taken_for_changed is = (is.unchanged (codes "take")).1 (others_are_unchanged (codes "take") refl)

one_was_run_again : {r : Report} → IsReport (Some stored) longer requests (changed Recorded) r → r.reran ≡ 1
one_was_run_again is =
    is.reran
    ∙ each_look_is_the_same is.is_unchanged
    ∙ ap (λ b. rerun_by b (is.is_unchanged (codes "take"))) (not_taken_for_unchanged is)
    ∙ ap (rerun_by false) (not_taken_for_changed is)

all_run_again : IsReport (Some stored) longer requests (changed Recorded) (record report { reran = 2 }) → ⊥
all_run_again is = let z : 2 ≡ 1 = one_was_run_again is in absurd (omega (arith, z))

none_run_again : IsReport (Some stored) longer requests (changed Recorded) (record report { reran = 0 }) → ⊥
none_run_again is = let z : 0 ≡ 1 = one_was_run_again is in absurd (omega (arith, z))

-- a history and itself have no lines
no_flow_lines : (h : List Entry) → AreFlowLines h h []
no_flow_lines h = record { lines = tt; each = λ id differs. absurd (differs refl); rising = refl }

no_row_lines : (h : List Entry) → AreRowLines h h []
no_row_lines h = record { lines = tt; each = λ table key differs. absurd (differs refl); rising = refl }

a_line_is_missing : AreFlowLines requests with_fee [] → ⊥
a_line_is_missing ls = let there = ls.each m1 m1_differs in absurd (omega (arith, there.1))

a_row_is_missing : AreRowLines requests with_fee [] → ⊥
a_row_is_missing ls = let there = ls.each acct (codes "b") b_differs in absurd (omega (arith, there.1))

-- d1 stands as before
a_line_without_a_difference : IsFlowLine requests with_fee (record { id = d1; old = Ended (outcomes.Value (int 3)); new = Ended (outcomes.Value (int 3)) }) → ⊥
a_line_without_a_difference l = absurd (l.differs refl)

-- the old one and the new one exchanged
a_line_turned_round : IsFlowLine requests with_fee (record { id = m1; old = Ended (outcomes.Value (int 2)); new = Ended (outcomes.Value (int 3)) }) → ⊥
a_line_turned_round l = let z : 2 ≡ 3 = ap number_in l.old in absurd (omega (arith, z))

a_row_turned_round : IsRowLine requests with_fee (record { table = acct; key = codes "b"; old = Some (int 7); new = Some (int 8) }) → ⊥
a_row_turned_round l = let z : 7 ≡ 8 = ap number_of l.old in absurd (omega (arith, z))

-- the order of the IDs, each once
not_in_order : (h g : List Entry) (a b : Standing) → AreFlowLines h g (record { id = m1; old = a; new = b } ∷ record { id = d1; old = a; new = b } ∷ []) → ⊥
not_in_order h g a b ls = absurd (not_true ls.rising)

abbrev of_b : Option Val → Option Val → RowLine
of_b old new = record { table = acct; key = codes "b"; old = old; new = new }

not_twice : (h g : List Entry) (old new : Option Val) → AreRowLines h g (of_b old new ∷ of_b old new ∷ []) → ⊥
not_twice h g old new ls = absurd (not_true ls.rising)
