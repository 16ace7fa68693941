-- A history in which each act stands, computed; and for each rule of formed histories an entry that breaks it.
use Rattle.std.proofs.Common.{◌≡◌, ℕ, ◌+◌, ◌≤◌, true, false, List, [], ◌∷◌, ◌++◌, length, get_or, Option, refl, ap, pos, Some, None, lit≤, lit<, arith}
use Rattle.std.specs.Prelude.{codes, sum_by, count_by}
use Rattle.std.specs.Str.{is_utf8, chars}
use lib.Utf8.{encode}
use Rattle.r3_value.specs.declared.value.Val.{Val}
use Rattle.r3_value.specs.declared.value.Val.TheVariants.{Null, Int, List as ListOf, Text}
use Rattle.r3_value.specs.declared.value.Outcome.TheVariants.{Value, Failure}
use Rattle.r3_value.specs.declared.value.Outcome.{Outcome}
use Rattle.r3_value.specs.Value.{text, integer, item, no_items}
use Rattle.r3_rows.specs.declared.rows.Key.TheVariants.{User, Flow, Step}
use Rattle.r3_rows.specs.declared.rows.Cell.TheVariants.{Row}
use Rattle.r3_rows.specs.declared.rows.Cell.TheVariants as cells
use Rattle.r3_rows.specs.declared.rows.Cell.{Cell}
use Rattle.r3_rows.specs.declared.rows.Key.{Key}
use Rattle.r3_rows.specs.declared.rows.Status.{Status}
use Rattle.r3_rows.specs.declared.rows.Status.TheVariants as status
use Rattle.r3_rows.specs.declared.rows.StepKind.{StepKind}
use Rattle.r3_rows.specs.declared.rows.StepKind.TheVariants as kinds
use Rattle.r3_rows.specs.declared.rows.Read.{Read}
use Rattle.r3_rows.specs.declared.rows.Read.TheVariants.{At, Range}
use Rattle.r3_entry.specs.declared.entry.Act.{Act}
use Rattle.r3_entry.specs.declared.entry.Act.TheVariants as acts
use Rattle.r3_entry.specs.declared.entry.Entry.{Entry}
use Rattle.r3_entry.specs.History.{cell_at, version_at, range_at}
use Rattle.r3_entry.specs.Bytes.{entry, bytes, size}
use Rattle.r3_entry.specs.Formed.{IsFormed, Follows, FollowEachOther, read_count, is_user}

abbrev Write : Type 0
Write = Key × Option Cell

abbrev made : Act → ℕ → List Read → List Write → Entry
made a s rs ws = record { act = a; snap = s; reads = rs; writes = ws }

abbrev row : List ℕ → Key
row key = User (codes "acct") key

abbrev money : ℕ → Option Cell
money n = Some (Row (Int (pos n)))

abbrev arguments : Val
arguments = ListOf (item (text (codes "a")) (item (text (codes "b")) (item (integer (pos 3)) no_items)))

-- a workflow's row without a parent
abbrev flow : Status → Option Outcome → Option (List ℕ) → ℕ → ℕ → Option Cell
flow s o q n k = Some (cells.Flow (record { status = s; function = codes "move"; args = arguments; outcome = o; queue = q; started = n; attempts = k; parent = None }))

abbrev step : StepKind → Outcome → Option Cell
step k o = Some (cells.Step (record { name = codes "pay"; kind = k; outcome = o }))

abbrev three : Outcome
three = Value (Int (pos 3))

-- ---- a store with one load

abbrev program : Entry
program = made (acts.Program (codes "table acct;")) 0 [] []

abbrev load : Entry
load = made acts.Load 1 [] ((row (codes "a"), money 10) ∷ [])

abbrev store : List Entry
store = program ∷ load ∷ []

bytes-85 : length (bytes store) ≡ 85
bytes-85 = refl

size-85 : size store ≡ 85
size-85 = refl

program-28 : entry program ≡ 1 ∷ 0 ∷ 0 ∷ 0 ∷ 11 ∷ 116 ∷ 97 ∷ 98 ∷ 108 ∷ 101 ∷ 32 ∷ 97 ∷ 99 ∷ 99 ∷ 116 ∷ 59 ∷ 0 ∷ 0 ∷ 0 ∷ 0 ∷ 0 ∷ 0 ∷ 0 ∷ 0 ∷ 0 ∷ 0 ∷ 0 ∷ 0 ∷ []
program-28 = refl

load-38 : entry load ≡ 2 ∷ 0 ∷ 0 ∷ 0 ∷ 1 ∷ 0 ∷ 0 ∷ 0 ∷ 0 ∷ 0 ∷ 0 ∷ 0 ∷ 1 ∷ 0 ∷ 0 ∷ 0 ∷ 0 ∷ 4 ∷ 97 ∷ 99 ∷ 99 ∷ 116 ∷ 0 ∷ 0 ∷ 0 ∷ 1 ∷ 97 ∷ 1 ∷ 0 ∷ 2 ∷ 0 ∷ 0 ∷ 0 ∷ 0 ∷ 0 ∷ 0 ∷ 0 ∷ 10 ∷ []
load-38 = refl

store-formed : IsFormed store
unfolding is_utf8 chars encode
store-formed = record {
  entries = (
    record { program = (refl, refl, refl, refl); isolated = record { below = lit≤ tt; reads = tt; unwritten = tt }; kinds = tt; steps = tt; flows = tt; few_rows = lit≤ tt; few_reads = lit≤ tt },
    (
      record { program = refl; isolated = record { below = lit≤ tt; reads = tt; unwritten = (lit≤ tt, tt) }; kinds = (tt, tt); steps = (tt, tt); flows = (tt, tt); few_rows = lit≤ tt; few_reads = lit≤ tt },
      tt,
    ),
  );
  few = lit≤ tt;
  small = lit≤ tt;
  payloads = (lit≤ tt, (lit≤ tt, tt));
  limits = (
    record { act = record { long = lit≤ tt; short = lit≤ tt; utf8 = refl }; snap = lit< tt; reads_fit = lit< tt; reads = tt; writes_fit = lit< tt; writes = tt; rising = refl },
    (
      record {
        act = tt;
        snap = lit< tt;
        reads_fit = lit< tt;
        reads = tt;
        writes_fit = lit< tt;
        writes = (((record { long = lit≤ tt; short = lit≤ tt; utf8 = refl }, record { long = lit≤ tt; short = lit≤ tt; utf8 = refl }), record { proper = omega arith; small = lit≤ tt; shallow = lit≤ tt }), tt);
        rising = refl;
      },
      tt,
    ),
  );
}

-- ---- a history in which each act stands: two transactions, a range before and after a deletion, a fork

abbrev loads : Entry
loads = made acts.Load 1 [] ((row (codes "a"), money 10) ∷ (row (codes "b"), money 5) ∷ [])

abbrev start : Entry
start = made (acts.Start (codes "m1")) 2 [] ((Flow (codes "m1"), flow status.Pending None None 3 0) ∷ [])

abbrev txn : Entry
txn = made (acts.Txn (codes "m1") 0 arguments) 3 (At (codes "acct") (codes "a") 2 ∷ At (codes "acct") (codes "b") 2 ∷ []) ((row (codes "a"), money 7) ∷ (row (codes "b"), money 8) ∷ (Step (codes "m1") 0, step kinds.Txn three) ∷ [])

abbrev outside : Entry
outside = made (acts.Outside (codes "m1") 1 arguments) 4 [] ((Step (codes "m1") 1, step kinds.Outside (Value Null)) ∷ [])

abbrev finish : Entry
finish = made (acts.Finish (codes "m1")) 5 [] ((Flow (codes "m1"), flow status.Success (Some three) None 3 0) ∷ [])

abbrev enqueue : Entry
enqueue = made (acts.Enqueue (codes "e1")) 6 [] ((Flow (codes "e1"), flow status.Enqueued None (Some (codes "mail")) 7 0) ∷ [])

abbrev dequeue : Entry
dequeue = made (acts.Dequeue (codes "e1")) 7 [] ((Flow (codes "e1"), flow status.Pending None (Some (codes "mail")) 7 0) ∷ [])

abbrev cancel : Entry
cancel = made (acts.Cancel (codes "e1")) 8 [] ((Flow (codes "e1"), flow status.Cancelled None (Some (codes "mail")) 7 0) ∷ [])

abbrev resume : Entry
resume = made (acts.Resume (codes "e1")) 9 [] ((Flow (codes "e1"), flow status.Pending None None 7 0) ∷ [])

abbrev recover : Entry
recover = made (acts.Recover (codes "e1")) 10 [] ((Flow (codes "e1"), flow status.Pending None None 7 1) ∷ [])

abbrev fork : Entry
fork = made (acts.Fork (codes "m2") (codes "m1") 2) 11 [] ((Flow (codes "m2"), flow status.Pending None None 12 0) ∷ (Step (codes "m2") 0, step kinds.Txn three) ∷ (Step (codes "m2") 1, step kinds.Outside (Value Null)) ∷ [])

abbrev child : Entry
child = made (acts.Child (codes "m2") 2 (codes "m2-2")) 12 [] ((Flow (codes "m2-2"), flow status.Pending None None 13 0) ∷ (Step (codes "m2") 2, step kinds.Child (Value (Text (codes "m2-2")))) ∷ [])

abbrev await : Entry
await = made (acts.Await (codes "m2") 3 (codes "zz")) 13 [] ((Step (codes "m2") 3, step kinds.Await (Failure (codes "unknown_id"))) ∷ [])

abbrev scan : Entry
scan = made (acts.Txn (codes "e1") 0 arguments) 14 (Range (codes "acct") [] (codes "c") ((codes "a", 4) ∷ (codes "b", 4) ∷ []) ∷ []) ((row (codes "b"), None) ∷ (Step (codes "e1") 0, step kinds.Txn three) ∷ [])

abbrev scan_again : Entry
scan_again = made (acts.Txn (codes "m2-2") 0 arguments) 15 (Range (codes "acct") [] (codes "c") ((codes "a", 4) ∷ []) ∷ At (codes "acct") (codes "b") 15 ∷ At (codes "acct") (codes "z") 0 ∷ []) ((Step (codes "m2-2") 0, step kinds.Txn three) ∷ [])

abbrev history : List Entry
history = program ∷ loads ∷ start ∷ txn ∷ outside ∷ finish ∷ enqueue ∷ dequeue ∷ cancel ∷ resume ∷ recover ∷ fork ∷ child ∷ await ∷ scan ∷ scan_again ∷ []

program-follows : Follows [] program
program-follows =
    record { program = (refl, refl, refl, refl); isolated = record { below = lit≤ tt; reads = tt; unwritten = tt }; kinds = tt; steps = tt; flows = tt; few_rows = lit≤ tt; few_reads = lit≤ tt }

loads-follows : Follows (program ∷ []) loads
loads-follows =
    record { program = refl; isolated = record { below = lit≤ tt; reads = tt; unwritten = (lit≤ tt, (lit≤ tt, tt)) }; kinds = (tt, (tt, tt)); steps = (tt, (tt, tt)); flows = (tt, (tt, tt)); few_rows = lit≤ tt; few_reads = lit≤ tt }

start-follows : Follows (program ∷ loads ∷ []) start
start-follows =
    record { program = refl; isolated = record { below = lit≤ tt; reads = tt; unwritten = (lit≤ tt, tt) }; kinds = (tt, tt); steps = (tt, tt); flows = ((tt, (λ e. absurd cc), lit≤ tt), tt); few_rows = lit≤ tt; few_reads = lit≤ tt }

txn-follows : Follows (program ∷ loads ∷ start ∷ []) txn
txn-follows =
    record { program = refl; isolated = record { below = lit≤ tt; reads = (refl, (refl, tt)); unwritten = (lit≤ tt, (lit≤ tt, (lit≤ tt, tt))) }; kinds = (tt, (tt, (tt, tt))); steps = (tt, (tt, ((refl, refl), tt))); flows = (tt, (tt, (tt, tt))); few_rows = lit≤ tt; few_reads = lit≤ tt }

outside-follows : Follows (program ∷ loads ∷ start ∷ txn ∷ []) outside
outside-follows =
    record { program = refl; isolated = record { below = lit≤ tt; reads = tt; unwritten = (lit≤ tt, tt) }; kinds = (tt, tt); steps = ((refl, refl), tt); flows = (tt, tt); few_rows = lit≤ tt; few_reads = lit≤ tt }

finish-follows : Follows (program ∷ loads ∷ start ∷ txn ∷ outside ∷ []) finish
finish-follows =
    record { program = refl; isolated = record { below = lit≤ tt; reads = tt; unwritten = (lit≤ tt, tt) }; kinds = (tt, tt); steps = (tt, tt); flows = ((tt, (λ e. absurd cc), lit≤ tt), tt); few_rows = lit≤ tt; few_reads = lit≤ tt }

enqueue-follows : Follows (program ∷ loads ∷ start ∷ txn ∷ outside ∷ finish ∷ []) enqueue
enqueue-follows =
    record { program = refl; isolated = record { below = lit≤ tt; reads = tt; unwritten = (lit≤ tt, tt) }; kinds = (tt, tt); steps = (tt, tt); flows = ((tt, (λ e. refl), lit≤ tt), tt); few_rows = lit≤ tt; few_reads = lit≤ tt }

dequeue-follows : Follows (program ∷ loads ∷ start ∷ txn ∷ outside ∷ finish ∷ enqueue ∷ []) dequeue
dequeue-follows =
    record { program = refl; isolated = record { below = lit≤ tt; reads = tt; unwritten = (lit≤ tt, tt) }; kinds = (tt, tt); steps = (tt, tt); flows = ((tt, (λ e. absurd cc), lit≤ tt), tt); few_rows = lit≤ tt; few_reads = lit≤ tt }

cancel-follows : Follows (program ∷ loads ∷ start ∷ txn ∷ outside ∷ finish ∷ enqueue ∷ dequeue ∷ []) cancel
cancel-follows =
    record { program = refl; isolated = record { below = lit≤ tt; reads = tt; unwritten = (lit≤ tt, tt) }; kinds = (tt, tt); steps = (tt, tt); flows = ((tt, (λ e. absurd cc), lit≤ tt), tt); few_rows = lit≤ tt; few_reads = lit≤ tt }

resume-follows : Follows (program ∷ loads ∷ start ∷ txn ∷ outside ∷ finish ∷ enqueue ∷ dequeue ∷ cancel ∷ []) resume
resume-follows =
    record { program = refl; isolated = record { below = lit≤ tt; reads = tt; unwritten = (lit≤ tt, tt) }; kinds = (tt, tt); steps = (tt, tt); flows = ((tt, (λ e. absurd cc), lit≤ tt), tt); few_rows = lit≤ tt; few_reads = lit≤ tt }

recover-follows : Follows (program ∷ loads ∷ start ∷ txn ∷ outside ∷ finish ∷ enqueue ∷ dequeue ∷ cancel ∷ resume ∷ []) recover
recover-follows =
    record { program = refl; isolated = record { below = lit≤ tt; reads = tt; unwritten = (lit≤ tt, tt) }; kinds = (tt, tt); steps = (tt, tt); flows = ((tt, (λ e. absurd cc), lit≤ tt), tt); few_rows = lit≤ tt; few_reads = lit≤ tt }

fork-follows : Follows (program ∷ loads ∷ start ∷ txn ∷ outside ∷ finish ∷ enqueue ∷ dequeue ∷ cancel ∷ resume ∷ recover ∷ []) fork
fork-follows =
    record { program = refl; isolated = record { below = lit≤ tt; reads = tt; unwritten = (lit≤ tt, (lit≤ tt, (lit≤ tt, tt))) }; kinds = (tt, (tt, (tt, tt))); steps = (tt, ((refl, refl), ((refl, refl), tt))); flows = ((tt, (λ e. absurd cc), lit≤ tt), (tt, (tt, tt))); few_rows = lit≤ tt; few_reads = lit≤ tt }

child-follows : Follows (program ∷ loads ∷ start ∷ txn ∷ outside ∷ finish ∷ enqueue ∷ dequeue ∷ cancel ∷ resume ∷ recover ∷ fork ∷ []) child
child-follows =
    record { program = refl; isolated = record { below = lit≤ tt; reads = tt; unwritten = (lit≤ tt, (lit≤ tt, tt)) }; kinds = (tt, (tt, tt)); steps = (tt, ((refl, refl), tt)); flows = ((tt, (λ e. absurd cc), lit≤ tt), (tt, tt)); few_rows = lit≤ tt; few_reads = lit≤ tt }

await-follows : Follows (program ∷ loads ∷ start ∷ txn ∷ outside ∷ finish ∷ enqueue ∷ dequeue ∷ cancel ∷ resume ∷ recover ∷ fork ∷ child ∷ []) await
await-follows =
    record { program = refl; isolated = record { below = lit≤ tt; reads = tt; unwritten = (lit≤ tt, tt) }; kinds = (tt, tt); steps = ((refl, refl), tt); flows = (tt, tt); few_rows = lit≤ tt; few_reads = lit≤ tt }

scan-follows : Follows (program ∷ loads ∷ start ∷ txn ∷ outside ∷ finish ∷ enqueue ∷ dequeue ∷ cancel ∷ resume ∷ recover ∷ fork ∷ child ∷ await ∷ []) scan
scan-follows =
    record { program = refl; isolated = record { below = lit≤ tt; reads = (refl, tt); unwritten = (lit≤ tt, (lit≤ tt, tt)) }; kinds = (tt, (tt, tt)); steps = (tt, ((refl, refl), tt)); flows = (tt, (tt, tt)); few_rows = lit≤ tt; few_reads = lit≤ tt }

scan_again-follows : Follows (program ∷ loads ∷ start ∷ txn ∷ outside ∷ finish ∷ enqueue ∷ dequeue ∷ cancel ∷ resume ∷ recover ∷ fork ∷ child ∷ await ∷ scan ∷ []) scan_again
scan_again-follows =
    record { program = refl; isolated = record { below = lit≤ tt; reads = (refl, (refl, (refl, tt))); unwritten = (lit≤ tt, tt) }; kinds = (tt, tt); steps = ((refl, refl), tt); flows = (tt, tt); few_rows = lit≤ tt; few_reads = lit≤ tt }

history-follows : FollowEachOther [] history
history-follows = (program-follows, (loads-follows, (start-follows, (txn-follows, (outside-follows, (finish-follows, (enqueue-follows, (dequeue-follows, (cancel-follows, (resume-follows, (recover-follows, (fork-follows, (child-follows, (await-follows, (scan-follows, (scan_again-follows, tt))))))))))))))))

-- what stands where in it
row_a : cell_at history 16 (row (codes "a")) ≡ money 7
row_a = refl

row_a-before : cell_at history 3 (row (codes "a")) ≡ money 10
row_a-before = refl

row_b-deleted : cell_at history 16 (row (codes "b")) ≡ None
row_b-deleted = refl

version_b-deleted : version_at history 16 (row (codes "b")) ≡ 15
version_b-deleted = refl

version_never : version_at history 16 (row (codes "z")) ≡ 0
version_never = refl

rows_before : range_at history 14 (codes "acct") [] (codes "c") ≡ (codes "a", 4) ∷ (codes "b", 4) ∷ []
rows_before = refl

rows_after : range_at history 15 (codes "acct") [] (codes "c") ≡ (codes "a", 4) ∷ []
rows_after = refl

-- the lower bound is in the range and the upper one isn't
rows_bounds : range_at history 14 (codes "acct") (codes "a") (codes "b") ≡ (codes "a", 4) ∷ []
rows_bounds = refl

-- ---- what breaks a rule, on the first three or four entries

abbrev three_entries : List Entry
three_entries = program ∷ loads ∷ start ∷ []

abbrev four_entries : List Entry
four_entries = program ∷ loads ∷ start ∷ txn ∷ []

-- a transaction of m1 with these read items and writes, on the first three entries
abbrev pays : List Read → List Write → Entry
pays rs ws = made (acts.Txn (codes "m1") 0 arguments) 3 rs ws

no_program : ¬ (Follows [] load)
no_program f = let bad : false ≡ true = f.program.0 in absurd cc

program_twice : ¬ (Follows store program)
program_twice f = let bad : true ≡ false = f.program in absurd cc

program_writes : ¬ (Follows [] (made (acts.Program (codes "table acct;")) 0 [] ((row (codes "a"), money 1) ∷ [])))
program_writes f = let bad : (row (codes "a"), money 1) ∷ [] ≡ [] = f.program.3 in absurd cc

snapshot_ahead : ¬ (Follows three_entries (made (acts.Txn (codes "m1") 0 arguments) 4 [] []))
snapshot_ahead f = let bad : 4 ≤ 3 = f.isolated.below in absurd (omega arith)

read_of_another_version : ¬ (Follows three_entries (pays (At (codes "acct") (codes "a") 1 ∷ []) []))
read_of_another_version f = let bad : 1 ≡ 2 = f.isolated.reads.0 in absurd (omega arith)

range_without_a_key : ¬ (Follows three_entries (pays (Range (codes "acct") [] (codes "c") ((codes "a", 2) ∷ []) ∷ []) []))
range_without_a_key f =
    let bad : ◌≡◌ {A = List (List ℕ × ℕ)} ((codes "a", 2) ∷ []) ((codes "a", 2) ∷ (codes "b", 2) ∷ []) = f.isolated.reads.0 in absurd cc

abbrev first_byte : List (List ℕ × ℕ) → ℕ
first_byte ks = get_or (get_or ks 0 ([], 0)).0 0 0

b_is_not_a : ◌≡◌ {A = ℕ} 98 97 → ⊥
b_is_not_a e = omega arith

range_out_of_order : ¬ (Follows three_entries (pays (Range (codes "acct") [] (codes "c") ((codes "b", 2) ∷ (codes "a", 2) ∷ []) ∷ []) []))
range_out_of_order f = b_is_not_a (ap first_byte f.isolated.reads.0)

-- entry 4 wrote the row since snapshot 3
written_since : ¬ (Follows four_entries (pays [] ((row (codes "a"), money 1) ∷ [])))
written_since f = let bad : 4 ≤ 3 = f.isolated.unwritten.0 in absurd (omega arith)

-- so had a deletion
deleted_since : ¬ (Follows (three_entries ++ made acts.Load 3 [] ((row (codes "a"), None) ∷ []) ∷ []) (pays [] ((row (codes "a"), money 1) ∷ [])))
deleted_since f = let bad : 4 ≤ 3 = f.isolated.unwritten.0 in absurd (omega arith)

flow_under_a_step : ¬ (Follows three_entries (pays [] ((Step (codes "m1") 0, flow status.Pending None None 3 0) ∷ [])))
flow_under_a_step f = f.kinds.0

step_under_a_row : ¬ (Follows three_entries (pays [] ((row (codes "a"), step kinds.Txn three) ∷ [])))
step_under_a_row f = f.kinds.0

workflow_deleted : ¬ (Follows three_entries (pays [] ((Flow (codes "m1"), None) ∷ [])))
workflow_deleted f = f.kinds.0

step_deleted : ¬ (Follows three_entries (pays [] ((Step (codes "m1") 0, None) ∷ [])))
step_deleted f = f.kinds.0

step_twice : ¬ (Follows four_entries (made (acts.Txn (codes "m1") 0 arguments) 4 [] ((Step (codes "m1") 0, step kinds.Txn three) ∷ [])))
step_twice f = let bad : 4 ≡ 0 = f.steps.0.0 in absurd (omega arith)

step_of_no_workflow : ¬ (Follows three_entries (pays [] ((Step (codes "m9") 0, step kinds.Txn three) ∷ [])))
step_of_no_workflow f = let bad : false ≡ true = f.steps.0.1 in absurd cc

pending_with_an_outcome : ¬ (Follows three_entries (pays [] ((Flow (codes "m1"), flow status.Pending (Some three) None 3 0) ∷ [])))
pending_with_an_outcome f = f.flows.0.0

success_without_an_outcome : ¬ (Follows three_entries (pays [] ((Flow (codes "m1"), flow status.Success None None 3 0) ∷ [])))
success_without_an_outcome f = f.flows.0.0

success_with_a_failure : ¬ (Follows three_entries (pays [] ((Flow (codes "m1"), flow status.Success (Some (Failure (codes "id"))) None 3 0) ∷ [])))
success_with_a_failure f = f.flows.0.0

error_with_a_value : ¬ (Follows three_entries (pays [] ((Flow (codes "m1"), flow status.Error (Some three) None 3 0) ∷ [])))
error_with_a_value f = f.flows.0.0

enqueued_without_a_queue : ¬ (Follows three_entries (pays [] ((Flow (codes "m9"), flow status.Enqueued None None 4 0) ∷ [])))
enqueued_without_a_queue f = let bad : false ≡ true = f.flows.0.1 refl in absurd cc

started_later : ¬ (Follows three_entries (pays [] ((Flow (codes "m9"), flow status.Pending None None 5 0) ∷ [])))
started_later f = let bad : 5 ≤ 4 = f.flows.0.2 in absurd (omega arith)

-- ---- counts

rows_of_txn : count_by is_user txn.writes ≡ 2
rows_of_txn = refl

looks_of_scan : sum_by read_count scan.reads ≡ 3
looks_of_scan = refl

-- 4,096 keys in a range are one too many, and 1,025 rows are
keys_too_many : (h : List Entry) (ks : List (List ℕ × ℕ)) → length ks ≡ 4096 → ¬ (Follows h (pays (Range (codes "acct") [] [] ks ∷ []) []))
keys_too_many h ks n f = let few : 0 + (1 + length ks) ≤ 4096 = f.few_reads in omega arith

rows_too_many : (h : List Entry) (ws : List Write) → count_by is_user ws ≡ 1025 → ¬ (Follows h (pays [] ws))
rows_too_many h ws n f = omega (arith, f.few_rows)
