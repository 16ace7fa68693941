-- The entry of an event that fits keeps the limits.
use Rattle.std.proofs.Common.{◌≡◌, ℕ, suc, ◌+◌, ◌≤◌, Bool, true, false, List, [], ◌∷◌, ◌++◌, length, map, Option, Some, None, refl, sym, subst, ap, ◌∙◌, arith, length-append}
use Rattle.std.specs.Prelude.{not, ◌==◌, ◌&&◌, ◌||◌, is_none, if◌then◌else◌, nat_le, nat_lt, bytes_eq, IsTrue, fold, All}
use Rattle.std.specs.List.{AllByRecursion, enumerate_from, list_any}
use Rattle.std.specs.Str.{is_utf8}
use Rattle.std.specs.declared.cmp.Ordering.{Ordering}
use Rattle.std.specs.declared.cmp.Ordering.TheVariants.{Less, Equal, Greater}
use Rattle.std.specs.FinMap.Entries.{put, by_order}
use Rattle.std.proofs.lemmas.List.{length-map}
use Rattle.std.proofs.lemmas.Slice.Eq.{bytes_eq-Decides}
use Rattle.r3_value.specs.declared.value.Val.{Val}
use Rattle.r3_value.specs.declared.value.Val.TheVariants as vals
use Rattle.r3_value.specs.declared.value.Outcome.{Outcome}
use Rattle.r3_rows.specs.declared.rows.Key.{Key}
use Rattle.r3_rows.specs.declared.rows.Cell.{Cell}
use Rattle.r3_rows.specs.declared.rows.FlowRow.{FlowRow}
use Rattle.r3_rows.specs.declared.rows.StepRow.{StepRow}
use Rattle.r3_rows.specs.declared.rows.StepKind.TheVariants as kinds
use Rattle.r3_rows.specs.declared.rows.Status.{Status}
use Rattle.r3_rows.specs.declared.rows.Status.TheVariants as status
use Rattle.r3_rows.specs.Keys.{key_cmp}
use Rattle.r3_entry.specs.declared.entry.Act.TheVariants as acts
use Rattle.r3_entry.specs.declared.entry.Entry.{Entry}
use Rattle.r3_entry.specs.Limits.{IsId, IsName, IsRowKey, IsVal, IsArgs, IsOutcome, IsFlow, IsStep, IsRead, IsAct, IsWrite, IfThere}
use Rattle.r3_bytes.specs.Spelling.{count}
use Rattle.fn_tree.specs.declared.flow.Request.{Request}
use Rattle.fn_tree.specs.Writes.{Write as Put}
use Rattle.sys_flow.specs.declared.command.Command.TheVariants.{Load}
use Rattle.r3_model.specs.Language.{Text, Language, Queue}
use Rattle.r3_model.specs.Given.{is_id}
use Rattle.r3_model.specs.Acts.{Writes, plain, txn_entry, in_order, row_write, flow_write, step_write, step_row, put_write, value_cell, started}
use Rattle.r3_model.specs.Commands.{id_or_made, has_arity, args_count}
use Rattle.r3_model.specs.Turns.{run_on}
use Rattle.r3_model.specs.Fits.{IsFit, IsText, IsListed}
use Rattle.r3_model.specs.Lawful.{IsLimited}
use Rattle.r3_laws.proofs.Fitting.{TxnFits}
use Rattle.r3_laws.proofs.Loads.{AreRows, in_order-rows}
use Rattle.r3_laws.specs.OfStates.{flows_in}
use Rattle.r3_laws.proofs.Texts.{made-utf8}

-- what an entry keeps, whatever it stands behind
pub record IsFitted (e : Entry) : Type 0 where
  pub act : IsAct e.act
  pub reads : AllByRecursion IsRead e.reads
  pub writes : AllByRecursion IsWrite e.writes
  pub few_writes : length e.writes ≤ 1025
  pub few_flows : flows_in e.writes ≤ 1

-- ---- IDs, names and arguments

pub from-not : (b : Bool) → not b ≡ false → b ≡ true
from-not true is = refl
from-not false is = absurd cc

id-length : (n : ℕ) → not (nat_le 1 n && nat_le n 200) ≡ false → (1 ≤ n) × (n ≤ 200)
id-length n is = grind arith

given-utf8 : (h : List Entry) (id : Option Text) → IfThere IsText id → IsTrue (is_utf8 (id_or_made h id))
given-utf8 h None is = made-utf8 (length h)
given-utf8 h (Some id) is = is

pub new-id : (h : List Entry) (id : Option Text) → IfThere IsText id → not (is_id (id_or_made h id)) ≡ false → IsId (id_or_made h id)
new-id h id is test =
    let l = id-length (length (id_or_made h id)) test in
    record { long = l.0; short = l.1; utf8 = given-utf8 h id is }

same-count : (n m : ℕ) → n ≤ 16 → not (n == m) ≡ false → m ≤ 16
same-count n m few is = grind arith

few-args : (n : ℕ) (args : Val) → n ≤ 16 → IsListed args → not (n == args_count args) ≡ false → IsArgs args
few-args n (vals.List vs) few is test = (is, same-count n (count vs) few test)
few-args n vals.Null few is test = absurd is
few-args n (vals.Bool b) few is test = absurd is
few-args n (vals.Int z) few is test = absurd is
few-args n (vals.Text s) few is test = absurd is

pub arity-fits : (P : Language) → IsLimited P → (function : Text) (args : Val) (o : Option ℕ) → P.arity function ≡ o → is_none o ≡ false → not (has_arity o args) ≡ false → IsListed args → IsName function × IsArgs args
arity-fits P limited function args None is some test listed = absurd cc
arity-fits P limited function args (Some n) is some test listed =
    let l = limited.names function n is in
    (l.0, few-args n args l.1 listed test)

queue-by : (queue : Text) (q : Queue) (b : Bool) → bytes_eq q.name queue ≡ b → IsName q.name → ((b ≡ false) → IsName queue) → IsName queue
queue-by queue q true is name other = subst IsName ((bytes_eq-Decides q.name queue).0 is) name
queue-by queue q false is name other = other refl

pub queue-fits : (queue : Text) (qs : List Queue) → AllByRecursion (λ (q : Queue). IsName q.name) qs → list_any (λ (q : Queue). bytes_eq q.name queue) qs ≡ true → IsName queue
queue-fits queue [] all is = absurd cc
queue-fits queue (q ∷ qs) all is =
    queue-by queue q (bytes_eq q.name queue) refl all.0
    (λ no. queue-fits queue qs all.1 (ap (λ (b : Bool). b || list_any (λ (q : Queue). bytes_eq q.name queue) qs) (sym no) ∙ is))

-- ---- rows

pub new-row : (h : List Entry) → length h + 1 ≤ 1000000 → (s : Status) (function : Text) (args : Val) (queue parent : Option Text) → IsName function → IsArgs args → IfThere IsName queue → IfThere IsId parent
    → IsFlow (started s function args queue (length h + 1) parent)
new-row h room s function args queue parent name fit queued born =
    record { function = name; args = fit; outcome = tt; queue = queued; started = (omega arith, room); attempts = omega arith; parent = born }

pub moved-row : (row : FlowRow) (s : Status) (o : Option Outcome) (queue : Option Text) (attempts : ℕ) → IsFlow row → IfThere IsOutcome o → IfThere IsName queue → attempts ≤ 51
    → IsFlow (record row { status = s; outcome = o; queue = queue; attempts = attempts })
moved-row row s o queue attempts is ended queued few =
    record { function = is.function; args = is.args; outcome = ended; queue = queued; started = is.started; attempts = few; parent = is.parent }

below-fifty : (n : ℕ) → nat_lt n 50 ≡ true → n + 1 ≤ 51
below-fifty n is = grind arith

abbrev pub tried : Bool → Status → ℕ → Status × ℕ
tried b s n = if b then (s, n + 1) else (status.MaxRecoveryAttemptsExceeded, 51)

pub attempts-few : (b : Bool) (s : Status) (n : ℕ) → nat_lt n 50 ≡ b → (tried b s n).1 ≤ 51
attempts-few true s n is = below-fifty n is
attempts-few false s n is = omega arith

pub status-row : (row : FlowRow) (s : Status) → IsFlow row → IsFlow (record row { status = s })
status-row row s is = moved-row row s row.outcome row.queue row.attempts is is.outcome is.queue is.attempts

-- ---- what a load writes

put-by : (w v : Key × Option Cell) (vs later : Writes) (o : Ordering) → IsWrite w → IsWrite v → AllByRecursion IsWrite vs → AllByRecursion IsWrite later
    → AllByRecursion IsWrite (by_order o (w ∷ v ∷ vs) ((v.0, w.1) ∷ vs) (v ∷ later))
put-by w v vs later Less a b all more = (a, (b, all))
put-by w v vs later Equal a b all more = ((b.0, a.1), all)
put-by w v vs later Greater a b all more = (b, more)

put-fits : (w : Key × Option Cell) (vs : Writes) → IsWrite w → AllByRecursion IsWrite vs → AllByRecursion IsWrite (put key_cmp w.0 w.1 vs)
put-fits w [] is all = (is, tt)
put-fits w (v ∷ vs) is all = put-by w v vs (put key_cmp w.0 w.1 vs) (key_cmp w.0 v.0) is all.0 all.1 (put-fits w vs is all.1)

puts-fit : (sorted ws : Writes) → AllByRecursion IsWrite sorted → AllByRecursion IsWrite ws → AllByRecursion IsWrite (fold (λ (m : Writes) (w : Key × Option Cell). put key_cmp w.0 w.1 m) sorted ws)
puts-fit sorted [] done all = done
puts-fit sorted (w ∷ ws) done all = puts-fit (put key_cmp w.0 w.1 sorted) ws (put-fits w sorted all.0 done) all.1

rows-fit : (table : Text) (rows : List (Text × Val)) → IsName table → All (λ (r : Text × Val). IsRowKey r.0 × IsVal r.1) rows → AllByRecursion IsWrite (map (row_write table) rows)
rows-fit table [] name all = tt
rows-fit table (r ∷ rs) name all =
    let first : IsRowKey r.0 × IsVal r.1 = all 0 r (omega arith) in
    (((name, first.0), first.1), rows-fit table rs name (λ k d lt. all (suc k) d (omega (arith, lt))))

pub no-flows : (table : Text) (rows : List (Text × Val)) → flows_in (map (row_write table) rows) ≡ 0
no-flows table [] = refl
no-flows table (r ∷ rs) = no-flows table rs

pub load-fitted : (h : List Entry) (table : Text) (rows : List (Text × Val)) → IsName table → IsFit (Load table rows) → IsFitted (plain h acts.Load (in_order (map (row_write table) rows)))
load-fitted h table rows name fit =
    let are : AreRows table (length rows) (in_order (map (row_write table) rows)) = in_order-rows table rows fit.0 in
    record {
      act = tt;
      reads = tt;
      writes = puts-fit [] (map (row_write table) rows) tt (rows-fit table rows name fit.2);
      few_writes = omega (arith, ap (λ (ws : Writes). length ws) are.are, length-map are.rows (row_write table), are.few, fit.1);
      few_flows = omega (arith, ap (λ (ws : Writes). flows_in ws) are.are, no-flows table are.rows);
    }

-- ---- what a fork copies

copies-fit : (id : Text) (k : ℕ) (rows : List StepRow) → IsId id → k + length rows ≤ 1000 → AllByRecursion IsStep rows → AllByRecursion IsWrite (map (λ (s : ℕ × StepRow). step_write id s.0 s.1) (enumerate_from k rows))
copies-fit id k [] is few all = tt
copies-fit id k (r ∷ rs) is few all = (((is, omega (arith, few)), all.0), copies-fit id (k + 1) rs is (omega (arith, few)) all.1)

pub copies-long : (id : Text) (k : ℕ) (rows : List StepRow) → length (map (λ (s : ℕ × StepRow). step_write id s.0 s.1) (enumerate_from k rows)) ≡ length rows
copies-long id k [] = refl
copies-long id k (r ∷ rs) = ap (λ (n : ℕ). suc n) (copies-long id (k + 1) rs)

pub copies-flows : (id : Text) (k : ℕ) (rows : List StepRow) → flows_in (map (λ (s : ℕ × StepRow). step_write id s.0 s.1) (enumerate_from k rows)) ≡ 0
copies-flows id k [] = refl
copies-flows id k (r ∷ rs) = copies-flows id (k + 1) rs

pub fork-fitted : (h : List Entry) (id source : Text) (below : ℕ) (row : FlowRow) (rows : List StepRow) → IsId id → IsId source → below ≤ 1000 → length rows ≤ 1000 → IsFlow row → AllByRecursion IsStep rows
    → IsFitted (plain h (acts.Fork id source below) (flow_write id row ∷ map (λ (s : ℕ × StepRow). step_write id s.0 s.1) (enumerate_from 0 rows)))
fork-fitted h id source below row rows is from few few_rows fit all = record {
  act = (is, from, few);
  reads = tt;
  writes = ((is, fit), copies-fit id 0 rows is (omega (arith, few_rows)) all);
  few_writes = omega (arith, copies-long id 0 rows, few_rows);
  few_flows = omega (arith, copies-flows id 0 rows);
}

-- ---- what a transaction writes

pub puts-long : (ps : List Put) (w : Key × Option Cell) → length (map put_write ps ++ w ∷ []) ≡ length ps + 1
puts-long ps w = omega (arith, length-append (map put_write ps) (w ∷ []), length-map ps put_write)

put-flows : (p : Put) (v : Option Val) (ws : Writes) → flows_in (((put_write p).0, value_cell v) ∷ ws) ≡ flows_in ws
put-flows p None ws = refl
put-flows p (Some v) ws = refl

pub puts-flows : (ps : List Put) (id : Text) (n : ℕ) (r : StepRow) → flows_in (map put_write ps ++ step_write id n r ∷ []) ≡ 0
puts-flows [] id n r = refl
puts-flows (p ∷ ps) id n r = put-flows p p.2 (map put_write ps ++ step_write id n r ∷ []) ∙ puts-flows ps id n r

pub txn-fitted : (P : Language) (h : List Entry) (id : Text) (q : Request) (s : ℕ) → TxnFits P h id q s → length (run_on P h id s q).writes ≤ 1024 → IsFitted (txn_entry h id q s (run_on P h id s q))
txn-fitted P h id q s fits few = record {
  act = ((fits.id_is, fits.number), fits.args);
  reads = fits.reads;
  writes = fits.writes;
  few_writes = omega (arith, puts-long (run_on P h id s q).writes (step_write id q.n (step_row q.name kinds.Txn (run_on P h id s q).outcome)), few);
  few_flows = omega (arith, puts-flows (run_on P h id s q).writes id q.n (step_row q.name kinds.Txn (run_on P h id s q).outcome));
}
