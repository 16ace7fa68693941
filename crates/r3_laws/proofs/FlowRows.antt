-- Each Flow row that an entry writes on a formed history has the outcome, the queue and the number that its status asks for.
use Rattle.std.proofs.Common.{◌≡◌, ℕ, ◌+◌, ◌≤◌, Bool, true, false, List, [], ◌∷◌, ◌++◌, map, take, length, Option, Some, None, refl, sym, subst, ap, ◌∙◌, arith, length-append}
use Rattle.std.specs.Prelude.{option_and_then, IsSome, if◌then◌else◌, nat_lt}
use Rattle.std.specs.List.{AllByRecursion, enumerate_from}
use Rattle.r3_value.specs.declared.value.Val.{Val}
use Rattle.r3_value.specs.declared.value.Outcome.{Outcome}
use Rattle.r3_value.specs.declared.value.Outcome.TheVariants as outcomes
use Rattle.r3_rows.specs.declared.rows.Key.{Key}
use Rattle.r3_rows.specs.declared.rows.Key.TheVariants as keys
use Rattle.r3_rows.specs.declared.rows.Cell.{Cell}
use Rattle.r3_rows.specs.declared.rows.Cell.TheVariants as cells
use Rattle.r3_rows.specs.declared.rows.FlowRow.{FlowRow}
use Rattle.r3_rows.specs.declared.rows.StepRow.{StepRow}
use Rattle.r3_rows.specs.declared.rows.Status.{Status}
use Rattle.r3_rows.specs.declared.rows.Status.TheVariants as status
use Rattle.r3_entry.specs.declared.entry.Entry.{Entry}
use Rattle.r3_entry.specs.Formed.{FollowEachOther, IsFormed, IsFlowRow, HasOutcome, IsOfKind}
use Rattle.r3_entry.specs.History.{cell_at}
use Rattle.fn_tree.specs.Writes.{Write as Put}
use Rattle.r3_model.specs.Language.{Text, Language}
use Rattle.fn_tree.specs.declared.flow.Request.{Request}
use Rattle.r3_model.specs.Event.{Event}
use Rattle.r3_model.specs.Rows.{flow_of, flow_at, steps_at}
use Rattle.r3_model.specs.Acts.{Writes, put_write, value_cell, row_write, step_write, in_order, status_of}
use Rattle.sys_flow.specs.Statuses.{may_cancel, may_resume, recovered}
use Rattle.r3_model.specs.Turns.{run_on}
use Rattle.r3_laws.proofs.Cases.{AskCase, commits, hears, bears, links, awaits, finishes, goes_on, Case, programs, loads, starts, enqueues, dequeues, turns, cancels, resumes, forks, recovers}
use Rattle.r3_laws.proofs.Cells.{AllWrites, cell-holds}
use Rattle.r3_laws.proofs.Loads.{AreRows, in_order-rows}

-- ---- what a formed history says of its rows

weaker : (j n : ℕ) → j ≤ n → (w : Key × Option Cell) → IsFlowRow j w → IsFlowRow n w
weaker j n le (k, None) is = tt
weaker j n le (k, Some (cells.Row v)) is = tt
weaker j n le (k, Some (cells.Step r)) is = tt
weaker j n le (k, Some (cells.Flow r)) is = (is.0, is.1, omega (arith, is.2))

all-weaker : (j n : ℕ) → j ≤ n → (ws : Writes) → AllByRecursion (IsFlowRow j) ws → AllByRecursion (IsFlowRow n) ws
all-weaker j n le [] all = tt
all-weaker j n le (w ∷ ws) all = (weaker j n le w all.0, all-weaker j n le ws all.1)

rows-follow : (g es : List Entry) (n : ℕ) → length g + length es ≤ n → FollowEachOther g es → AllWrites (IsFlowRow n) es
rows-follow g [] n le all = tt
rows-follow g (e ∷ es) n le all = (all-weaker (length g + 1) n (omega arith) e.writes all.0.flows, rows-follow (g ++ e ∷ []) es n (omega (arith, length-append g (e ∷ []))) all.1)

pub kinds-follow : (g es : List Entry) → FollowEachOther g es → AllWrites IsOfKind es
kinds-follow g [] all = tt
kinds-follow g (e ∷ es) all = (all.0.kinds, kinds-follow (g ++ e ∷ []) es all.1)

pub flow-cell : (c : Option Cell) (row : FlowRow) → option_and_then flow_of c ≡ Some row → c ≡ Some (cells.Flow row)
flow-cell None row is = absurd (let z : None ≡ Some row = is in cc)
flow-cell (Some (cells.Row v)) row is = absurd (let z : None ≡ Some row = is in cc)
flow-cell (Some (cells.Step r)) row is = absurd (let z : None ≡ Some row = is in cc)
flow-cell (Some (cells.Flow r)) row is = let same : r ≡ row = (let z : Some r ≡ Some row = is in cc) in ap (λ (x : FlowRow). Some (cells.Flow x)) same

module _ (h : List Entry) (formed : IsFormed h) where
  abbrev IsRow : FlowRow → Type 0
  IsRow row = HasOutcome row.status row.outcome × (row.status ≡ status.Enqueued → IsSome row.queue) × (row.started ≤ length h)

  pub row-formed : (id : Text) (row : FlowRow) → flow_at h (length h) id ≡ Some row → IsRow row
  row-formed id row there =
      cell-holds (IsFlowRow (length h)) h (length h) (keys.Flow id) (cells.Flow row) (rows-follow [] h (length h) (omega arith) formed.entries) (flow-cell (cell_at h (length h) (keys.Flow id)) row there)

  -- ---- the rows of each entry

  abbrev AreRowsNow : Writes → Type 0
  AreRowsNow ws = AllByRecursion (IsFlowRow (length h + 1)) ws

  no-outcome : (s t : Status) (o : Option Outcome) → HasOutcome s None → HasOutcome t None → HasOutcome s o → HasOutcome t o
  no-outcome s t None one two has = two
  no-outcome status.Success t (Some o) one two has = absurd one
  no-outcome status.Error t (Some o) one two has = absurd one
  no-outcome status.Enqueued t (Some o) one two has = absurd has
  no-outcome status.Pending t (Some o) one two has = absurd has
  no-outcome status.Cancelled t (Some o) one two has = absurd has
  no-outcome status.MaxRecoveryAttemptsExceeded t (Some o) one two has = absurd has

  open-none : (s : Status) → may_cancel s ≡ true → HasOutcome s None
  open-none status.Enqueued may = tt
  open-none status.Pending may = tt
  open-none status.Success may = absurd cc
  open-none status.Error may = absurd cc
  open-none status.Cancelled may = absurd cc
  open-none status.MaxRecoveryAttemptsExceeded may = absurd cc

  shut-none : (s : Status) → may_resume s ≡ true → HasOutcome s None
  shut-none status.Cancelled may = tt
  shut-none status.MaxRecoveryAttemptsExceeded may = tt
  shut-none status.Enqueued may = absurd cc
  shut-none status.Pending may = absurd cc
  shut-none status.Success may = absurd cc
  shut-none status.Error may = absurd cc

  ends-so : (o : Outcome) → HasOutcome (status_of o) (Some o)
  ends-so (outcomes.Value v) = tt
  ends-so (outcomes.Failure word) = tt

  ends-other : {A : Type 0} (o : Outcome) → status_of o ≡ status.Enqueued → A
  ends-other (outcomes.Value v) is = absurd cc
  ends-other (outcomes.Failure word) is = absurd cc

  abbrev next_of : Status → Bool → ℕ → Status × ℕ
  next_of s b n = if b then (s, n + 1) else (status.MaxRecoveryAttemptsExceeded, 51)

  attempts-none : (s : Status) (b : Bool) (n : ℕ) → HasOutcome s None → HasOutcome (next_of s b n).0 None
  attempts-none s true n has = has
  attempts-none s false n has = tt

  attempts-other : {A : Type 0} (s : Status) (b : Bool) (n : ℕ) → s ≡ status.Pending → (next_of s b n).0 ≡ status.Enqueued → A
  attempts-other s true n runs is = absurd (let z : status.Pending ≡ status.Enqueued = sym runs ∙ is in cc)
  attempts-other s false n runs is = absurd cc

  none-at : (s : Status) (t : Status) → s ≡ t → HasOutcome t None → HasOutcome s None
  none-at s t is has = let Of : Status → Type 0 = λ x. HasOutcome x None in subst Of (sym is) has

  puts-rows : (puts : List Put) (rest : Writes) → AreRowsNow rest → AreRowsNow (map put_write puts ++ rest)
  puts-rows [] rest all = all
  puts-rows (p ∷ ps) rest all = (by_value p.2, puts-rows ps rest all) where
    by_value : (v : Option Val) → IsFlowRow (length h + 1) ((put_write p).0, value_cell v)
    by_value None = tt
    by_value (Some v) = tt

  user-rows : (table : Text) (rows : List (Text × Val)) → AreRowsNow (map (row_write table) rows)
  user-rows table [] = tt
  user-rows table (r ∷ rs) = (tt, user-rows table rs)

  load-rows : (table : Text) (rows : List (Text × Val)) → AreRowsNow (in_order (map (row_write table) rows))
  load-rows table [] = tt
  load-rows table (r ∷ rs) =
      let are : AreRows table (length (r ∷ rs)) (in_order (map (row_write table) (r ∷ rs))) = in_order-rows table (r ∷ rs) (omega arith) in
      subst AreRowsNow (sym are.are) (user-rows table are.rows)

  step-rows : (id : Text) (steps : List (ℕ × StepRow)) → AreRowsNow (map (λ (s : ℕ × StepRow). step_write id s.0 s.1) steps)
  step-rows id [] = tt
  step-rows id (s ∷ ss) = (tt, step-rows id ss)

  module _ (P : Language) (e : Entry) where
    moved : (e0 : Entry) → e ≡ e0 → AreRowsNow e0.writes → AreRowsNow e.writes
    moved e0 is all = let Of : Entry → Type 0 = λ x. AreRowsNow x.writes in subst Of (sym is) all

    ask-rows : {snap : Option ℕ} {answer : Option Outcome} (id : Text) (q : Request) → AskCase P h id q snap answer e → AreRowsNow e.writes
    ask-rows id q (commits s kind snap_is none is) = moved _ is (puts-rows (run_on P h id s q).writes _ (tt, tt))
    ask-rows id q (hears o kind heard is) = moved _ is (tt, tt)
    ask-rows id q (bears kind gone few is) = moved _ is ((tt, λ z. absurd cc, omega arith), (tt, tt))
    ask-rows id q (links child o kind child_is o_is is) = moved _ is (tt, tt)
    ask-rows id q (awaits o kind found is) = moved _ is (tt, tt)

    pub case-rows : {ev : Event} {snap : Option ℕ} {answer : Option Outcome} → Case P h ev snap answer e → AreRowsNow e.writes
    case-rows (programs text ev is) = moved _ is tt
    case-rows (loads table rows ev is) = moved _ is (load-rows table rows)
    case-rows (starts given function args ev gone tests is) = moved _ is ((tt, λ z. absurd cc, omega arith), tt)
    case-rows (enqueues given queue function args ev gone tests is) = moved _ is ((tt, λ z. refl, omega arith), tt)
    case-rows (dequeues queue f ev there waits is) =
        let r = row-formed f.id f.row there in
        moved _ is ((no-outcome f.row.status status.Pending f.row.outcome (none-at f.row.status status.Enqueued waits tt) tt r.0, λ z. absurd cc, omega (arith, r.2)), tt)
    case-rows (turns id row ev there runs (finishes o ends is)) = let r = row-formed id row there in moved _ is ((ends-so o, λ z. ends-other o z, omega (arith, r.2)), tt)
    case-rows (turns id row ev there runs (goes_on q ends c)) = ask-rows id q c
    case-rows (cancels id row ev there may is) =
        let r = row-formed id row there in
        moved _ is ((no-outcome row.status status.Cancelled row.outcome (open-none row.status may) tt r.0, λ z. absurd cc, omega (arith, r.2)), tt)
    case-rows (resumes id row ev there may is) =
        let r = row-formed id row there in
        moved _ is ((no-outcome row.status status.Pending row.outcome (shut-none row.status may) tt r.0, λ z. absurd cc, omega (arith, r.2)), tt)
    case-rows (forks given source below row ev gone there tests is) = moved _ is ((tt, λ z. absurd cc, omega arith), step-rows _ (enumerate_from 0 (take below (steps_at h (length h) source))))
    case-rows (recovers id row ev there runs is) =
        let r = row-formed id row there in
        let none : HasOutcome row.status None = none-at row.status status.Pending runs tt in
        let next : Status × ℕ = recovered row.status row.attempts in
        moved _ is ((no-outcome row.status next.0 row.outcome none (attempts-none row.status (nat_lt row.attempts 50) row.attempts none) r.0, λ z. attempts-other row.status (nat_lt row.attempts 50) row.attempts runs z, omega (arith, r.2)), tt)
