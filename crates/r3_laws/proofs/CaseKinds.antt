-- Each cell that an entry writes is of its key's kind.
use Rattle.std.proofs.Common.{◌≡◌, ℕ, List, [], ◌∷◌, ◌++◌, map, length, take, Option, Some, None, sym, subst, arith}
use Rattle.std.specs.List.{AllByRecursion, enumerate_from}
use Rattle.r3_value.specs.declared.value.Val.{Val}
use Rattle.r3_value.specs.declared.value.Outcome.{Outcome}
use Rattle.r3_rows.specs.declared.rows.FlowRow.{FlowRow}
use Rattle.r3_rows.specs.declared.rows.StepRow.{StepRow}
use Rattle.r3_entry.specs.declared.entry.Entry.{Entry}
use Rattle.r3_entry.specs.Formed.{IsOfKind}
use Rattle.fn_tree.specs.Writes.{Write as Put}
use Rattle.r3_model.specs.Language.{Text, Language}
use Rattle.fn_tree.specs.declared.flow.Request.{Request}
use Rattle.r3_model.specs.Event.{Event}
use Rattle.r3_model.specs.Rows.{steps_at}
use Rattle.r3_model.specs.Acts.{Writes, put_write, value_cell, row_write, step_write, in_order}
use Rattle.r3_model.specs.Turns.{run_on}
use Rattle.r3_laws.proofs.Cases.{AskCase, commits, hears, bears, links, awaits, TurnCase, finishes, goes_on, Case, programs, loads, starts, enqueues, dequeues, turns, cancels, resumes, forks, recovers}
use Rattle.r3_laws.proofs.Loads.{AreRows, in_order-rows}

abbrev pub AreOfKind : Writes → Type 0
AreOfKind ws = AllByRecursion IsOfKind ws

put-kind : (p : Put) (v : Option Val) → IsOfKind ((put_write p).0, value_cell v)
put-kind p None = tt
put-kind p (Some v) = tt

puts-kind : (puts : List Put) (rest : Writes) → AreOfKind rest → AreOfKind (map put_write puts ++ rest)
puts-kind [] rest all = all
puts-kind (p ∷ ps) rest all = (put-kind p p.2, puts-kind ps rest all)

rows-kind : (table : Text) (rows : List (Text × Val)) → AreOfKind (map (row_write table) rows)
rows-kind table [] = tt
rows-kind table (r ∷ rs) = (tt, rows-kind table rs)

load-kind : (table : Text) (rows : List (Text × Val)) → AreOfKind (in_order (map (row_write table) rows))
load-kind table [] = tt
load-kind table (r ∷ rs) =
    let are : AreRows table (length (r ∷ rs)) (in_order (map (row_write table) (r ∷ rs))) = in_order-rows table (r ∷ rs) (omega arith) in
    subst AreOfKind (sym are.are) (rows-kind table are.rows)

copies-kind : (id : Text) (steps : List (ℕ × StepRow)) → AreOfKind (map (λ (s : ℕ × StepRow). step_write id s.0 s.1) steps)
copies-kind id [] = tt
copies-kind id (s ∷ ss) = (tt, copies-kind id ss)

module _ (P : Language) (h : List Entry) (e : Entry) where
  moved : (e0 : Entry) → e ≡ e0 → AreOfKind e0.writes → AreOfKind e.writes
  moved e0 is all = let Of : Entry → Type 0 = λ x. AreOfKind x.writes in subst Of (sym is) all

  ask-kinds : {snap : Option ℕ} {answer : Option Outcome} (id : Text) (q : Request) → AskCase P h id q snap answer e → AreOfKind e.writes
  ask-kinds id q (commits s kind snap_is none is) = moved _ is (puts-kind (run_on P h id s q).writes _ (tt, tt))
  ask-kinds id q (hears o kind heard is) = moved _ is (tt, tt)
  ask-kinds id q (bears kind gone few is) = moved _ is (tt, (tt, tt))
  ask-kinds id q (links child o kind child_is o_is is) = moved _ is (tt, tt)
  ask-kinds id q (awaits o kind found is) = moved _ is (tt, tt)

  turn-kinds : {snap : Option ℕ} {answer : Option Outcome} (id : Text) (row : FlowRow) → TurnCase P h id row snap answer e → AreOfKind e.writes
  turn-kinds id row (finishes o ends is) = moved _ is (tt, tt)
  turn-kinds id row (goes_on q ends c) = ask-kinds id q c

  pub case-kinds : {ev : Event} {snap : Option ℕ} {answer : Option Outcome} → Case P h ev snap answer e → AreOfKind e.writes
  case-kinds (programs text ev is) = moved _ is tt
  case-kinds (loads table rows ev is) = moved _ is (load-kind table rows)
  case-kinds (starts given function args ev gone tests is) = moved _ is (tt, tt)
  case-kinds (enqueues given queue function args ev gone tests is) = moved _ is (tt, tt)
  case-kinds (dequeues queue f ev there waits is) = moved _ is (tt, tt)
  case-kinds (turns id row ev there runs c) = turn-kinds id row c
  case-kinds (cancels id row ev there may is) = moved _ is (tt, tt)
  case-kinds (resumes id row ev there may is) = moved _ is (tt, tt)
  case-kinds (forks given source below row ev gone there tests is) = moved _ is (tt, copies-kind _ (enumerate_from 0 (take below (steps_at h (length h) source))))
  case-kinds (recovers id row ev there runs is) = moved _ is (tt, tt)
