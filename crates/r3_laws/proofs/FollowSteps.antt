-- The steps that an event's entry writes on a formed history are new ones of a workflow that is there.
use Rattle.std.proofs.Common.{◌≡◌, ℕ, ◌+◌, ◌<◌, Bool, cond, List, [], ◌∷◌, ◌++◌, map, take, length, Option, Some, None, sym, subst, ap, ◌∙◌, arith}
use Rattle.std.specs.Prelude.{is_some, IsSome}
use Rattle.std.specs.List.{AllByRecursion}
use Rattle.std.proofs.lemmas.List.{length-map}
use Rattle.r3_value.specs.declared.value.Val.{Val}
use Rattle.r3_value.specs.declared.value.Outcome.{Outcome}
use Rattle.r3_rows.specs.declared.rows.Key.TheVariants as keys
use Rattle.r3_rows.specs.declared.rows.Cell.{Cell}
use Rattle.r3_rows.specs.declared.rows.Cell.TheVariants as cells
use Rattle.r3_rows.specs.declared.rows.FlowRow.{FlowRow}
use Rattle.r3_rows.specs.declared.rows.StepRow.{StepRow}
use Rattle.r3_entry.specs.declared.entry.Entry.{Entry}
use Rattle.r3_entry.specs.Formed.{IsFormed, IsNewStep}
use Rattle.r3_entry.specs.History.{cell_at, version_at}
use Rattle.fn_tree.specs.Writes.{Write as Put}
use Rattle.r3_model.specs.Language.{Text, Language}
use Rattle.fn_tree.specs.declared.flow.Request.{Request}
use Rattle.fn_tree.specs.declared.flow.FlowEnd.{FlowEnd}
use Rattle.fn_tree.specs.declared.flow.FlowEnd.TheVariants.{Asks}
use Rattle.r3_model.specs.Event.{Event}
use Rattle.r3_model.specs.Rows.{flow_at, step_at, steps_at, answer_of}
use Rattle.r3_model.specs.Acts.{Writes, put_write, row_write, flow_write, in_order}
use Rattle.r3_model.specs.Commands.{id_or_made}
use Rattle.r3_model.specs.Turns.{flow_end, run_on}
use Rattle.r3_model.specs.Lawful.{IsLawful, Counts}
use Rattle.r3_laws.proofs.After.{after, cell-after, copies, copies-flow}
use Rattle.r3_laws.proofs.Asks.{steps_at-end}
use Rattle.r3_laws.proofs.CaseKinds.{case-kinds}
use Rattle.r3_laws.proofs.Cases.{AskCase, commits, hears, bears, links, awaits, TurnCase, finishes, goes_on, Case, programs, loads, starts, enqueues, dequeues, turns, cancels, resumes, forks, recovers}
use Rattle.r3_laws.proofs.Loads.{AreRows, in_order-rows}
use Rattle.r3_laws.proofs.StepRows.{version-none, steps-none, flow-stays, some-flow}
use Rattle.r3_laws.proofs.Tells.{tie-refl}

module _ (P : Language) (lawful : IsLawful P) (h : List Entry) (formed : IsFormed h) (e : Entry) where
  abbrev new : List Entry
  new = h ++ e ∷ []

  abbrev AreNew : Writes → Type 0
  AreNew ws = AllByRecursion (IsNewStep h (h ++ e ∷ [])) ws

  moved : (e0 : Entry) → e ≡ e0 → AreNew e0.writes → AreNew e.writes
  moved e0 is all = subst AreNew (ap (λ (x : Entry). x.writes) (sym is)) all

  puts-new : (puts : List Put) (rest : Writes) → AreNew rest → AreNew (map put_write puts ++ rest)
  puts-new [] rest all = all
  puts-new (p ∷ ps) rest all = (tt, puts-new ps rest all)

  rows-new : (table : Text) (rows : List (Text × Val)) → AreNew (map (row_write table) rows)
  rows-new table [] = tt
  rows-new table (r ∷ rs) = (tt, rows-new table rs)

  load-new : (table : Text) (rows : List (Text × Val)) → AreNew (in_order (map (row_write table) rows))
  load-new table [] = tt
  load-new table (r ∷ rs) =
      let are : AreRows table (length (r ∷ rs)) (in_order (map (row_write table) (r ∷ rs))) = in_order-rows table (r ∷ rs) (omega arith) in
      subst AreNew (sym are.are) (rows-new table are.rows)

  -- the step that is asked for has no row
  asked-none : (id : Text) (row : FlowRow) (q : Request) → flow_end P h id row ≡ Asks q → step_at h (length h) id q.n ≡ None
  asked-none id row q ends =
      let steps : List StepRow = steps_at h (length h) id in
      let Of : FlowEnd → Type 0 = Counts (length (map answer_of steps)) in
      let c : (q.n ≡ length (map answer_of steps)) × (length (map answer_of steps) < 1000) = subst Of ends (lawful.counts row.function row.args (map answer_of steps)) in
      let even : length (map answer_of steps) ≡ length steps = length-map steps answer_of in
      ap (λ (m : ℕ). step_at h (length h) id m) (c.0 ∙ even) ∙ steps_at-end h (length h) id (omega (arith, c.1, even))

  a_step : {ev : Event} {snap : Option ℕ} {answer : Option Outcome} (id : Text) (row : FlowRow) (q : Request) → Case P h ev snap answer e → flow_at h (length h) id ≡ Some row → flow_end P h id row ≡ Asks q
      → (version_at h (length h) (keys.Step id q.n) ≡ 0) × IsSome (cell_at (h ++ e ∷ []) (length (h ++ e ∷ [])) (keys.Flow id))
  a_step id row q c there ends = (
    version-none h id q.n formed (asked-none id row q ends),
    some-flow (cell_at new (length new) (keys.Flow id)) (flow-stays h e id (case-kinds P h e c) (ap (λ (o : Option FlowRow). is_some o) there)),
  )

  copies-new : (id : Text) (k : ℕ) (rows : List StepRow) → flow_at h (length h) id ≡ None → IsSome (cell_at (h ++ e ∷ []) (length (h ++ e ∷ [])) (keys.Flow id)) → AreNew (copies id k rows)
  copies-new id k [] gone here = tt
  copies-new id k (r ∷ rs) gone here = ((version-none h id k formed (steps-none h id k formed gone), here), copies-new id (k + 1) rs gone here)

  fork-here : (id : Text) (row : FlowRow) (rows : List StepRow) → e.writes ≡ flow_write id row ∷ copies id 0 rows → IsSome (cell_at (h ++ e ∷ []) (length (h ++ e ∷ [])) (keys.Flow id))
  fork-here id row rows is =
      let old : Option Cell = cell_at h (length h) (keys.Flow id) in
      let there : cell_at new (length new) (keys.Flow id) ≡ Some (cells.Flow row) =
      cell-after h e (keys.Flow id)
      ∙ ap (λ (ws : Writes). after ws (keys.Flow id) old) is
      ∙ ap (λ (b : Bool). after (copies id 0 rows) (keys.Flow id) (cond b (Some (cells.Flow row)) old)) (tie-refl (keys.Flow id))
      ∙ copies-flow id 0 rows (Some (cells.Flow row)) in
      ap (λ (c : Option Cell). is_some c) there

  ask-new : {ev : Event} {snap : Option ℕ} {answer : Option Outcome} (id : Text) (row : FlowRow) (q : Request) → Case P h ev snap answer e → flow_at h (length h) id ≡ Some row → flow_end P h id row ≡ Asks q → AskCase P h id q snap answer e → AreNew e.writes
  ask-new id row q c there ends (commits s kind snap_is none is) = moved _ is (puts-new (run_on P h id s q).writes _ (a_step id row q c there ends, tt))
  ask-new id row q c there ends (hears o kind heard is) = moved _ is (a_step id row q c there ends, tt)
  ask-new id row q c there ends (bears kind gone few is) = moved _ is (tt, (a_step id row q c there ends, tt))
  ask-new id row q c there ends (links child o kind child_is o_is is) = moved _ is (a_step id row q c there ends, tt)
  ask-new id row q c there ends (awaits o kind found is) = moved _ is (a_step id row q c there ends, tt)

  by_turn : {ev : Event} {snap : Option ℕ} {answer : Option Outcome} (id : Text) (row : FlowRow) → Case P h ev snap answer e → flow_at h (length h) id ≡ Some row → TurnCase P h id row snap answer e → AreNew e.writes
  by_turn id row c there (finishes o ends is) = moved _ is (tt, tt)
  by_turn id row c there (goes_on q ends a) = ask-new id row q c there ends a

  by_case : {ev : Event} {snap : Option ℕ} {answer : Option Outcome} → Case P h ev snap answer e → Case P h ev snap answer e → AreNew e.writes
  by_case c (programs text ev is) = moved _ is tt
  by_case c (loads table rows ev is) = moved _ is (load-new table rows)
  by_case c (starts given function args ev gone tests is) = moved _ is (tt, tt)
  by_case c (enqueues given queue function args ev gone tests is) = moved _ is (tt, tt)
  by_case c (dequeues queue f ev there waits is) = moved _ is (tt, tt)
  by_case c (turns id row ev there runs t) = by_turn id row c there t
  by_case c (cancels id row ev there may is) = moved _ is (tt, tt)
  by_case c (resumes id row ev there may is) = moved _ is (tt, tt)
  by_case c (recovers id row ev there runs is) = moved _ is (tt, tt)
  by_case c (forks given source below row ev gone there tests is) =
      moved _ is (tt, copies-new (id_or_made h given) 0 (take below (steps_at h (length h) source)) gone (fork-here (id_or_made h given) _ (take below (steps_at h (length h) source)) (ap (λ (x : Entry). x.writes) is)))

  pub case-steps : {ev : Event} {snap : Option ℕ} {answer : Option Outcome} → Case P h ev snap answer e → AreNew e.writes
  case-steps c = by_case c c
