-- An entry writes only steps that have no row yet.
use Rattle.std.proofs.Common.{◌≡◌, ℕ, ◌+◌, Bool, true, false, ◌||◌, List, [], ◌∷◌, ◌++◌, map, length, take, Option, None, refl, sym, ap, ◌∙◌, arith}
use Rattle.std.specs.Prelude.{slice_get}
use Rattle.std.specs.List.{list_any}
use Rattle.std.specs.Ordering.{eq_by_cmp}
use Rattle.std.proofs.lemmas.Option.{slice_get_past}
use Rattle.r3_value.specs.declared.value.Val.{Val}
use Rattle.r3_value.specs.declared.value.Outcome.{Outcome}
use Rattle.r3_rows.specs.declared.rows.Key.{Key}
use Rattle.r3_rows.specs.declared.rows.Key.TheVariants as keys
use Rattle.r3_rows.specs.declared.rows.Cell.{Cell}
use Rattle.r3_rows.specs.declared.rows.FlowRow.{FlowRow}
use Rattle.r3_rows.specs.declared.rows.StepRow.{StepRow}
use Rattle.r3_entry.specs.declared.entry.Entry.{Entry}
use Rattle.r3_rows.specs.Keys.{key_cmp}
use Rattle.r3_rows.specs.KeyOrder.{key_cmp-same}
use Rattle.fn_tree.specs.Writes.{Write as Put}
use Rattle.r3_model.specs.Language.{Text, Language}
use Rattle.fn_tree.specs.declared.flow.Request.{Request}
use Rattle.fn_tree.specs.declared.flow.FlowEnd.TheVariants.{Asks}
use Rattle.r3_model.specs.Event.{Event}
use Rattle.r3_model.specs.Rows.{step_at, steps_at}
use Rattle.r3_model.specs.Acts.{Writes, put_write, row_write, in_order}
use Rattle.r3_model.specs.Commands.{id_or_made}
use Rattle.r3_model.specs.Turns.{flow_end, run_on}
use Rattle.r3_model.specs.Lawful.{IsLawful}
use Rattle.r3_laws.proofs.After.{tied, copies}
use Rattle.r3_laws.proofs.Cases.{AskCase, commits, hears, bears, links, awaits, TurnCase, finishes, goes_on, Case, programs, loads, starts, enqueues, dequeues, turns, cancels, resumes, forks, recovers}
use Rattle.r3_laws.proofs.Loads.{AreRows, in_order-rows}
use Rattle.r3_laws.proofs.Told.{Told}
use Rattle.r3_laws.proofs.ToldBy.{counted}

abbrev pub touches : Writes → Key → Bool
touches ws q = list_any (λ (w : Key × Option Cell). eq_by_cmp key_cmp q w.0) ws

module _ (id : Text) (n : ℕ) where
  abbrev step : Key
  step = keys.Step id n

  puts-touch : (puts : List Put) (rest : Writes) → touches (map put_write puts ++ rest) step ≡ touches rest step
  puts-touch [] rest = refl
  puts-touch (p ∷ ps) rest = puts-touch ps rest

  rows-touch : (table : Text) (rows : List (Text × Val)) → touches (map (row_write table) rows) step ≡ false
  rows-touch table [] = refl
  rows-touch table (r ∷ rs) = rows-touch table rs

  load-touch : (table : Text) (rows : List (Text × Val)) → touches (in_order (map (row_write table) rows)) step ≡ false
  load-touch table [] = refl
  load-touch table (r ∷ rs) =
      let are : AreRows table (length (r ∷ rs)) (in_order (map (row_write table) (r ∷ rs))) = in_order-rows table (r ∷ rs) (omega arith) in
      ap (λ (ws : Writes). touches ws step) are.are ∙ rows-touch table are.rows

  either : {A : Type 0} (a b : Bool) → (a || b) ≡ true → (a ≡ true → A) → (b ≡ true → A) → A
  either true b e one two = one refl
  either false b e one two = two e

  same-step : (other : Text) (m : ℕ) → eq_by_cmp key_cmp step (keys.Step other m) ≡ true → (id ≡ other) × (n ≡ m)
  same-step other m is =
      let same : step ≡ keys.Step other m = key_cmp-same step (keys.Step other m) (tied (key_cmp step (keys.Step other m)) is) in
      (let e : keys.Step id n ≡ keys.Step other m = same in cc, let e : keys.Step id n ≡ keys.Step other m = same in cc)

  copies-touch : (other : Text) (k : ℕ) (rows : List StepRow) → touches (copies other k rows) step ≡ true → id ≡ other
  copies-touch other k [] is = absurd cc
  copies-touch other k (r ∷ rs) is = either (eq_by_cmp key_cmp step (keys.Step other k)) (touches (copies other (k + 1) rs) step) is (λ here. (same-step other k here).0) (λ later. copies-touch other (k + 1) rs later)

module _ (P : Language) (lawful : IsLawful P) (h : List Entry) (all : (id : Text) → Told P h id) (e : Entry) (id : Text) (n : ℕ) (writes : touches e.writes (keys.Step id n) ≡ true) where
  abbrev IsNew : Type 0
  IsNew = step_at h (length h) id n ≡ None

  writes-so : (e0 : Entry) → e ≡ e0 → touches e0.writes (keys.Step id n) ≡ true
  writes-so e0 is = ap (λ (x : Entry). touches x.writes (keys.Step id n)) (sym is) ∙ writes

  never : false ≡ true → IsNew
  never is = absurd cc

  -- the step that was asked for
  asked-new : (own : Text) (row : FlowRow) (q : Request) → flow_end P h own row ≡ Asks q → (eq_by_cmp key_cmp (keys.Step id n) (keys.Step own q.n) || false) ≡ true → IsNew
  asked-new own row q ends is =
      either id n (eq_by_cmp key_cmp (keys.Step id n) (keys.Step own q.n)) false is
      (λ here.
      let same = same-step id n own q.n here in
      let c = counted P lawful h all e id own row q ends in
      ap (λ (x : Text). step_at h (length h) x n) same.0 ∙ (all own).are n ∙ slice_get_past (all own).steps n (omega (arith, c.0, same.1)))
      never

  ask-new : {snap : Option ℕ} {answer : Option Outcome} (own : Text) (row : FlowRow) (q : Request) → flow_end P h own row ≡ Asks q → AskCase P h own q snap answer e → IsNew
  ask-new own row q ends (commits s kind snap_is none is) = asked-new own row q ends (sym (puts-touch id n (run_on P h own s q).writes _) ∙ writes-so _ is)
  ask-new own row q ends (hears o kind heard is) = asked-new own row q ends (writes-so _ is)
  ask-new own row q ends (bears kind gone few is) = asked-new own row q ends (writes-so _ is)
  ask-new own row q ends (links child o kind child_is o_is is) = asked-new own row q ends (writes-so _ is)
  ask-new own row q ends (awaits o kind found is) = asked-new own row q ends (writes-so _ is)

  turn-new : {snap : Option ℕ} {answer : Option Outcome} (own : Text) (row : FlowRow) → TurnCase P h own row snap answer e → IsNew
  turn-new own row (finishes o ends is) = never (writes-so _ is)
  turn-new own row (goes_on q ends c) = ask-new own row q ends c

  pub case-new : {ev : Event} {snap : Option ℕ} {answer : Option Outcome} → Case P h ev snap answer e → IsNew
  case-new (programs text ev is) = never (writes-so _ is)
  case-new (loads table rows ev is) = never (sym (load-touch id n table rows) ∙ writes-so _ is)
  case-new (starts given function args ev gone tests is) = never (writes-so _ is)
  case-new (enqueues given queue function args ev gone tests is) = never (writes-so _ is)
  case-new (dequeues queue f ev there waits is) = never (writes-so _ is)
  case-new (turns own row ev there runs c) = turn-new own row c
  case-new (cancels own row ev there may is) = never (writes-so _ is)
  case-new (resumes own row ev there may is) = never (writes-so _ is)
  case-new (forks given source below row ev gone there tests is) =
      let own = id_or_made h given in
      let same : id ≡ own = copies-touch id n own 0 (take below (steps_at h (length h) source)) (writes-so _ is) in
      ap (λ (x : Text). step_at h (length h) x n) same ∙ (all own).are n ∙ ap (λ (s : List StepRow). slice_get s n) ((all own).fresh gone)
  case-new (recovers own row ev there runs is) = never (writes-so _ is)
