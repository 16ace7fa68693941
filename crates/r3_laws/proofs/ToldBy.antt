-- On a made history each workflow's recorded steps are what it asked for.
use Rattle.std.proofs.Common.{◌≡◌, ℕ, ◌+◌, ◌<◌, ◌≤◌, Bool, true, false, List, [], ◌∷◌, ◌++◌, map, length, take, Option, Some, None, refl, sym, subst, ap, ◌∙◌, arith, length-take}
use Rattle.std.specs.Prelude.{bytes_eq}
use Rattle.std.specs.List.{enumerate_from}
use Rattle.std.proofs.lemmas.List.{length-map}
use Rattle.std.proofs.lemmas.Slice.Eq.{bytes_eq-Decides}
use Rattle.r3_value.specs.declared.value.Val.{Val}
use Rattle.r3_value.specs.declared.value.Val.TheVariants as vals
use Rattle.r3_value.specs.declared.value.Outcome.{Outcome}
use Rattle.r3_value.specs.declared.value.Outcome.TheVariants as outcomes
use Rattle.r3_rows.specs.declared.rows.FlowRow.{FlowRow}
use Rattle.r3_rows.specs.declared.rows.Status.TheVariants as status
use Rattle.r3_rows.specs.declared.rows.StepRow.{StepRow}
use Rattle.r3_rows.specs.declared.rows.StepKind.{StepKind}
use Rattle.r3_rows.specs.declared.rows.StepKind.TheVariants as kinds
use Rattle.r3_entry.specs.declared.entry.Entry.{Entry}
use Rattle.fn_tree.specs.Writes.{Write as Put}
use Rattle.r3_model.specs.Language.{Text, Language}
use Rattle.fn_tree.specs.declared.flow.Request.{Request}
use Rattle.fn_tree.specs.declared.flow.FlowEnd.{FlowEnd}
use Rattle.fn_tree.specs.declared.flow.FlowEnd.TheVariants.{Asks}
use Rattle.r3_model.specs.Event.{Event}
use Rattle.sys_flow.specs.Children.{child_id}
use Rattle.r3_model.specs.Rows.{flow_at, steps_at, answer_of}
use Rattle.r3_model.specs.Acts.{Writes, put_write, step_write, step_row, child_write, started, status_of}
use Rattle.r3_model.specs.Commands.{id_or_made}
use Rattle.sys_flow.specs.Statuses.{recovered}
use Rattle.r3_model.specs.Turns.{flow_end, run_on}
use Rattle.r3_model.specs.Lawful.{IsLawful, Counts}
use Rattle.r3_laws.proofs.Cases.{AskCase, commits, hears, bears, links, awaits, TurnCase, finishes, goes_on, Case, programs, loads, starts, enqueues, dequeues, turns, cancels, resumes, forks, recovers}
use Rattle.r3_laws.proofs.Frame.{IsQuiet}
use Rattle.r3_laws.proofs.Quiet.{leaves, other-first, puts-leave, load-leaves, steps-leave}
use Rattle.r3_laws.proofs.Expected.{Expected, expected-none, expected-take}
use Rattle.r3_laws.proofs.Told.{Told, told-steps}
use Rattle.r3_laws.proofs.ToldOn.{told-quiet, told-row, told-fork, told-step}

puts-quiet : (i : Text) (puts : List Put) → leaves i (map put_write puts) ≡ false
puts-quiet i [] = refl
puts-quiet i (p ∷ ps) = puts-quiet i ps

split : {A : Type 0} (id i : Text) (b : Bool) → bytes_eq id i ≡ b → (id ≡ i → A) → (bytes_eq id i ≡ false → A) → A
split id i true is same other = same ((bytes_eq-Decides id i).0 is)
split id i false is same other = other is

pub ids-apart : (h : List Entry) (a b : Text) (row : FlowRow) → flow_at h (length h) a ≡ None → flow_at h (length h) b ≡ Some row → bytes_eq a b ≡ false
ids-apart h a b row gone there =
    split a b (bytes_eq a b) refl (λ same. absurd (let clash : None ≡ Some row = sym gone ∙ ap (λ (x : Text). flow_at h (length h) x) same ∙ there in let z : None ≡ Some row = clash in cc)) (λ apart. apart)

pub bytes_apart : (a b : Text) → bytes_eq a b ≡ false → bytes_eq b a ≡ false
bytes_apart a b apart =
    split b a (bytes_eq b a) refl (λ same. absurd (let clash : false ≡ true = sym apart ∙ (bytes_eq-Decides a b).1 (sym same) in cc)) (λ other. other)

module _ (P : Language) (lawful : IsLawful P) (h : List Entry) (all : (id : Text) → Told P h id) (e : Entry) (i : Text) where
  abbrev Later : Text → Type 0
  Later id = Told P (h ++ e ∷ []) id

  writes-are : (e0 : Entry) → e ≡ e0 → e.writes ≡ e0.writes
  writes-are e0 is = ap (λ (x : Entry). x.writes) is

  quiet-are : (e0 : Entry) → e ≡ e0 → IsQuiet i e0 → Later i
  quiet-are e0 is quiet = told-quiet P h e i (all i) (ap (leaves i) (writes-are e0 is) ∙ quiet)

  -- an entry of the workflow id
  of_one : (id : Text) (e0 : Entry) → e ≡ e0 → (bytes_eq id i ≡ false → IsQuiet i e0) → Later id → Later i
  of_one id e0 is quiet here = split id i (bytes_eq id i) refl (λ same. subst Later same here) (λ other. quiet-are e0 is (quiet other))

  on_fresh : (id function : Text) (args : Val) → flow_at h (length h) id ≡ None → Expected P function args (all id).steps
  on_fresh id function args gone = let Of : List StepRow → Type 0 = λ s. Expected P function args s in subst Of (sym ((all id).fresh gone)) (expected-none P function args)

  -- ---- what was asked for

  abbrev ended_is : (id : Text) (row : FlowRow) (q : Request) → flow_end P h id row ≡ Asks q → P.flow row.function row.args (map answer_of (all id).steps) ≡ Asks q
  ended_is id row q ends = ap (λ (s : List StepRow). P.flow row.function row.args (map answer_of s)) (sym (told-steps P h id (all id))) ∙ ends

  pub counted : (id : Text) (row : FlowRow) (q : Request) → flow_end P h id row ≡ Asks q → (q.n ≡ length (all id).steps) × (length (all id).steps < 1000)
  counted id row q ends =
      let steps = (all id).steps in
      let Of : FlowEnd → Type 0 = Counts (length (map answer_of steps)) in
      let c : (q.n ≡ length (map answer_of steps)) × (length (map answer_of steps) < 1000) = subst Of (ended_is id row q ends) (lawful.counts row.function row.args (map answer_of steps)) in
      let even : length (map answer_of steps) ≡ length steps = length-map steps answer_of in
      (c.0 ∙ even, omega (arith, c.1, even))

  a_step : (id : Text) (row : FlowRow) (q : Request) (kind : StepKind) (o : Outcome) (first : Writes) → flow_at h (length h) id ≡ Some row → flow_end P h id row ≡ Asks q → e.writes ≡ first ++ step_write id q.n (step_row q.name kind o) ∷ [] → leaves id first ≡ false → Later id
  a_step id row q kind o first there ends is quiet =
      let c = counted id row q ends in
      told-step P h e id (all id) first q.n (step_row q.name kind o) is quiet c.0 (omega (arith, c.0, c.1)) row there (record { request = q; asks = ended_is id row q ends; name_is = refl })

  ask-told : {snap : Option ℕ} {answer : Option Outcome} (id : Text) (row : FlowRow) (q : Request) → flow_at h (length h) id ≡ Some row → flow_end P h id row ≡ Asks q → AskCase P h id q snap answer e → Later i
  ask-told id row q there ends (commits s kind snap_is none is) =
      of_one id _ is (λ other. puts-leave i (run_on P h id s q).writes (step_write id q.n (step_row q.name kinds.Txn (run_on P h id s q).outcome) ∷ []) (other-first i id [] other refl))
      (a_step id row q kinds.Txn (run_on P h id s q).outcome (map put_write (run_on P h id s q).writes) there ends (writes-are _ is) (puts-quiet id (run_on P h id s q).writes))
  ask-told id row q there ends (hears o kind heard is) = of_one id _ is (λ other. other-first i id [] other refl) (a_step id row q kinds.Outside o [] there ends (writes-are _ is) refl)
  ask-told id row q there ends (links child o kind child_is o_is is) = of_one id _ is (λ other. other-first i id [] other refl) (a_step id row q kinds.Child o [] there ends (writes-are _ is) refl)
  ask-told id row q there ends (awaits o kind found is) = of_one id _ is (λ other. other-first i id [] other refl) (a_step id row q kinds.Await o [] there ends (writes-are _ is) refl)
  ask-told id row q there ends (bears kind gone few is) =
      let child = child_id id q.n in
      let o : Outcome = outcomes.Value (vals.Text child) in
      let rest : Writes = step_write id q.n (step_row q.name kinds.Child o) ∷ [] in
      let apart : bytes_eq child id ≡ false = ids-apart h child id row gone there in
      split id i (bytes_eq id i) refl
      (λ same. subst Later same (a_step id row q kinds.Child o (child_write h id q child) there ends (writes-are _ is) (other-first id child [] apart refl)))
      (λ other.
      split child i (bytes_eq child i) refl
      (λ same. subst Later same (told-row P h e child (all child) (started status.Pending q.name q.args None (length h + 1) (Some id)) rest (writes-are _ is) (other-first child id [] (bytes_apart child id apart) refl) (on_fresh child q.name q.args gone)))
      (λ else_other. quiet-are _ is (other-first i child rest else_other (other-first i id [] other refl))))

  turn-told : {snap : Option ℕ} {answer : Option Outcome} (id : Text) (row : FlowRow) → flow_at h (length h) id ≡ Some row → TurnCase P h id row snap answer e → Later i
  turn-told id row there (finishes o ends is) = of_one id _ is (λ other. other-first i id [] other refl) (told-row P h e id (all id) (record row { status = status_of o; outcome = Some o }) [] (writes-are _ is) refl ((all id).asked row there))
  turn-told id row there (goes_on q ends c) = ask-told id row q there ends c

  pub case-told : {ev : Event} {snap : Option ℕ} {answer : Option Outcome} → Case P h ev snap answer e → Later i
  case-told (programs text ev is) = quiet-are _ is refl
  case-told (loads table rows ev is) = quiet-are _ is (load-leaves i table rows)
  case-told (starts given function args ev gone tests is) =
      let id = id_or_made h given in
      of_one id _ is (λ other. other-first i id [] other refl) (told-row P h e id (all id) (started status.Pending function args None (length h + 1) None) [] (writes-are _ is) refl (on_fresh id function args gone))
  case-told (enqueues given queue function args ev gone tests is) =
      let id = id_or_made h given in
      of_one id _ is (λ other. other-first i id [] other refl) (told-row P h e id (all id) (started status.Enqueued function args (Some queue) (length h + 1) None) [] (writes-are _ is) refl (on_fresh id function args gone))
  case-told (dequeues queue f ev there waits is) = of_one f.id _ is (λ other. other-first i f.id [] other refl) (told-row P h e f.id (all f.id) (record f.row { status = status.Pending }) [] (writes-are _ is) refl ((all f.id).asked f.row there))
  case-told (turns id row ev there runs c) = turn-told id row there c
  case-told (cancels id row ev there may is) = of_one id _ is (λ other. other-first i id [] other refl) (told-row P h e id (all id) (record row { status = status.Cancelled }) [] (writes-are _ is) refl ((all id).asked row there))
  case-told (resumes id row ev there may is) = of_one id _ is (λ other. other-first i id [] other refl) (told-row P h e id (all id) (record row { status = status.Pending; queue = None; attempts = 0 }) [] (writes-are _ is) refl ((all id).asked row there))
  case-told (forks given source below row ev gone there tests is) =
      let id = id_or_made h given in
      let from : Told P h source = all source in
      let same : steps_at h (length h) source ≡ from.steps = told-steps P h source from in
      let copied : List StepRow = take below (steps_at h (length h) source) in
      let few : length copied ≤ 1000 = omega (arith, length-take below (steps_at h (length h) source), ap length same, from.few) in
      let Of : List StepRow → Type 0 = λ s. Expected P row.function row.args (take below s) in
      of_one id _ is (λ other. other-first i id (map (λ (s : ℕ × StepRow). step_write id s.0 s.1) (enumerate_from 0 copied)) other (steps-leave i id (enumerate_from 0 copied) other))
      (told-fork P h e id (all id) (started status.Pending row.function row.args None (length h + 1) None) copied (writes-are _ is) gone few (subst Of (sym same) (expected-take P row.function row.args from.steps below (from.asked row there))))
  case-told (recovers id row ev there runs is) =
      of_one id _ is (λ other. other-first i id [] other refl) (told-row P h e id (all id) (record row { status = (recovered row.status row.attempts).0; attempts = (recovered row.status row.attempts).1 }) [] (writes-are _ is) refl ((all id).asked row there))
