-- An entry leaves the rows of each workflow with an open snapshot alone, or closes that snapshot.
use Rattle.std.proofs.Common.{◌≡◌, ℕ, Bool, true, false, List, [], ◌∷◌, map, take, length, Option, Some, None, refl, sym, subst, ap, ◌∙◌, ◌⊎◌, inl, inr}
use Rattle.std.specs.Prelude.{bytes_eq}
use Rattle.std.specs.List.{enumerate_from}
use Rattle.std.proofs.lemmas.Slice.Eq.{bytes_eq-Decides}
use Rattle.r3_value.specs.declared.value.Val.TheVariants as vals
use Rattle.r3_value.specs.declared.value.Outcome.{Outcome}
use Rattle.r3_value.specs.declared.value.Outcome.TheVariants as outcomes
use Rattle.r3_rows.specs.declared.rows.FlowRow.{FlowRow}
use Rattle.r3_rows.specs.declared.rows.Status.TheVariants as status
use Rattle.r3_rows.specs.declared.rows.StepRow.{StepRow}
use Rattle.r3_rows.specs.declared.rows.StepKind.TheVariants as kinds
use Rattle.r3_entry.specs.declared.entry.Act.{Act}
use Rattle.r3_entry.specs.declared.entry.Act.TheVariants as acts
use Rattle.r3_entry.specs.declared.entry.Entry.{Entry}
use Rattle.r3_model.specs.Language.{Text, Language}
use Rattle.fn_tree.specs.declared.flow.Request.{Request}
use Rattle.fn_tree.specs.declared.flow.AskKind.TheVariants as asking
use Rattle.fn_tree.specs.declared.flow.FlowEnd.TheVariants.{Done, Asks}
use Rattle.r3_model.specs.Event.{Event}
use Rattle.sys_flow.specs.Children.{child_id}
use Rattle.r3_model.specs.Rows.{flow_at, steps_at}
use Rattle.r3_model.specs.Acts.{step_write, step_row}
use Rattle.sys_flow.specs.Statuses.{may_resume}
use Rattle.r3_model.specs.Commands.{id_or_made}
use Rattle.r3_model.specs.Turns.{flow_end, run_on}
use Rattle.r3_model.specs.Valid.{IsOpen}
use Rattle.r3_laws.proofs.Cases.{AskCase, commits, hears, bears, links, awaits, TurnCase, finishes, goes_on, Case, programs, loads, starts, enqueues, dequeues, turns, cancels, resumes, forks, recovers}
use Rattle.r3_laws.proofs.Frame.{IsQuiet}
use Rattle.r3_laws.proofs.OpenNow.{still-there, still-asks}
use Rattle.r3_laws.proofs.Quiet.{other-first, puts-leave, load-leaves, steps-leave}

-- the act closes the open snapshot of i
abbrev pub IsClosing : Text → Act → Type 0
IsClosing i (acts.Txn id n args) = id ≡ i
IsClosing i (acts.Cancel id) = id ≡ i
IsClosing i (acts.Recover id) = id ≡ i
IsClosing i act = ⊥

abbrev pub Spares : Text → Entry → Type 0
Spares i e = IsQuiet i e ⊎ IsClosing i e.act

module _ (P : Language) (h : List Entry) (i : Text) (s : ℕ) (o : IsOpen P h i s) where
  moved : (e e0 : Entry) → e ≡ e0 → Spares i e0 → Spares i e
  moved e e0 is spares = let Of : Entry → Type 0 = Spares i in subst Of (sym is) spares

  split : {A : Type 0} (id : Text) (b : Bool) → bytes_eq id i ≡ b → (id ≡ i → A) → (bytes_eq id i ≡ false → A) → A
  split id true is same other = same ((bytes_eq-Decides id i).0 is)
  split id false is same other = other is

  -- an entry of the workflow id that writes no other workflow's rows
  of_one : (id : Text) (e e0 : Entry) → e ≡ e0 → (bytes_eq id i ≡ false → IsQuiet i e0) → (id ≡ i → Spares i e0) → Spares i e
  of_one id e e0 is quiet same = moved e e0 is (split id (bytes_eq id i) refl same (λ other. inl (quiet other)))

  -- i is there, and runs
  fresh-other : {A : Type 0} (id : Text) → flow_at h (length h) id ≡ None → id ≡ i → A
  fresh-other id gone same =
      let clash : Some o.row ≡ None = sym (still-there P h i s o) ∙ ap (λ (x : Text). flow_at h (length h) x) (sym same) ∙ gone in
      absurd (let e : Some o.row ≡ None = clash in cc)

  row-same : (id : Text) (row : FlowRow) → flow_at h (length h) id ≡ Some row → id ≡ i → row ≡ o.row
  row-same id row there same =
      let both : Some row ≡ Some o.row = sym there ∙ ap (λ (x : Text). flow_at h (length h) x) same ∙ still-there P h i s o in
      cc

  runs : (id : Text) (row : FlowRow) → flow_at h (length h) id ≡ Some row → id ≡ i → row.status ≡ status.Pending
  runs id row there same = ap (λ (r : FlowRow). r.status) (row-same id row there same) ∙ o.pending

  end-same : (id : Text) (row : FlowRow) → flow_at h (length h) id ≡ Some row → id ≡ i → flow_end P h id row ≡ Asks o.request
  end-same id row there same = ap (λ (x : Text). flow_end P h x row) same ∙ ap (λ (r : FlowRow). flow_end P h i r) (row-same id row there same) ∙ still-asks P h i s o

  done-other : {A : Type 0} (id : Text) (row : FlowRow) (out : Outcome) → flow_at h (length h) id ≡ Some row → flow_end P h id row ≡ Done out → id ≡ i → A
  done-other id row out there ends same = absurd (let e : Done out ≡ Asks o.request = sym ends ∙ end-same id row there same in cc)

  kind-same : (id : Text) (row : FlowRow) (q : Request) → flow_at h (length h) id ≡ Some row → flow_end P h id row ≡ Asks q → id ≡ i → q.kind ≡ asking.Txn
  kind-same id row q there ends same =
      let both : Asks q ≡ Asks o.request = sym ends ∙ end-same id row there same in
      let one : q ≡ o.request = cc in
      ap (λ (x : Request). x.kind) one ∙ o.kind

  ask-spares : {snap : Option ℕ} {answer : Option Outcome} (id : Text) (row : FlowRow) (q : Request) (e : Entry) → flow_at h (length h) id ≡ Some row → flow_end P h id row ≡ Asks q → AskCase P h id q snap answer e → Spares i e
  ask-spares id row q e there ends (commits t kind snap_is none is) = of_one id e _ is (λ other. puts-leave i (run_on P h id t q).writes (step_write id q.n (step_row q.name kinds.Txn (run_on P h id t q).outcome) ∷ []) (other-first i id [] other refl)) (λ same. inr same)
  ask-spares id row q e there ends (hears out kind heard is) = of_one id e _ is (λ other. other-first i id [] other refl) (λ same. absurd (let z : asking.Txn ≡ asking.Outside = sym (kind-same id row q there ends same) ∙ kind in cc))
  ask-spares id row q e there ends (bears kind gone few is) =
      of_one id e _ is
      (λ other. split (child_id id q.n) (bytes_eq (child_id id q.n) i) refl (λ same. fresh-other (child_id id q.n) gone same)
      (λ apart. other-first i (child_id id q.n) (step_write id q.n (step_row q.name kinds.Child (outcomes.Value (vals.Text (child_id id q.n)))) ∷ []) apart (other-first i id [] other refl)))
      (λ same. absurd (let z : asking.Txn ≡ asking.Child = sym (kind-same id row q there ends same) ∙ kind in cc))
  ask-spares id row q e there ends (links child out kind child_is o_is is) = of_one id e _ is (λ other. other-first i id [] other refl) (λ same. absurd (let z : asking.Txn ≡ asking.Child = sym (kind-same id row q there ends same) ∙ kind in cc))
  ask-spares id row q e there ends (awaits out kind found is) = of_one id e _ is (λ other. other-first i id [] other refl) (λ same. absurd (let z : asking.Txn ≡ asking.Await = sym (kind-same id row q there ends same) ∙ kind in cc))

  turn-spares : {snap : Option ℕ} {answer : Option Outcome} (id : Text) (row : FlowRow) (e : Entry) → flow_at h (length h) id ≡ Some row → TurnCase P h id row snap answer e → Spares i e
  turn-spares id row e there (finishes out ends is) = of_one id e _ is (λ other. other-first i id [] other refl) (λ same. done-other id row out there ends same)
  turn-spares id row e there (goes_on q ends c) = ask-spares id row q e there ends c

  pub case-spares : {ev : Event} {snap : Option ℕ} {answer : Option Outcome} (e : Entry) → Case P h ev snap answer e → Spares i e
  case-spares e (programs text ev is) = moved e _ is (inl refl)
  case-spares e (loads table rows ev is) = moved e _ is (inl (load-leaves i table rows))
  case-spares e (starts id function args ev gone tests is) = of_one (id_or_made h id) e _ is (λ other. other-first i (id_or_made h id) [] other refl) (λ same. fresh-other (id_or_made h id) gone same)
  case-spares e (enqueues id queue function args ev gone tests is) = of_one (id_or_made h id) e _ is (λ other. other-first i (id_or_made h id) [] other refl) (λ same. fresh-other (id_or_made h id) gone same)
  case-spares e (dequeues queue f ev there waits is) = of_one f.id e _ is (λ other. other-first i f.id [] other refl) (λ same. absurd (let z : status.Pending ≡ status.Enqueued = sym (runs f.id f.row there same) ∙ waits in cc))
  case-spares e (turns id row ev there pending c) = turn-spares id row e there c
  case-spares e (cancels id row ev there may is) = of_one id e _ is (λ other. other-first i id [] other refl) (λ same. inr same)
  case-spares e (resumes id row ev there may is) = of_one id e _ is (λ other. other-first i id [] other refl) (λ same. absurd (let z : false ≡ true = ap may_resume (sym (runs id row there same)) ∙ may in cc))
  case-spares e (forks id source below row ev gone there tests is) =
      of_one (id_or_made h id) e _ is
      (λ other. other-first i (id_or_made h id) (map (λ (s : ℕ × StepRow). step_write (id_or_made h id) s.0 s.1) (enumerate_from 0 (take below (steps_at h (length h) source)))) other (steps-leave i (id_or_made h id) (enumerate_from 0 (take below (steps_at h (length h) source))) other))
      (λ same. fresh-other (id_or_made h id) gone same)
  case-spares e (recovers id row ev there pending is) = of_one id e _ is (λ other. other-first i id [] other refl) (λ same. inr same)
