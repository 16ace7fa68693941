-- An event gives an entry again where the snapshot is the entry's, if it asks for one, and the answer is what it records, if it asks for that.
use Rattle.std.proofs.Common.{◌≡◌, ℕ, true, List, length, Option, Some, refl, sym, subst, ap, ◌∙◌}
use Rattle.r3_value.specs.declared.value.Outcome.{Outcome}
use Rattle.r3_rows.specs.declared.rows.FlowRow.{FlowRow}
use Rattle.r3_rows.specs.declared.rows.Status.TheVariants as status
use Rattle.r3_entry.specs.declared.entry.Act.{Act}
use Rattle.r3_entry.specs.declared.entry.Act.TheVariants as acts
use Rattle.r3_entry.specs.declared.entry.Entry.{Entry}
use Rattle.r3_model.specs.Language.{Text, Language}
use Rattle.fn_tree.specs.declared.flow.Request.{Request}
use Rattle.fn_tree.specs.declared.flow.AskKind.{AskKind}
use Rattle.fn_tree.specs.declared.flow.AskKind.TheVariants as asking
use Rattle.fn_tree.specs.declared.flow.FlowEnd.{FlowEnd}
use Rattle.sys_flow.specs.declared.command.Command.TheVariants.{Load, Start, Enqueue, Cancel, Resume, Fork, Recover}
use Rattle.r3_model.specs.Event.{Event, Append, Run, Turn, Dequeue}
use Rattle.r3_model.specs.Rows.{flow_at}
use Rattle.sys_queue.specs.Rows.{is_pending}
use Rattle.r3_model.specs.Turns.{flow_end, ended, asked, txn_turn, outside_turn}
use Rattle.r3_model.specs.Machine.{given}
use Rattle.r3_model.specs.Run.{restarted}
use Rattle.r3_model.specs.Schedule.{event_of}
use Rattle.r3_model.specs.Made.{Agrees, recorded}
use Rattle.r3_laws.proofs.Cases.{AskCase, commits, hears, bears, links, awaits, TurnCase, finishes, goes_on, Case, programs, loads, starts, enqueues, dequeues, turns, cancels, resumes, forks, recovers}
use Rattle.r3_laws.proofs.ToldMade.{agrees-case}
use Rattle.r3_laws.proofs.TurnCases.{given-pending}
use Rattle.r3_laws.proofs.TxnCases.{IsTxnOf}

abbrev pub IsOutside : Act → Type 0
IsOutside (acts.Outside id n args) = Unit {0}
IsOutside act = ⊥

module _ (P : Language) (g : List Entry) (e : Entry) (snap : Option ℕ) (answer : Option Outcome) (snap_is : (id : Text) → IsTxnOf id e.act → snap ≡ Some e.snap) (heard : IsOutside e.act → answer ≡ recorded e e.act) where
  abbrev Same : Event → Type 0
  Same ev = given P g ev snap answer ≡ given P g ev (Some e.snap) (recorded e e.act)

  by_event : (ev ev0 : Event) → ev ≡ ev0 → Same ev0 → Same ev
  by_event ev ev0 is same = subst Same (sym is) same

  -- where a turn asks
  by_kind : (id : Text) (q : Request) (kind : AskKind) → q.kind ≡ kind → asked P g id snap answer kind q ≡ asked P g id (Some e.snap) (recorded e e.act) kind q → asked P g id snap answer q.kind q ≡ asked P g id (Some e.snap) (recorded e e.act) q.kind q
  by_kind id q kind is same = let Of : AskKind → Type 0 = λ k. asked P g id snap answer k q ≡ asked P g id (Some e.snap) (recorded e e.act) k q in subst Of (sym is) same

  ask-same : {s : Option ℕ} {a : Option Outcome} (id : Text) (q : Request) → AskCase P g id q s a e → asked P g id snap answer q.kind q ≡ asked P g id (Some e.snap) (recorded e e.act) q.kind q
  ask-same id q (commits k kind begun none is) =
      by_kind id q asking.Txn kind (ap (λ (o : Option ℕ). txn_turn P g id o q) (snap_is id (let Of : Entry → Type 0 = λ x. IsTxnOf id x.act in subst Of (sym is) refl)))
  ask-same id q (hears o kind got is) =
      by_kind id q asking.Outside kind (ap (λ (o : Option Outcome). outside_turn P g id q o) (heard (let Of : Entry → Type 0 = λ x. IsOutside x.act in subst Of (sym is) tt)))
  ask-same id q (bears kind gone few is) = by_kind id q asking.Child kind refl
  ask-same id q (links child o kind child_is o_is is) = by_kind id q asking.Child kind refl
  ask-same id q (awaits o kind found is) = by_kind id q asking.Await kind refl

  end-same : {s : Option ℕ} {a : Option Outcome} (id : Text) (row : FlowRow) → TurnCase P g id row s a e → ended P g id snap answer row (flow_end P g id row) ≡ ended P g id (Some e.snap) (recorded e e.act) row (flow_end P g id row)
  end-same id row (finishes o ends is) = let Of : FlowEnd → Type 0 = λ f. ended P g id snap answer row f ≡ ended P g id (Some e.snap) (recorded e e.act) row f in subst Of (sym ends) refl
  end-same id row (goes_on q ends c) = let Of : FlowEnd → Type 0 = λ f. ended P g id snap answer row f ≡ ended P g id (Some e.snap) (recorded e e.act) row f in subst Of (sym ends) (ask-same id q c)

  turn-same : {s : Option ℕ} {a : Option Outcome} (id : Text) (row : FlowRow) → flow_at g (length g) id ≡ Some row → row.status ≡ status.Pending → TurnCase P g id row s a e → Same (Turn id)
  turn-same id row there runs c =
      let yes_runs : is_pending row.status ≡ true = ap is_pending runs in
      given-pending P (restarted g) id row there yes_runs snap answer (flow_end P g id row) refl
      ∙ end-same id row c
      ∙ sym (given-pending P (restarted g) id row there yes_runs (Some e.snap) (recorded e e.act) (flow_end P g id row) refl)

  case-same : {s : Option ℕ} {a : Option Outcome} (ev : Event) → Case P g ev s a e → Same ev
  case-same ev (programs text ev_is is) = by_event ev (Append text) ev_is refl
  case-same ev (loads table rows ev_is is) = by_event ev (Run (Load table rows)) ev_is refl
  case-same ev (starts id function args ev_is gone tests is) = by_event ev (Run (Start id function args)) ev_is refl
  case-same ev (enqueues id queue function args ev_is gone tests is) = by_event ev (Run (Enqueue id queue function args)) ev_is refl
  case-same ev (dequeues queue f ev_is there waits is) = by_event ev (Dequeue queue) ev_is refl
  case-same ev (turns id row ev_is there runs c) = by_event ev (Turn id) ev_is (turn-same id row there runs c)
  case-same ev (cancels id row ev_is there may is) = by_event ev (Run (Cancel id)) ev_is refl
  case-same ev (resumes id row ev_is there may is) = by_event ev (Run (Resume id)) ev_is refl
  case-same ev (forks id source below row ev_is gone there tests is) = by_event ev (Run (Fork source below id)) ev_is refl
  case-same ev (recovers id row ev_is there runs is) = by_event ev (Run (Recover id)) ev_is refl

  pub same-gift : Agrees P g e → given P g (event_of e) snap answer ≡ given P g (event_of e) (Some e.snap) (recorded e e.act)
  same-gift a = case-same (event_of e) (agrees-case P g e a)
