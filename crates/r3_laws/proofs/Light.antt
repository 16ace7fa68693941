-- The entry of an event that fits has few looks and writes.
use Rattle.std.proofs.Common.{◌≡◌, ℕ, ◌≤◌, ◌^◌, List, length, map, take, Option, sym, subst, ap, arith}
use Rattle.std.proofs.lemmas.List.{length-map}
use Rattle.r3_value.specs.declared.value.Val.{Val}
use Rattle.r3_value.specs.declared.value.Outcome.{Outcome}
use Rattle.r3_rows.specs.declared.rows.StepRow.{StepRow}
use Rattle.r3_rows.specs.declared.rows.StepKind.TheVariants as kinds
use Rattle.r3_entry.specs.declared.entry.Entry.{Entry}
use Rattle.r3_entry.specs.Bytes.{entry}
use Rattle.r3_entry.specs.Limits.{IsEntry}
use Rattle.fn_tree.specs.declared.flow.Request.{Request}
use Rattle.sys_flow.specs.declared.command.Command.TheVariants.{Load}
use Rattle.r3_model.specs.Language.{Text, Language}
use Rattle.r3_model.specs.Event.{Event, Run, Reply}
use Rattle.r3_model.specs.Given.{Enters}
use Rattle.r3_model.specs.Rows.{steps_at, view_at}
use Rattle.r3_model.specs.Acts.{Writes, in_order, row_write, step_write, step_row}
use Rattle.r3_model.specs.Commands.{id_or_made}
use Rattle.r3_model.specs.Turns.{run_on}
use Rattle.r3_model.specs.Machine.{State, given, snap_of}
use Rattle.r3_model.specs.Fits.{Fits}
use Rattle.r3_model.specs.Lawful.{IsLawful}
use Rattle.r3_laws.specs.OfEvents.{HasRows}
use Rattle.r3_laws.specs.OfStates.{flows_in, IsLight}
use Rattle.r3_laws.proofs.Agreeing.{fits-suits, rows-fit}
use Rattle.r3_laws.proofs.Cases.{AskCase, commits, hears, bears, links, awaits, finishes, goes_on, Case, programs, loads, starts, enqueues, dequeues, turns, cancels, resumes, forks, recovers}
use Rattle.r3_laws.proofs.CasesOf.{case-of}
use Rattle.r3_laws.proofs.Fitted.{no-flows, copies-long, copies-flows, puts-long, puts-flows}
use Rattle.r3_laws.proofs.FittedCases.{steps-few, take-few}
use Rattle.r3_laws.proofs.Follow.{entry-small}
use Rattle.r3_laws.proofs.Loads.{AreRows, in_order-rows}
use Rattle.r3_laws.proofs.Rising.{IsSmall}
use Rattle.r3_laws.proofs.Sizes.{payload-few}

record HasFew (e : Entry) : Type 0 where
  few_writes : length e.writes ≤ 1025
  few_flows : flows_in e.writes ≤ 1

module _ (P : Language) (lawful : IsLawful P) (h : List Entry) (e : Entry) where
  moved : (e0 : Entry) → e ≡ e0 → HasFew e0 → HasFew e
  moved e0 is all = subst HasFew (sym is) all

  ask-few : {snap : Option ℕ} {answer : Option Outcome} (id : Text) (q : Request) → AskCase P h id q snap answer e → HasFew e
  ask-few id q (commits s kind snap_is none is) =
      let run = run_on P h id s q in
      let r : StepRow = step_row q.name kinds.Txn run.outcome in
      moved _ is (record {
        few_writes = omega (arith, puts-long run.writes (step_write id q.n r), (lawful.looks_true q.name q.args (view_at h s)).few_puts);
        few_flows = omega (arith, puts-flows run.writes id q.n r);
      })
  ask-few id q (hears o kind heard is) = moved _ is (record { few_writes = omega arith; few_flows = omega arith })
  ask-few id q (bears kind gone few is) = moved _ is (record { few_writes = omega arith; few_flows = omega arith })
  ask-few id q (links child o kind child_is o_is is) = moved _ is (record { few_writes = omega arith; few_flows = omega arith })
  ask-few id q (awaits o kind found is) = moved _ is (record { few_writes = omega arith; few_flows = omega arith })

  load-few : (table : Text) (rows : List (Text × Val)) → HasRows (Run (Load table rows)) → e.writes ≡ in_order (map (row_write table) rows) → HasFew e
  load-few table rows has is =
      let are : AreRows table (length rows) (in_order (map (row_write table) rows)) = in_order-rows table rows has.0 in
      record {
        few_writes = omega (arith, ap (λ (ws : Writes). length ws) is, ap (λ (ws : Writes). length ws) are.are, length-map are.rows (row_write table), are.few, has.1);
        few_flows = omega (arith, ap (λ (ws : Writes). flows_in ws) is, ap (λ (ws : Writes). flows_in ws) are.are, no-flows table are.rows);
      }

  case-few : {snap : Option ℕ} {answer : Option Outcome} (ev : Event) → HasRows ev → Case P h ev snap answer e → HasFew e
  case-few ev has (programs text ev_is is) = moved _ is (record { few_writes = omega arith; few_flows = omega arith })
  case-few ev has (loads table rows ev_is is) = load-few table rows (subst HasRows ev_is has) (ap (λ (x : Entry). x.writes) is)
  case-few ev has (starts given function args ev_is gone tests is) = moved _ is (record { few_writes = omega arith; few_flows = omega arith })
  case-few ev has (enqueues given queue function args ev_is gone tests is) = moved _ is (record { few_writes = omega arith; few_flows = omega arith })
  case-few ev has (dequeues queue f ev_is there waits is) = moved _ is (record { few_writes = omega arith; few_flows = omega arith })
  case-few ev has (turns id row ev_is there runs (finishes o ends is)) = moved _ is (record { few_writes = omega arith; few_flows = omega arith })
  case-few ev has (turns id row ev_is there runs (goes_on q ends c)) = ask-few id q c
  case-few ev has (cancels id row ev_is there may is) = moved _ is (record { few_writes = omega arith; few_flows = omega arith })
  case-few ev has (resumes id row ev_is there may is) = moved _ is (record { few_writes = omega arith; few_flows = omega arith })
  case-few ev has (recovers id row ev_is there runs is) = moved _ is (record { few_writes = omega arith; few_flows = omega arith })
  case-few ev has (forks given source below row ev_is gone there tests is) =
      let id : Text = id_or_made h given in
      let steps : List StepRow = steps_at h (length h) source in
      moved _ is (record {
        few_writes = omega (arith, copies-long id 0 (take below steps), take-few below steps, steps-few h source 1000 0);
        few_flows = omega (arith, copies-flows id 0 (take below steps));
      })

pub enters-light : (P : Language) (st : State) (ev : Event) (answer : Option Outcome) (e : Entry) (r : Reply) → IsLawful P → Fits st.history ev → given P st.history ev (snap_of st.begun ev) answer ≡ Enters e r → IsLight e
enters-light P st ev answer e r lawful fits is =
    let small : IsSmall e = entry-small P lawful st ev answer e r fits is in
    let few : HasFew e = case-few P lawful st.history e ev (rows-fit st.history ev (fits-suits st.history ev fits)) (case-of P st.history (snap_of st.begun ev) answer e r ev is) in
    record { few_reads = small.few_reads; few_writes = few.few_writes; few_flows = few.few_flows }

pub light-fits : (e : Entry) → IsEntry e → IsLight e → length (entry e) ≤ 2 ^ 23
light-fits e limits light = payload-few e limits light.few_reads light.few_writes light.few_flows
