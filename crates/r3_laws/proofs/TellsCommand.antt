-- An entry of a command tells its event: the command with the ID that was made for it, if none was given.
use Rattle.std.proofs.Common.{◌≡◌, ℕ, ◌+◌, Bool, true, false, List, [], ◌∷◌, length, Option, Some, None, refl, sym, ap, ◌∙◌, arith}
use Rattle.std.specs.Prelude.{if◌then◌else◌}
use Rattle.r3_value.specs.declared.value.Val.{Val}
use Rattle.r3_rows.specs.declared.rows.Key.TheVariants as keys
use Rattle.r3_rows.specs.declared.rows.FlowRow.{FlowRow}
use Rattle.r3_rows.specs.declared.rows.Status.{Status}
use Rattle.r3_entry.specs.declared.entry.Entry.{Entry}
use Rattle.r3_model.specs.Language.{Text, Language}
use Rattle.sys_flow.specs.declared.command.Command.{Command}
use Rattle.sys_flow.specs.declared.command.Command.TheVariants.{Start, Enqueue, Cancel, Resume, Fork, Recover}
use Rattle.r3_model.specs.Event.{Event, Run, Reply, Refused}
use Rattle.sys_flow.specs.declared.command.Refusal.{Refusal}
use Rattle.r3_model.specs.Event as reply
use Rattle.r3_model.specs.Given.{Given, Enters, unless, once}
use Rattle.sys_flow.specs.declared.repeats.Repeat.{Repeat}
use Rattle.sys_flow.specs.declared.repeats.Repeat.TheVariants.{Fresh, Known}
use Rattle.sys_flow.specs.declared.repeats.Repeat.TheVariants as repeats
use Rattle.sys_flow.specs.Repeats.{repeat_of}
use Rattle.r3_model.specs.Rows.{flow_at}
use Rattle.sys_queue.specs.Rows.{is_pending}
use Rattle.r3_model.specs.Acts.{start_entry, enqueue_entry, fork_entry, cancel_entry, resume_entry, recover_entry}
use Rattle.r3_model.specs.Commands.{commanded, start_tests, enqueue_tests, fork_tests, on_flow, forked, id_or_made}
use Rattle.sys_flow.specs.Statuses.{may_cancel, may_resume, recovered}
use Rattle.r3_model.specs.Machine.{given}
use Rattle.r3_model.specs.Schedule.{event_of}
use Rattle.r3_model.specs.Made.{recorded}
use Rattle.r3_laws.proofs.Tells.{tie-refl, same_entry, no_entry}

pub unless-entered : (tests : List (Bool × Refusal)) (g : Given) (e : Entry) (r : Reply) → unless tests g ≡ Enters e r → g ≡ Enters e r
unless-entered [] g e r is = is
unless-entered ((true, w) ∷ tests) g e r is = no_entry _ r e is
unless-entered ((false, w) ∷ tests) g e r is = unless-entered tests g e r is

pub once-entered : (p : Repeat) (id : Text) (g : Given) (e : Entry) (r : Reply) → once p id g ≡ Enters e r → g ≡ Enters e r
once-entered Fresh id g e r is = is
once-entered (Known k) id g e r is = no_entry _ r e is
once-entered repeats.Conflict id g e r is = no_entry _ r e is

by_test : (b : Bool) (x y : Given) (e : Entry) (r : Reply) → ((y ≡ Enters e r) → ⊥) → (if b then x else y) ≡ Enters e r → x ≡ Enters e r
by_test true x y e r other is = is
by_test false x y e r other is = absurd (other is)

pub flow-entered : (may : Status → Bool) (mk : FlowRow → Entry) (r0 : Reply) (o : Option FlowRow) (e : Entry) (r : Reply) → on_flow may (λ row. Enters (mk row) r0) o ≡ Enters e r → (row : FlowRow) × (mk row ≡ e)
flow-entered may mk r0 None e r is = no_entry _ r e is
flow-entered may mk r0 (Some row) e r is = (row, same_entry _ e _ r (by_test (may row.status) _ _ e r (λ other. no_entry _ r e other) is))

started-event : (h : List Entry) (id function : Text) (args : Val) → event_of (start_entry h id function args) ≡ Run (Start (Some id) function args)
started-event h id function args = grind (arith, tie-refl (keys.Flow id))

enqueued-event : (h : List Entry) (id queue function : Text) (args : Val) → event_of (enqueue_entry h id queue function args) ≡ Run (Enqueue (Some id) queue function args)
enqueued-event h id queue function args = grind (arith, tie-refl (keys.Flow id))

module _ (P : Language) (h : List Entry) where
  -- the same entry is given again, on its own snapshot and with the outcome that it records
  abbrev pub Again : Entry → Reply → Type 0
  Again e r = given P h (event_of e) (Some e.snap) (recorded e e.act) ≡ Enters e r

  again : (c c' : Command) (e : Entry) (r : Reply) → event_of e ≡ Run c' → commanded P h c' ≡ commanded P h c → commanded P h c ≡ Enters e r → Again e r
  again c c' e r ev same is = ap (λ (x : Event). given P h x (Some e.snap) (recorded e e.act)) ev ∙ same ∙ is

  pub cancel-again : (id : Text) (e : Entry) (r : Reply) → commanded P h (Cancel id) ≡ Enters e r → Again e r
  cancel-again id e r is =
      let f = flow-entered may_cancel (λ row. cancel_entry h id row) (reply.Entry (length h + 1)) (flow_at h (length h) id) e r is in
      again (Cancel id) (Cancel id) e r (ap event_of (sym f.1)) refl is

  pub resume-again : (id : Text) (e : Entry) (r : Reply) → commanded P h (Resume id) ≡ Enters e r → Again e r
  resume-again id e r is =
      let f = flow-entered may_resume (λ row. resume_entry h id row) (reply.Entry (length h + 1)) (flow_at h (length h) id) e r is in
      again (Resume id) (Resume id) e r (ap event_of (sym f.1)) refl is

  pub recover-again : (id : Text) (e : Entry) (r : Reply) → commanded P h (Recover id) ≡ Enters e r → Again e r
  recover-again id e r is =
      let f = flow-entered is_pending (λ row. recover_entry h id row (recovered row.status row.attempts)) (reply.Entry (length h + 1)) (flow_at h (length h) id) e r is in
      again (Recover id) (Recover id) e r (ap event_of (sym f.1)) refl is

  pub start-again : (id : Option Text) (function : Text) (args : Val) (e : Entry) (r : Reply) → commanded P h (Start id function args) ≡ Enters e r → Again e r
  start-again id function args e r is =
      let new = id_or_made h id in
      let made : start_entry h new function args ≡ e = same_entry _ e _ r (once-entered (repeat_of (flow_at h (length h) new) function) new (Enters (start_entry h new function args) (reply.EntryOf (length h + 1) new)) e r (unless-entered (start_tests P h new function args) _ e r is)) in
      again (Start id function args) (Start (Some new) function args) e r (ap event_of (sym made) ∙ started-event h new function args) refl is

  pub enqueue-again : (id : Option Text) (queue function : Text) (args : Val) (e : Entry) (r : Reply) → commanded P h (Enqueue id queue function args) ≡ Enters e r → Again e r
  enqueue-again id queue function args e r is =
      let new = id_or_made h id in
      let made : enqueue_entry h new queue function args ≡ e = same_entry _ e _ r (once-entered (repeat_of (flow_at h (length h) new) function) new (Enters (enqueue_entry h new queue function args) (reply.EntryOf (length h + 1) new)) e r (unless-entered (enqueue_tests P h new queue function args) _ e r is)) in
      again (Enqueue id queue function args) (Enqueue (Some new) queue function args) e r (ap event_of (sym made) ∙ enqueued-event h new queue function args) refl is

  pub fork-entered : (id source : Text) (below : ℕ) (o : Option FlowRow) (e : Entry) (r : Reply) → forked P h id source below o ≡ Enters e r → (row : FlowRow) × (fork_entry h id source row below ≡ e)
  fork-entered id source below None e r is = no_entry _ r e is
  fork-entered id source below (Some row) e r is = (row, same_entry _ e _ r (once-entered (repeat_of (flow_at h (length h) id) row.function) id (Enters (fork_entry h id source row below) (reply.EntryOf (length h + 1) id)) e r (unless-entered (fork_tests P h id source below) _ e r is)))

  pub fork-again : (source : Text) (below : ℕ) (to : Option Text) (e : Entry) (r : Reply) → commanded P h (Fork source below to) ≡ Enters e r → Again e r
  fork-again source below to e r is =
      let new = id_or_made h to in
      let f = fork-entered new source below (flow_at h (length h) source) e r is in
      again (Fork source below to) (Fork source below (Some new)) e r (ap event_of (sym f.1)) refl is
