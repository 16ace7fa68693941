-- An entry tells its event.
use Rattle.std.proofs.Common.{◌≡◌, ℕ, ◌+◌, List, [], ◌∷◌, Option, Some, sym, ap, ◌∙◌, Bool, true, false, length}
use Rattle.std.specs.Prelude.{if◌then◌else◌, not}
use Rattle.r3_value.specs.declared.value.Outcome.{Outcome}
use Rattle.r3_entry.specs.declared.entry.Entry.{Entry}
use Rattle.r3_model.specs.Language.{Language}
use Rattle.sys_flow.specs.declared.command.Command.TheVariants.{Load, Start, Enqueue, Cancel, Resume, Fork, Recover}
use Rattle.r3_model.specs.Event.{Event, Append, Run, Turn, Dequeue, ShowStatus, GetRow, Nothing, Reply, Refused}
use Rattle.sys_flow.specs.declared.command.Refusal.TheVariants.{UnknownTable}
use Rattle.r3_model.specs.Event as reply
use Rattle.r3_model.specs.Given.{Enters, Answers, unless}
use Rattle.r3_model.specs.Rows.{row_at}
use Rattle.r3_model.specs.Acts.{program_entry, load_entry}
use Rattle.r3_model.specs.Machine.{given, got}
use Rattle.r3_model.specs.Schedule.{event_of}
use Rattle.r3_model.specs.Made.{recorded}
use Rattle.r3_laws.specs.OfEvents.{HasRows}
use Rattle.r3_laws.proofs.Tells.{same_entry, no_entry, turned-tells}
use Rattle.r3_laws.proofs.TellsCommand.{unless-entered, cancel-again, resume-again, recover-again, start-again, enqueue-again, fork-again}
use Rattle.r3_laws.proofs.Loads.{load-tells}
use Rattle.r3_laws.proofs.TellsDequeue.{dequeued-event}

no_reply : (b : Bool) (x y : Reply) (e : Entry) (r : Reply) → (if b then Answers x else Answers y) ≡ Enters e r → ⊥
no_reply true x y e r is = no_entry x r e is
no_reply false x y e r is = no_entry y r e is

pub given-tells : (P : Language) (h : List Entry) (ev : Event) (snap : Option ℕ) (answer : Option Outcome) (e : Entry) (r : Reply) → HasRows ev
    → given P h ev snap answer ≡ Enters e r → given P h (event_of e) (Some e.snap) (recorded e e.act) ≡ Enters e r
given-tells P h (Append text) snap answer e r other is =
    let same : program_entry h text ≡ e = same_entry _ e _ r is in
    ap (λ (x : Event). given P h x (Some e.snap) (recorded e e.act)) (ap event_of (sym same)) ∙ is
given-tells P h (Run (Load table rows)) snap answer e r has is =
    let made : load_entry h table rows ≡ e = same_entry _ e _ r (unless-entered ((not (P.has_table table), UnknownTable) ∷ []) (Enters (load_entry h table rows) (reply.Entry (length h + 1))) e r is) in
    let t = load-tells h table rows has.0 has.1 in
    ap (λ (x : Event). given P h x (Some e.snap) (recorded e e.act)) (ap event_of (sym made) ∙ t.event)
    ∙ ap (λ (x : Entry). unless ((not (P.has_table table), UnknownTable) ∷ []) (Enters x (reply.Entry (length h + 1)))) t.again ∙ is
given-tells P h (Run (Start id function args)) snap answer e r other is = start-again P h id function args e r is
given-tells P h (Run (Enqueue id queue function args)) snap answer e r other is = enqueue-again P h id queue function args e r is
given-tells P h (Run (Cancel id)) snap answer e r other is = cancel-again P h id e r is
given-tells P h (Run (Resume id)) snap answer e r other is = resume-again P h id e r is
given-tells P h (Run (Fork source step to)) snap answer e r other is = fork-again P h source step to e r is
given-tells P h (Run (Recover id)) snap answer e r other is = recover-again P h id e r is
given-tells P h (Turn id) snap answer e r other is =
    let t = turned-tells P h id snap answer e r is in
    ap (λ (x : Event). given P h x (Some e.snap) (recorded e e.act)) t.event ∙ t.again
given-tells P h (Dequeue queue) snap answer e r other is = ap (λ (x : Event). given P h x (Some e.snap) (recorded e e.act)) (dequeued-event P h queue e r is) ∙ is
given-tells P h (ShowStatus id) snap answer e r other is = no_entry _ r e is
given-tells P h (GetRow table key) snap answer e r other is = absurd (no_reply (P.has_table table) (got (row_at h (length h) table key)) (Refused UnknownTable) e r is)
given-tells P h Nothing snap answer e r other is = no_entry _ r e is
