-- What holds where no refusal stands.
use Rattle.std.proofs.Common.{◌≡◌, ℕ, Bool, true, false, List, [], ◌∷◌, Option, Some, None, refl, sym}
use Rattle.std.specs.Prelude.{if◌then◌else◌, bytes_eq}
use Rattle.r3_rows.specs.declared.rows.FlowRow.{FlowRow}
use Rattle.r3_rows.specs.declared.rows.Status.{Status}
use Rattle.r3_rows.specs.declared.rows.Status.TheVariants as status
use Rattle.r3_entry.specs.declared.entry.Entry.{Entry}
use Rattle.r3_model.specs.Language.{Text}
use Rattle.r3_model.specs.Event.{Reply}
use Rattle.sys_flow.specs.declared.command.Refusal.{Refusal}
use Rattle.r3_model.specs.Given.{Given, Enters, Answers, unless, once}
use Rattle.sys_flow.specs.Repeats.{repeat_of}
use Rattle.sys_flow.specs.declared.repeats.Repeat.TheVariants.{Known}
use Rattle.sys_flow.specs.declared.repeats.Repeat.TheVariants as repeats
use Rattle.sys_queue.specs.Rows.{is_pending, is_enqueued}
use Rattle.r3_model.specs.Commands.{on_flow}
use Rattle.r3_laws.proofs.Cases.{Passes}
use Rattle.r3_laws.proofs.Tells.{same_entry, no_entry}

pub passed : (tests : List (Bool × Refusal)) (g : Given) (e : Entry) (r : Reply) → unless tests g ≡ Enters e r → Passes tests × (g ≡ Enters e r)
passed [] g e r is = (tt, is)
passed ((true, w) ∷ tests) g e r is = no_entry _ r e is
passed ((false, w) ∷ tests) g e r is = let rest = passed tests g e r is in ((refl, rest.0), rest.1)

pub known : {A : Type 0} (b : Bool) (n : ℕ) (id : Text) (g : Given) (e : Entry) (r : Reply) → once (if b then Known n else repeats.Conflict) id g ≡ Enters e r → A
known true n id g e r is = no_entry _ r e is
known false n id g e r is = no_entry _ r e is

pub fresh : (o : Option FlowRow) (function id : Text) (g : Given) (e : Entry) (r : Reply) → once (repeat_of o function) id g ≡ Enters e r → (o ≡ None) × (g ≡ Enters e r)
fresh None function id g e r is = (refl, is)
fresh (Some row) function id g e r is = known (bytes_eq row.function function) row.started id g e r is

pub by_test : (b : Bool) (g : Given) (r0 : Reply) (e : Entry) (r : Reply) → (if b then g else Answers r0) ≡ Enters e r → (b ≡ true) × (g ≡ Enters e r)
by_test true g r0 e r is = (refl, is)
by_test false g r0 e r is = no_entry r0 r e is

pub there : (may : Status → Bool) (mk : FlowRow → Entry) (r0 : Reply) (o : Option FlowRow) (e : Entry) (r : Reply) → on_flow may (λ row. Enters (mk row) r0) o ≡ Enters e r
    → (row : FlowRow) × (o ≡ Some row) × (may row.status ≡ true) × (e ≡ mk row)
there may mk r0 None e r is = no_entry _ r e is
there may mk r0 (Some row) e r is = let t = by_test (may row.status) _ _ e r is in (row, refl, t.0, sym (same_entry _ e _ r t.1))

pub pending-is : (s : Status) → is_pending s ≡ true → s ≡ status.Pending
pending-is status.Pending is = refl
pending-is status.Enqueued is = absurd cc
pending-is status.Success is = absurd cc
pending-is status.Error is = absurd cc
pending-is status.Cancelled is = absurd cc
pending-is status.MaxRecoveryAttemptsExceeded is = absurd cc

pub enqueued-is : (s : Status) → is_enqueued s ≡ true → s ≡ status.Enqueued
enqueued-is status.Enqueued is = refl
enqueued-is status.Pending is = absurd cc
enqueued-is status.Success is = absurd cc
enqueued-is status.Error is = absurd cc
enqueued-is status.Cancelled is = absurd cc
enqueued-is status.MaxRecoveryAttemptsExceeded is = absurd cc
