-- One workflow, earlier and later.
use Rattle.std.proofs.Common.{◌≡◌, true, false, refl, sym, ap, ◌∙◌}
use Rattle.r3_rows.specs.declared.rows.FlowRow.{FlowRow}
use Rattle.r3_rows.specs.declared.rows.Status.{Status}
use Rattle.r3_rows.specs.declared.rows.Status.TheVariants as status
use Rattle.sys_flow.specs.Statuses.{may_cancel, may_resume}
use Rattle.r3_repeats.specs.Flows.{is_ended, IsSameFlow}

pub same-refl : (row : FlowRow) → IsSameFlow row row
same-refl row = record { function = refl; args = refl; parent = refl; started = refl; ended = λ ended. refl }

pub same-trans : (a b c : FlowRow) → IsSameFlow a b → IsSameFlow b c → IsSameFlow a c
same-trans a b c one two = record {
  function = two.function ∙ one.function;
  args = two.args ∙ one.args;
  parent = two.parent ∙ one.parent;
  started = two.started ∙ one.started;
  ended = λ ended.
      let same : b ≡ a = one.ended ended in
      let still : is_ended b.status ≡ true = ap (λ (r : FlowRow). is_ended r.status) same ∙ ended in
      two.ended still ∙ same;
}

-- ---- a workflow that a command or a turn changes hasn't ended

pub not-ended : {A : Type 0} (s t : Status) → s ≡ t → is_ended t ≡ false → is_ended s ≡ true → A
not-ended s t is not ended = absurd (let z : false ≡ true = sym not ∙ ap is_ended (sym is) ∙ ended in cc)

pub cancelled-not_ended : {A : Type 0} (s : Status) → may_cancel s ≡ true → is_ended s ≡ true → A
cancelled-not_ended status.Enqueued may ended = absurd cc
cancelled-not_ended status.Pending may ended = absurd cc
cancelled-not_ended status.Success may ended = absurd cc
cancelled-not_ended status.Error may ended = absurd cc
cancelled-not_ended status.Cancelled may ended = absurd cc
cancelled-not_ended status.MaxRecoveryAttemptsExceeded may ended = absurd cc

pub resumed-not_ended : {A : Type 0} (s : Status) → may_resume s ≡ true → is_ended s ≡ true → A
resumed-not_ended status.Enqueued may ended = absurd cc
resumed-not_ended status.Pending may ended = absurd cc
resumed-not_ended status.Success may ended = absurd cc
resumed-not_ended status.Error may ended = absurd cc
resumed-not_ended status.Cancelled may ended = absurd cc
resumed-not_ended status.MaxRecoveryAttemptsExceeded may ended = absurd cc
