-- What a call's answer comes to, once its ID fits or its source is there.
use Rattle.std.proofs.Common.{◌≡◌, ℕ, ◌+◌, ◌≤◌, List, [], ◌∷◌, length, Option, Some, Bool, false, sym, ap, subst, ◌∙◌, arith}
use Rattle.std.specs.Prelude.{Result, Ok, Err, IfOk, nat_lt}
use Rattle.std.proofs.lemmas.Bool.Decides.{nat_tests}
use Rattle.r3_value.specs.declared.value.Val.{Val}
use Rattle.r3_value.specs.declared.fault.Memory.{Memory}
use Rattle.r3_rows.specs.declared.rows.FlowRow.{FlowRow}
use Rattle.r3_entry.specs.declared.entry.Entry.{Entry}
use Rattle.sys_flow.specs.declared.command.Command.{Command}
use Rattle.sys_flow.specs.declared.command.Command.TheVariants.{Load, Fork}
use Rattle.sys_flow.specs.declared.command.Refusal.TheVariants as refusals
use Rattle.sys_flow.specs.Repeats.{repeat_of}
use Rattle.r3_model.specs.Language.{Text, Language}
use Rattle.r3_model.specs.Event.{EntryOf}
use Rattle.r3_model.specs.Given.{Given, Enters, unless, once, is_id}
use Rattle.r3_model.specs.Rows.{flow_at, steps_at}
use Rattle.r3_model.specs.Acts.{enqueue_entry, fork_entry}
use Rattle.r3_model.specs.Commands.{id_or_made, loaded, enqueued, forked, commanded}
use Rattle.r3_commands.specs.declared.drafts.Draft.{Draft}
use Rattle.r3_commands.specs.Drafts.{given_of, id_if_fits, queued_tests}
use Rattle.r3_commands.proofs.Fits.{passed, fits}

abbrev enqueued_once : List Entry → Text → Text → Val → Text → Given
enqueued_once h queue function args i =
    once (repeat_of (flow_at h (length h) i) function) i (Enters (enqueue_entry h i queue function args) (EntryOf (length h + 1) i))

enqueued-fits : (L : Language) (h : List Entry) (queue function : Text) (args : Val) (i x : Text) → Some i ≡ id_if_fits x
    → unless (queued_tests L h queue function args) (enqueued_once h queue function args i) ≡ enqueued L h x queue function args
enqueued-fits L h queue function args i x is =
    let fit = fits x i is in
    ap (λ (y : Text). unless (queued_tests L h queue function args) (enqueued_once h queue function args y)) fit.1
    ∙ sym (passed (is_id x) refusals.Id (queued_tests L h queue function args) (enqueued_once h queue function args x) fit.0)

abbrev forked_once : List Entry → Text → FlowRow → ℕ → Text → Given
forked_once h source row below i =
    once (repeat_of (flow_at h (length h) i) row.function) i (Enters (fork_entry h i source row below) (EntryOf (length h + 1) i))

-- so many steps are recorded
few-enough : (below n : ℕ) (g : Given) → below ≤ n → unless ((nat_lt n below, refusals.Step) ∷ []) g ≡ g
few-enough below n g le =
    let within : nat_lt n below ≡ false = grind (arith, nat_tests) in
    ap (λ (b : Bool). unless ((b, refusals.Step) ∷ []) g) within

forked-fits : (L : Language) (h : List Entry) (source : Text) (row : FlowRow) (below n : ℕ) (i x : Text) → Some i ≡ id_if_fits x
    → n ≡ length (steps_at h (length h) source) → below ≤ n → forked_once h source row below i ≡ forked L h x source below (Some row)
forked-fits L h source row below n i x is count le =
    let fit = fits x i is in
    let few : below ≤ length (steps_at h (length h) source) = subst (λ (m : ℕ). below ≤ m) count le in
    ap (λ (y : Text). forked_once h source row below y) fit.1
    ∙ sym (few-enough below (length (steps_at h (length h) source)) (forked_once h source row below x) few)
    ∙ sym (passed (is_id x) refusals.Id ((nat_lt (length (steps_at h (length h) source)) below, refusals.Step) ∷ []) (forked_once h source row below x) fit.0)

module _ (S : List Entry → Type 0) where
  pub enqueued-ok : (r : Result Draft Memory) (L : Language) (given : Option Text) (queue function : Text) (args : Val) (i : Text)
      → ((h : List Entry) → S h → Some i ≡ id_if_fits (id_or_made h given))
      → IfOk r (λ d. (h : List Entry) → S h → given_of (length h) d ≡ unless (queued_tests L h queue function args) (enqueued_once h queue function args i))
      → IfOk r (λ d. (h : List Entry) → S h → given_of (length h) d ≡ enqueued L h (id_or_made h given) queue function args)
  enqueued-ok (Ok d) L given queue function args i fit is =
      λ h s. is h s ∙ enqueued-fits L h queue function args i (id_or_made h given) (fit h s)
  enqueued-ok (Err e) L given queue function args i fit is = tt

  pub fork_of-ok : (r : Result Draft Memory) (given : Option Text) (source : Text) (below n : ℕ) (row : FlowRow) (i : Text)
      → ((h : List Entry) → S h → Some i ≡ id_if_fits (id_or_made h given))
      → ((h : List Entry) → S h → n ≡ length (steps_at h (length h) source)) → below ≤ n
      → IfOk r (λ d. (h : List Entry) → S h → given_of (length h) d ≡ forked_once h source row below i)
      → IfOk r (λ d. (L : Language) (h : List Entry) → S h → given_of (length h) d ≡ forked L h (id_or_made h given) source below (Some row))
  fork_of-ok (Ok d) given source below n row i fit count le is =
      λ L h s. is h s ∙ forked-fits L h source row below n i (id_or_made h given) (fit h s) (count h s) le
  fork_of-ok (Err e) given source below n row i fit count le is = tt

  pub forked-ok : (r : Result Draft Memory) (given : Option Text) (source src : Text) (below : ℕ) (row : FlowRow) → src ≡ source
      → ((h : List Entry) → S h → flow_at h (length h) source ≡ Some row)
      → IfOk r (λ d. (L : Language) (h : List Entry) → S h → given_of (length h) d ≡ forked L h (id_or_made h given) src below (Some row))
      → IfOk r (λ d. (L : Language) (h : List Entry) → S h → given_of (length h) d ≡ forked L h (id_or_made h given) source below (flow_at h (length h) source))
  forked-ok (Ok d) given source src below row same there is =
      λ L h s. is L h s ∙ ap (λ (x : Text). forked L h (id_or_made h given) x below (Some row)) same
      ∙ ap (λ (o : Option FlowRow). forked L h (id_or_made h given) source below o) (sym (there h s))
  forked-ok (Err e) given source src below row same there is = tt

  pub fork-command : (r : Result Draft Memory) (L : Language) (command : Command) (source src : Text) (step : ℕ) (to : Option Text)
      → command ≡ Fork source step to → src ≡ source
      → IfOk r (λ d. (M : Language) (h : List Entry) → S h → given_of (length h) d ≡ forked M h (id_or_made h to) src step (flow_at h (length h) src))
      → IfOk r (λ d. (h : List Entry) → S h → given_of (length h) d ≡ commanded L h command)
  fork-command (Ok d) L command source src step to is same found =
      λ h s. found L h s ∙ ap (λ (x : Text). forked L h (id_or_made h to) x step (flow_at h (length h) x)) same
      ∙ sym (ap (λ (x : Command). commanded L h x) is)
  fork-command (Err e) L command source src step to is same found = tt

  pub load-command : (r : Result Draft Memory) (L : Language) (command : Command) (table t : Text) (rows rs : List (Text × Val))
      → command ≡ Load table rows → t ≡ table → rs ≡ rows
      → IfOk r (λ d. (h : List Entry) → S h → given_of (length h) d ≡ loaded L h t rs)
      → IfOk r (λ d. (h : List Entry) → S h → given_of (length h) d ≡ commanded L h command)
  load-command (Ok d) L command table t rows rs is same each found =
      λ h s. found h s ∙ ap (λ (x : Text). loaded L h x rs) same ∙ ap (λ (x : List (Text × Val)). loaded L h table x) each
      ∙ sym (ap (λ (x : Command). commanded L h x) is)
  load-command (Err e) L command table t rows rs is same each found = tt
