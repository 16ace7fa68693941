-- A step, by what its event comes to.
use Rattle.std.proofs.Common.{◌≡◌, List, Option, refl, sym, ap, ◌∙◌}
use Rattle.r3_value.specs.declared.value.Outcome.{Outcome}
use Rattle.r3_entry.specs.declared.entry.Act.{Act}
use Rattle.r3_entry.specs.declared.entry.Act.TheVariants as acts
use Rattle.r3_model.specs.Event.{Event, Reply, Call}
use Rattle.r3_model.specs.Given.{Given}
use Rattle.r3_model.specs.Language.{Language}
use Rattle.r3_model.specs.Machine.{State, Begun, after_act, calls_of, came, given, snap_of, stepped}
use Rattle.r3_plain.specs.Comes.{closed_by, closing}

pub by_came : (P : Language) (st : State) (ev : Event) (answer : Option Outcome) (g : Given) (calls : List Call) (after : State) (r : Reply)
    → g ≡ given P st.history ev (snap_of st.begun ev) answer → calls ≡ calls_of P st.history ev answer → came st ev g ≡ (after, r)
    → stepped P st ev answer ≡ record { state = after; reply = r; calls = calls }
by_came P st ev answer g calls after r is asked done =
    let all : came st ev (given P st.history ev (snap_of st.begun ev) answer) ≡ (after, r) = ap (λ (x : Given). came st ev x) (sym is) ∙ done in
    ap (λ (x : State × Reply). record { state = x.0; reply = x.1; calls = calls_of P st.history ev answer }) all
    ∙ ap (λ (cs : List Call). record { state = after; reply = r; calls = cs }) (sym asked)

pub closes : (act : Act) (begun : Begun) → closed_by (closing act) begun ≡ after_act act begun
closes (acts.Program text) begun = refl
closes acts.Load begun = refl
closes (acts.Start id) begun = refl
closes (acts.Enqueue id) begun = refl
closes (acts.Dequeue id) begun = refl
closes (acts.Txn id n args) begun = refl
closes (acts.Outside id n args) begun = refl
closes (acts.Child id n child) begun = refl
closes (acts.Await id n on) begun = refl
closes (acts.Finish id) begun = refl
closes (acts.Cancel id) begun = refl
closes (acts.Resume id) begun = refl
closes (acts.Fork id from below) begun = refl
closes (acts.Recover id) begun = refl
