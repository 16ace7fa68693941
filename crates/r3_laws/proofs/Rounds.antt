-- One event of a round, as a step that was done: for the loop that drains.
use Rattle.std.proofs.Common.{◌≡◌, ℕ, suc, ◌||◌, List, [], ◌∷◌, ◌++◌, map, length, drop, Option, ap, ◌∙◌}
use Rattle.r3_value.specs.declared.value.Outcome.{Outcome}
use Rattle.r3_model.specs.Language.{Language, Queue}
use Rattle.r3_model.specs.Event.{Event, Reply, Call}
use Rattle.r3_model.specs.Held.{Asked}
use Rattle.r3_model.specs.Machine.{State, Out, step}
use Rattle.r3_model.specs.Goes.{Steps}
use Rattle.r3_model.specs.Run.{Trail, then_out, bodies_at, next}
use Rattle.r3_model.specs.Drain.{Round, changes, spend_of, spend}
use Rattle.r3_laws.proofs.Answered.{answers_of, dropped, step-steps}

module _ (P : Language) (qs : List Queue) where
  -- the trail after a step that was done
  abbrev pub after_step : Trail → Event → Reply → List Call → State → List (Option Outcome) → Trail
  after_step t ev r calls new rest = record {
    state = new;
    replies = t.replies ++ r ∷ [];
    last = r;
    calls = t.calls ++ calls;
    bodies = t.bodies ++ bodies_at P t.state ev;
    marks = t.marks ++ map (λ (c : Call). Asked (length t.state.history)) calls;
    answers = rest;
  }

  pub next-steps : (t : Trail) (ev : Event) (r : Reply) (calls : List Call) (new : State) (rest : List (Option Outcome)) → t.answers ≡ answers_of calls ++ rest → Steps P t.state ev r calls new
      → next P t ev ≡ after_step t ev r calls new rest
  next-steps t ev r calls new rest has s =
      let is : step P t.state ev t.answers ≡ record { state = new; reply = r; calls = calls } =
      ap (λ (k : List (Option Outcome)). step P t.state ev k) has ∙ step-steps P t.state new ev r calls rest s in
      let left_is : drop (length calls) t.answers ≡ rest = ap (λ (k : List (Option Outcome)). drop (length calls) k) has ∙ dropped calls rest in
      ap (λ (o : Out). then_out t (bodies_at P t.state ev) o) is
      ∙ ap (λ (k : List (Option Outcome)). record (after_step t ev r calls new rest) { answers = k }) left_is

  -- one more event of a round, where a turn is left
  pub spend-steps : (d : Round) (left : ℕ) (ev : Event) (r : Reply) (calls : List Call) (new : State) (rest : List (Option Outcome)) → d.left ≡ suc left → d.trail.answers ≡ answers_of calls ++ rest → Steps P d.trail.state ev r calls new
      → spend (next P) qs d ev ≡ record { trail = after_step d.trail ev r calls new rest; left = left; changed = d.changed || changes r; cut = d.cut }
  spend-steps d left ev r calls new rest more has s =
      ap (λ (n : ℕ). spend_of (next P) qs n d ev) more
      ∙ ap (λ (t : Trail). record { trail = t; left = left; changed = d.changed || changes t.last; cut = d.cut }) (next-steps d.trail ev r calls new rest has s)
