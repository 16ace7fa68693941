use Rattle.std.proofs.Common.{◌≡◌, ◌+◌, ◌∷◌, ◌++◌, map, length}
use Rattle.std.specs.List.{enumerate_from}
use Rattle.r3_model.specs.Acts.{flow_write, step_write}
use Rattle.r3_acts.proofs.forks.with_steps.Given as goal

pub record Pushed (Written Counted : Type 0) : Type 0 where
  pub written : Written
  pub counted : Counted

abbrev pub invariant-steps : goal.invariant-steps
invariant-steps l =
    (goal.iterator-steps).can_next l.step-iterator × (goal.iterator-steps).is_finite l.step-iterator × Pushed
    (flow_write l.id l.fn.row ∷ map (λ s. step_write l.id s.0 s.1) (enumerate_from 0 l.fn.steps.items)
    ≡ l.pairs.items ++ map (λ s. step_write l.id s.0 s.1) (enumerate_from l.n l.step-iterator.rest.items))
    (l.n + length l.step-iterator.rest.items ≡ length l.fn.steps.items)
