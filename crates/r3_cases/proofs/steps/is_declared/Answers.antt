use Rattle.std.proofs.Common.{◌≡◌, ◌||◌, ℕ, Bool, List, [], ◌∷◌, map, refl, ap, ◌∙◌}
use Rattle.std.specs.List.{list_any}
use Rattle.std.specs.Str.{bytes_eq}
use Rattle.r3_model.specs.Language.{Queue, Text}
use Rattle.r3_exec.specs.Runs.{language}
use Rattle.r3_cases.proofs.steps.is_declared.Goals as goal

-- whether a name is one of the queues' names
any-names : (name : Text) (qs : List Queue) → list_any (λ (n : Text). bytes_eq n name) (map (λ (q : Queue). q.name) qs) ≡ list_any (λ (q : Queue). bytes_eq q.name name) qs
any-names name [] = refl
any-names name (q ∷ qs) = ap (λ (b : Bool). bytes_eq q.name name || b) (any-names name qs)

pub returns : goal.returns
returns c =
    c.contains.ensures
    ∙ ap (λ (ns : List (List ℕ)). list_any (λ (n : List ℕ). bytes_eq n c.args.queue.now) ns) (c.deref.ensures.value ∙ c.in_ok-names.ensures)
    ∙ any-names c.args.queue.now (language c.args.exec.now).queues
