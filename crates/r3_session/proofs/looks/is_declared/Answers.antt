use Rattle.std.proofs.Common.{ℕ, List, ap, ◌∙◌}
use Rattle.std.specs.List.{list_any}
use Rattle.std.specs.Str.{bytes_eq}
use Rattle.r3_exec.specs.Runs.{language}
use Rattle.r3_session.proofs.Looking.{any-names}
use Rattle.r3_session.proofs.looks.is_declared.Goals as goal

pub returns : goal.returns
returns c =
    c.contains.ensures
    ∙ ap (λ (ns : List (List ℕ)). list_any (λ (n : List ℕ). bytes_eq n c.args.queue.now) ns) (c.deref.ensures.value ∙ c.in_ok-names.ensures)
    ∙ any-names c.args.queue.now (language c.args.exec.now).queues
