use Rattle.std.proofs.Common.{ℕ, Option, sym, ap, ◌∙◌}
use Rattle.r3_model.specs.Functions.{language_of}
use Rattle.r3_model.specs.Turns.{txn_turn}
use Rattle.r3_plain.proofs.txns.txn_turn.Goals as goal

pub returns-in_ok-given-in-Some : goal.returns-in_ok-given-in-Some
returns-in_ok-given-in-Some g c = λ h s.
    c.in_ok-given-in-Some.ensures h s
    ∙ ap (λ (o : Option ℕ). txn_turn (language_of c.args.program.now) h c.args.id.now o c.args.request.now) (sym c.in-Some.is)
