use Rattle.std.proofs.Common.{rules, inr, take, drop, refl, ◌∙◌}
use Rattle.std.proofs.lemmas.List.{take-append-drop}
use Rattle.r3_top.proofs.Closing.{has-line}
use Rattle.r3_top.proofs.program.end.Goals as goal

pub returns-clause-closes : goal.returns-clause-closes
returns-clause-closes g c =
    let part = c.in-Err.ensures.part in
    inr (record {
      line = take part.0 c.deref.result.now;
      rest = drop part.0 c.deref.result.now;
      cut = take-append-drop part.0 c.deref.result.now ∙ c.deref.ensures.value ∙ c.in-Ok.ensures.line;
      spoken = λ none. search (rules, none);
      says = record { told = part.2; asks = c.say.ensures.asked; stored = c.say.ensures.image };
      answers = inr refl;
      pending = c.say.ensures.pending;
      time = c.say.ensures.time;
    })

pub returns-clause-own : goal.returns-clause-own
returns-clause-own g c = λ none. absurd (none (has-line c.args.halt (λ empty. search (rules, empty))))
