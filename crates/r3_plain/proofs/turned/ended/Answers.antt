use Rattle.std.proofs.Common.{sym, ◌∙◌}
use Rattle.r3_model.specs.Functions.{language_of}
use Rattle.r3_plain.proofs.Turns.{by_end}
use Rattle.r3_plain.proofs.turned.ended.Goals as goal

pub asked-requires-clause-stands : goal.asked-requires-clause-stands
asked-requires-clause-stands g c =
    let x = c.requires.stands in
    (x.0, x.1, record { row = c.args.row.now; asks = sym (c.in_ok-n.ensures.end x.0 x.1) ∙ c.in-Asks.is })

pub returns-in-Unexpected : goal.returns-in-Unexpected
returns-in-Unexpected g c = λ h s.
    by_end (language_of c.args.program.now) h c.args.id.now c.args.snap c.args.answer.now c.quiet.result c.args.row.now _ (sym c.in-Unexpected.is ∙ c.in_ok-n.ensures.end h s)
    (record { given = c.quiet.ensures.given; calls = c.quiet.ensures.call })

pub returns-in_ok-turned-in-Done : goal.returns-in_ok-turned-in-Done
returns-in_ok-turned-in-Done g c = λ h s.
    let t = c.in_ok-turned-in-Done.ensures (language_of c.args.program.now) h s in
    by_end (language_of c.args.program.now) h c.args.id.now c.args.snap c.args.answer.now c.in_ok-turned-in-Done.turned c.args.row.now _ (sym c.in-Done.is ∙ c.in_ok-n.ensures.end h s)
    (record { given = t.given; calls = t.calls })

pub returns-in_ok-turned-in-Asks : goal.returns-in_ok-turned-in-Asks
returns-in_ok-turned-in-Asks g c = λ h s.
    by_end (language_of c.args.program.now) h c.args.id.now c.args.snap c.args.answer.now c.in_ok-turned-in-Asks.turned c.args.row.now _ (sym c.in-Asks.is ∙ c.in_ok-n.ensures.end h s)
    (c.in_ok-turned-in-Asks.ensures h s)
