use Rattle.std.proofs.Common.{sym, ap, ◌∙◌}
use Rattle.std.specs.Option.{option_copied}
use Rattle.r3_commands.proofs.Carried.{forked-ok}
use Rattle.r3_commands.proofs.forks.forked.Goals as goal

pub returns-in_ok-source-in-Some : goal.returns-in_ok-source-in-Some
returns-in_ok-source-in-Some g c =
    forked-ok (λ h. g.P.Past.stands c.args.past.now h) c.fork_of.result c.args.to.now c.args.source.now
    c.in_ok-source-in-Some.source c.args.below c.in-Some.row.now c.in_ok-source-in-Some.ensures
    (λ h s. sym (c.in_ok-flow_row.ensures.row h s) ∙ ap option_copied c.in-Some.is)
    c.fork_of.ensures
