use Rattle.std.proofs.Common.{sym, ◌∙◌}
use Rattle.r3_commands.proofs.Carried.{fork_of-ok}
use Rattle.r3_commands.proofs.forks.fork_of.Goals as goal

pub returns-else-branch-below : goal.returns-else-branch-below
returns-else-branch-below g c =
    fork_of-ok (λ h. g.P.Past.stands c.args.past.now h) c.fork_once.result c.args.to.now c.args.source.now c.args.below
    c.in_ok-recorded_count-in-Some.field-0 c.args.row.now c.in-Some.id
    (λ h s. sym c.in-Some.is ∙ c.in_ok-new_id.ensures h (sym (c.count_of.ensures.count h s)))
    (λ h s. c.in_ok-recorded_count-in-Some.ensures.count h s) c.if-branch-below.false
    c.fork_once.ensures
