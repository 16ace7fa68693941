use Rattle.std.proofs.Common.{◌≤◌, length, arith}
use Rattle.r3_entry.specs.Formed.{IsFormed}
use Rattle.r3_commands.proofs.counts.count_of.Goals as goal

pub returns-clause-few : goal.returns-clause-few
returns-clause-few g c =
    let h = c.requires.stands.0 in
    let formed : IsFormed h = c.is_past.ensures.formed h c.requires.stands.1 in
    let few : length h ≤ 1000000 = formed.few in
    omega (arith, few, c.count.ensures h c.requires.stands.1)
