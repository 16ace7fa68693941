use Rattle.std.proofs.Common.{◌≡◌}
use Rattle.r3_chain.specs.Heads.{all_roomed}
use Rattle.r3_chain.proofs.head.give_rooms.Given as goal

abbrev pub invariant-keys : goal.invariant-keys
invariant-keys g l = l.heads.entries ≡ all_roomed g.K.Ord.cmp l.round l.next l.yielded l.initial.heads.entries
