use Rattle.std.proofs.Common.{◌≡◌, ◌≤◌, length, take, drop}
use Rattle.std.specs.Prelude.{vec_capacity}
use Rattle.r3_pool.specs.Slots.{live_count}
use Rattle.r3_chain.proofs.CuttingLemmas.{Cutting}
use Rattle.r3_chain.proofs.chains.Chains.trim.Given as goal

abbrev pub invariant-long : goal.invariant-long
invariant-long g l = record {
  cutting : Cutting (live_count l.initial.self-inside.nodes) l.oldest l.initial.self-inside.heads.entries l.initial.self-inside.nodes l.self-inside.nodes (take l.kept l.self-inside.long.items) (drop l.at l.self-inside.long.items);
  within : l.kept ≤ l.at;
  count : length l.self-inside.long.items ≡ length l.initial.self-inside.long.items;
  room : vec_capacity l.initial.self-inside.long ≤ vec_capacity l.self-inside.long;
  heads : l.self-inside.heads ≡ l.initial.self-inside.heads;
  cap : l.self-inside.cap ≡ l.initial.self-inside.cap;
  round : l.self-inside.round ≡ l.initial.self-inside.round;
  last : l.self-inside.last ≡ l.initial.self-inside.last;
}
