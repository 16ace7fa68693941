use Rattle.std.proofs.Common.{◌≡◌, ◌++◌, map, drop}
use Rattle.fn_txn.specs.Held.{held_at, keys_held, version_in}
use Rattle.fn_txn.proofs.mem_view.keys_of.Given as goal

abbrev pub invariant-loop-h : goal.invariant-loop-h
invariant-loop-h l =
    l.keys.items ++ map (λ k. (k, version_in (held_at l.rows l.table k))) (keys_held (drop l.h-index l.rows) l.table l.lo l.hi)
    ≡ map (λ k. (k, version_in (held_at l.rows l.table k))) (keys_held l.rows l.table l.lo l.hi)
