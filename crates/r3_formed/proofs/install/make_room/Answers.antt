use Rattle.std.proofs.Common.{ap, ◌∙◌, ◌+◌, ◌≤◌, length, sym, subst, arith, Err}
use Rattle.std.specs.FinMap.{IsAntisymmetric}
use Rattle.std.specs.declared.cmp.Ordering.{Ordering}
use Rattle.r3_rows.specs.declared.rows.Key.{Key}
use Rattle.r3_rows.specs.declared.rows.Cell.{Cell}
use Rattle.r3_rows.specs.KeyOrder.{key_cmp-same}
use Rattle.r3_rows.specs.contracts.rows.KeyOrd.TheImpl as derived
use Rattle.r3_pool.specs.declared.fault.PoolFault.{PoolFault}
use Rattle.r3_chain.specs.Versions.{Chains, key_set, kept_count}
use Rattle.r3_formed.proofs.Capacity.{set_short}
use Rattle.r3_snap.specs.DerivedOrder.{same_cmp}
use Rattle.r3_formed.proofs.install.make_room.Goals as goal

pub returns-in-Ok-clause-room : goal.returns-in-Ok-clause-room
returns-in-Ok-clause-room c =
    ap (λ (x : Chains Key Cell). x.room) (c.in-Ok.ensures.ok (subst (λ (R : Key → Key → Ordering). IsAntisymmetric R) (sym same_cmp) key_cmp-same))
    ∙ ap (λ (R : Key → Key → Ordering). key_set R c.args.keys.items) same_cmp

pub unreachable-requires : goal.unreachable-requires
unreachable-requires c =
    let room : kept_count c.args.chains.now.versions + length c.args.keys.items ≤ c.args.chains.now.cap = c.requires in
    omega (arith, room, set_short derived.cmp-value.it c.args.keys.items, c.reserve.ensures.full (c.in-Err-Full.is ∙ ap (λ (f : PoolFault). Err f) c.in-Err-Full.field-0-is))
