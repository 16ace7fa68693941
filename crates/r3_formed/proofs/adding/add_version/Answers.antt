use Rattle.std.proofs.Common.{ap, ◌∙◌, ◌+◌, ◌≤◌, sym, subst, arith, Err, Option}
use Rattle.std.specs.FinMap.{IsAntisymmetric}
use Rattle.std.specs.Option.{option_map_or}
use Rattle.std.specs.declared.cmp.Ordering.{Ordering}
use Rattle.r3_rows.specs.declared.rows.Key.{Key}
use Rattle.r3_rows.specs.declared.rows.Cell.{Cell}
use Rattle.r3_rows.specs.KeyOrder.{key_cmp-same}
use Rattle.r3_pool.specs.declared.fault.PoolFault.{PoolFault}
use Rattle.r3_chain.specs.Versions.{Chains, Version, IsNext, installed, kept_count}
use Rattle.r3_snap.specs.DerivedOrder.{same_cmp}
use Rattle.r3_formed.specs.LookLaws.{found_in}
use Rattle.r3_formed.proofs.adding.add_version.Goals as goal

pub add-requires : goal.add-requires
add-requires c = record {
  exact = subst (λ (R : Key → Key → Ordering). IsAntisymmetric R) (sym same_cmp) key_cmp-same;
  next = subst (λ (R : Key → Key → Ordering). IsNext R c.args.index c.args.key c.args.chains.now.versions) (sym same_cmp) c.requires.next;
}

pub returns-in-Ok : goal.returns-in-Ok
returns-in-Ok c = record {
  versions = ap (λ (x : Chains Key Cell). x.versions) c.in-Ok.ensures.ok
      ∙ ap (λ (R : Key → Key → Ordering). installed R c.args.index c.args.key c.args.value c.args.chains.now.versions) same_cmp;
  before = c.in-Ok.ensures.before
      ∙ ap (λ (v : Option (Version Cell)). option_map_or (λ w. w.0) v 0) (found_in c.args.chains.now.versions c.args.index c.args.key c.requires.sorted);
  cap = ap (λ (x : Chains Key Cell). x.cap) c.in-Ok.ensures.ok;
}

pub unreachable-requires : goal.unreachable-requires
unreachable-requires c =
    let room : kept_count c.args.chains.now.versions + 1 ≤ c.args.chains.now.cap = c.requires.room in
    omega (arith, room, c.add.ensures.full (c.in-Err-Full.is ∙ ap (λ (f : PoolFault). Err f) c.in-Err-Full.field-0-is))
