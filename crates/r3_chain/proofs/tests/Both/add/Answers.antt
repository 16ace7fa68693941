use Rattle.std.proofs.Common.{◌≡◌, ap}
use Rattle.std.specs.Ordering.{nat_cmp}
use Rattle.r3_chain.specs.Versions.{installed}
use Rattle.r3_chain.proofs.TwinLemmas.{next_after}
use Rattle.r3_chain.proofs.tests.Both.add.Goals as goal

pub invariant_of-self-2 : goal.invariant_of-self-2
invariant_of-self-2 c = λ q.
    let added : c.add.new.self.versions ≡ installed nat_cmp c.args.index c.args.key c.args.value c.self.inside.chains.versions = ap (λ v. v.versions) c.in_ok-before.ensures.ok in
    rw added (next_after c.self.inside.next c.args.index c.args.key c.args.value c.self.inside.chains.versions c.if-index-self.false c.self.invariant q)
