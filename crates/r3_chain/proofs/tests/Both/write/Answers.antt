use Rattle.std.proofs.Common.{◌≡◌, [], ◌∷◌, ap}
use Rattle.std.specs.Ordering.{nat_cmp}
use Rattle.std.specs.FinMap.{nat_cmp-IsAntisymmetric}
use Rattle.r3_chain.specs.Versions.{key_set}
use Rattle.r3_chain.proofs.TwinLemmas.{one_key, next_up, next_after}
use Rattle.r3_chain.proofs.tests.Both.write.Goals as goal

pub invariant_of-self-in_err-reserve : goal.invariant_of-self-in_err-reserve
invariant_of-self-in_err-reserve c = λ q. rw c.reserve.ensures.same.0 (c.self.invariant q)

pub invariant_of-self-in_err-push : goal.invariant_of-self-in_err-push
invariant_of-self-in_err-push c = λ q. rw c.reserve.ensures.same.0 (c.self.invariant q)

pub install-requires-clause-exact : goal.install-requires-clause-exact
install-requires-clause-exact c = nat_cmp-IsAntisymmetric

pub install-requires-clause-room : goal.install-requires-clause-room
install-requires-clause-room c =
    let room : c.reserve.new.self.room ≡ key_set nat_cmp c.in_ok-vec.field-0.items = ap (λ v. v.room) (c.in_ok-reserve.ensures.ok nat_cmp-IsAntisymmetric) in
    let items : c.in_ok-vec.field-0.items ≡ c.args.key ∷ [] = c.in_ok-vec.ensures.items in
    rw (room, items) (one_key c.args.key)

pub install-requires-clause-next : goal.install-requires-clause-next
install-requires-clause-next c =
    rw c.reserve.ensures.same.0 (next_up c.self.inside.next c.args.index c.self.inside.chains.versions c.if-index-self.false c.self.invariant c.args.key)

pub invariant_of-self-2 : goal.invariant_of-self-2
invariant_of-self-2 c = λ q.
    rw (c.install.ensures.versions, c.reserve.ensures.same.0)
    (next_after c.self.inside.next c.args.index c.args.key c.args.value c.self.inside.chains.versions c.if-index-self.false c.self.invariant q)
