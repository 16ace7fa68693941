use Rattle.std.proofs.Common.{◌≡◌, ℕ, ◌+◌, ◌≤◌, ◌∷◌, List, length, ap, ◌∙◌, sym, subst, arith, reverse}
use Rattle.r3_rows.specs.Keys.{key_cmp}
use Rattle.r3_chain.specs.Versions.{installed, kept_count}
use Rattle.r3_formed.specs.Past.{HasRoom, all_installed}
use Rattle.r3_formed.specs.Adding.{AreNext, MayStand, MayAllStand}
use Rattle.r3_formed.proofs.Writes.{Write, taken}
use Rattle.r3_formed.proofs.AddLaws.{one_next, more_added}
use Rattle.r3_formed.proofs.Capacity.{room_left, taken_long}
use Rattle.r3_formed.proofs.adding.add_writes.Goals as goal

pub add_write-requires-clause-room : goal.add_write-requires-clause-room
add_write-requires-clause-room c =
    let room : kept_count c.writes.chains.versions + length c.writes.writes.items ≤ c.writes.chains.cap = c.writes.invariant.room in
    omega (arith, room, taken_long c.writes.writes.items c.pop.new.self.items c.in-Some.write c.in-Some.ensures.items)

pub writes-preserved : goal.writes-preserved
writes-preserved c =
    let rest : List Write = reverse c.pop.new.self.items in
    let now : reverse c.writes.writes.items ≡ c.in-Some.write ∷ rest = taken c.writes.writes.items c.pop.new.self.items c.in-Some.write c.in-Some.ensures.items in
    let made : c.add_write.new.chains.versions ≡ installed key_cmp c.args.index c.in-Some.write.0 c.in-Some.write.1 c.writes.chains.versions = c.in_ok-add_write.ensures.versions in
    let may : MayStand c.args.index c.args.snap c.in-Some.write c.writes.chains.versions = c.in_ok-add_write.ensures.may.0 c.if-not-branch.false in
    let next = one_next c.args.index c.in-Some.write rest c.writes.chains.versions (subst (λ ws. AreNext c.args.index ws c.writes.chains.versions) now c.writes.invariant.next) in
    record {
      next = subst (AreNext c.args.index rest) (sym made) next.1;
      goes = ap (all_installed c.args.index rest) made
          ∙ ap (λ ws. all_installed c.args.index ws c.writes.chains.versions) (sym now) ∙ c.writes.invariant.goes;
      room = room_left c.writes.chains c.add_write.new.chains c.args.index c.in-Some.write (length c.pop.new.self.items) c.writes.invariant.next.versions made c.add_write.ensures.cap
          (subst (λ (n : ℕ). HasRoom c.writes.chains n) (taken_long c.writes.writes.items c.pop.new.self.items c.in-Some.write c.in-Some.ensures.items) c.writes.invariant.room);
      cap = c.add_write.ensures.cap ∙ c.writes.invariant.cap;
      may = more_added c.args.index c.args.snap c.in-Some.write (reverse c.writes.writes.items) rest c.writes.chains.versions c.add_write.new.chains.versions
          (MayAllStand c.args.index c.args.snap c.args.writes.items c.args.chains.now.versions) now made may c.writes.invariant.may;
    }
