use Rattle.std.proofs.Common.{◌≡◌, ◌<◌, ◌≤◌, ◌+◌, length, max, arith, refl, sym, ap, ◌∙◌, subst}
use Rattle.std.specs.List.{AllByRecursion}
use Rattle.std.specs.Option.{option_map_or}
use Rattle.std.specs.Prelude.{vec_len, vec_capacity}
use Rattle.std.specs.FinMap.{find}
use Rattle.std.specs.FinMap.Entries.{put}
use Rattle.r3_pool.specs.Slots.{Fills, live_count, next_slot, with_spare}
use Rattle.r3_chain.specs.Versions.{versions_of, last_upto as upto, IsNext}
use Rattle.r3_chain.specs.Links.{chain_in}
use Rattle.r3_chain.specs.Heads.{newest_in, room_in, kept_by, written}
use Rattle.r3_chain.specs.Sound.{room_count}
use Rattle.r3_chain.specs.Long.{listed, IsLong, IsWhole}
use Rattle.r3_chain.proofs.AddLemmas.{chain_before, added}
use Rattle.r3_chain.proofs.RoomLemmas.{on_ok, view_same}
use Rattle.r3_chain.proofs.WholeLemmas.{length_listed, whole_spare}
use Rattle.r3_chain.proofs.chains.Chains.add.Goals as goal

pub invariant_of-self-then-is_err : goal.invariant_of-self-then-is_err
invariant_of-self-then-is_err g c =
    let roomy : c.reserve.new.self ≡ with_spare c.self.inside.nodes (max c.self.inside.nodes.spare 1) = c.in-Ok.ensures.ok in
    whole_spare g.K.Ord.cmp g.met.K.Ord.total c.self.inside.heads.entries c.self.inside.nodes c.reserve.new.self c.self.inside.cap c.self.inside.round c.self.inside.last 1 c.self.inside.long.items c.reserve-2.new.self.items (vec_capacity c.self.inside.long) (vec_capacity c.reserve-2.new.self) c.self.invariant roomy c.reserve-2.ensures.items c.reserve-2.ensures.capacity

pub invariant_of-self-then-self : goal.invariant_of-self-then-self
invariant_of-self-then-self g c =
    let roomy : c.reserve.new.self ≡ with_spare c.self.inside.nodes (max c.self.inside.nodes.spare 1) = c.in-Ok.ensures.ok in
    whole_spare g.K.Ord.cmp g.met.K.Ord.total c.self.inside.heads.entries c.self.inside.nodes c.reserve.new.self c.self.inside.cap c.self.inside.round c.self.inside.last 1 c.self.inside.long.items c.reserve-2.new.self.items (vec_capacity c.self.inside.long) (vec_capacity c.reserve-2.new.self) c.self.invariant roomy c.reserve-2.ensures.items c.reserve-2.ensures.capacity

pub invariant_of-self-in_default : goal.invariant_of-self-in_default
invariant_of-self-in_default g c =
    let roomy : c.reserve.new.self ≡ with_spare c.self.inside.nodes (max c.self.inside.nodes.spare 1) = c.in-Ok.ensures.ok in
    subst (λ hs. IsWhole g.K.Ord.cmp hs c.reserve.new.self c.self.inside.cap c.self.inside.round c.self.inside.last c.reserve-2.new.self.items (vec_capacity c.reserve-2.new.self)) (sym c.in_default.ensures.err) (whole_spare g.K.Ord.cmp g.met.K.Ord.total c.self.inside.heads.entries c.self.inside.nodes c.reserve.new.self c.self.inside.cap c.self.inside.round c.self.inside.last 1 c.self.inside.long.items c.reserve-2.new.self.items (vec_capacity c.self.inside.long) (vec_capacity c.reserve-2.new.self) c.self.invariant roomy c.reserve-2.ensures.items c.reserve-2.ensures.capacity)

pub returns-in_default-clause-err : goal.returns-in_default-clause-err
returns-in_default-clause-err g c =
    let roomy : c.reserve.new.self ≡ with_spare c.self.inside.nodes (max c.self.inside.nodes.spare 1) = c.in-Ok.ensures.ok in
    let same : kept_by (chain_in c.reserve.new.self) c.self.inside.heads.entries ≡ kept_by (chain_in c.self.inside.nodes) c.self.inside.heads.entries = rw roomy refl in
    rw (c.in_default.ensures.err, ← c.self.view_is) (view_same _ _ _ _ c.self.inside.cap same refl)

pub list_version-requires : goal.list_version-requires
list_version-requires g c =
    let free : vec_len c.reserve-2.new.self + 1 ≤ vec_capacity c.reserve-2.new.self = on_ok c.reserve-2.result _ (sym c.is_err.ensures.value ∙ c.if-is_err.false) c.reserve-2.ensures.ok in
    omega arith

pub put_version-before-requires-clause-chain : goal.put_version-before-requires-clause-chain
put_version-before-requires-clause-chain g c =
    let roomy : c.reserve.new.self ≡ with_spare c.self.inside.nodes (max c.self.inside.nodes.spare 1) = c.in-Ok.ensures.ok in
    let before = chain_before g.K.Ord.cmp g.met.K.Ord.total c.self.inside.heads.entries c.self.inside.nodes c.reserve.new.self c.self.inside.cap c.self.inside.round c.self.inside.last c.self.invariant.sound roomy c.args.key c.in-Ok-push_newest.older c.in-Ok-push_newest.ensures.older in
    before.0

pub put_version-before-requires-clause-next : goal.put_version-before-requires-clause-next
put_version-before-requires-clause-next g c =
    let roomy : c.reserve.new.self ≡ with_spare c.self.inside.nodes (max c.self.inside.nodes.spare 1) = c.in-Ok.ensures.ok in
    let before = chain_before g.K.Ord.cmp g.met.K.Ord.total c.self.inside.heads.entries c.self.inside.nodes c.reserve.new.self c.self.inside.cap c.self.inside.round c.self.inside.last c.self.invariant.sound roomy c.args.key c.in-Ok-push_newest.older c.in-Ok-push_newest.ensures.older in
    let next : IsNext g.K.Ord.cmp c.args.index c.args.key (kept_by (chain_in c.self.inside.nodes) c.self.inside.heads.entries) = rw (← c.self.view_is) at c.requires.next in
    subst (AllByRecursion (λ v. v.0 < c.args.index)) before.1 next

pub invariant_of-self-2 : goal.invariant_of-self-2
invariant_of-self-2 g c =
    let roomy : c.reserve.new.self ≡ with_spare c.self.inside.nodes (max c.self.inside.nodes.spare 1) = c.in-Ok.ensures.ok in
    let next : IsNext g.K.Ord.cmp c.args.index c.args.key (kept_by (chain_in c.self.inside.nodes) c.self.inside.heads.entries) = rw (← c.self.view_is) at c.requires.next in
    let heads : c.push_newest.new.heads.entries ≡ put g.K.Ord.cmp c.args.key (written (next_slot c.reserve.new.self)) c.self.inside.heads.entries =
    c.in-Ok-push_newest.ensures.heads ∙ ap (λ s. put g.K.Ord.cmp c.args.key (written s) c.self.inside.heads.entries) c.next-slot.ensures in
    let fills = subst (λ t. Fills c.reserve.new.self c.put_version-before.new.nodes (next_slot c.reserve.new.self) (record { index = c.args.index; value = c.args.value; older = t })) c.in-Ok-push_newest.ensures.older c.put_version-before.ensures.fills in
    let spare : c.reserve.new.self.spare ≡ max c.self.inside.nodes.spare 1 = ap (λ p. p.spare) roomy in
    let left : c.put_version-before.new.nodes.spare + 1 ≡ c.reserve.new.self.spare = omega (arith, c.put_version-before.ensures.spare) in
    let adds = added g.K.Ord.cmp g.met.K.Ord.total c.self.inside.heads.entries c.self.inside.nodes c.reserve.new.self c.put_version-before.new.nodes c.self.inside.cap c.self.inside.round c.self.inside.last (next_slot c.reserve.new.self) c.args.index c.args.key c.args.value
    c.self.invariant.sound roomy c.requires.exact next fills c.put_version-before.ensures.cap left in
    let items : c.list_version.new.long.items ≡ listed (next_slot c.reserve.new.self) (newest_in (find g.K.Ord.cmp c.args.key c.self.inside.heads.entries)) c.self.inside.long.items =
    c.list_version.ensures.items ∙ ap (λ s. listed s c.in-Ok-push_newest.older c.reserve-2.new.self.items) c.next-slot.ensures
    ∙ ap (λ r. listed (next_slot c.reserve.new.self) r c.reserve-2.new.self.items) c.in-Ok-push_newest.ensures.older
    ∙ ap (listed (next_slot c.reserve.new.self) (newest_in (find g.K.Ord.cmp c.args.key c.self.inside.heads.entries))) c.reserve-2.ensures.items in
    let free : vec_len c.reserve-2.new.self + 1 ≤ vec_capacity c.reserve-2.new.self = on_ok c.reserve-2.result _ (sym c.is_err.ensures.value ∙ c.if-is_err.false) c.reserve-2.ensures.ok in
    let same : length c.reserve-2.new.self.items ≡ length c.self.inside.long.items = ap length c.reserve-2.ensures.items in
    let longer : length c.list_version.new.long.items ≤ length c.self.inside.long.items + 1 =
    subst (λ ss. length ss ≤ length c.self.inside.long.items + 1) (sym items) (length_listed (next_slot c.reserve.new.self) (newest_in (find g.K.Ord.cmp c.args.key c.self.inside.heads.entries)) c.self.inside.long.items) in
    let capacity : vec_capacity c.reserve-2.new.self ≤ vec_capacity c.list_version.new.long = c.list_version.ensures.capacity in
    let none : room_count (c.self.inside.last + 1) (put g.K.Ord.cmp c.args.key (written (next_slot c.reserve.new.self)) c.self.inside.heads.entries) ≡ 0 = adds.none in
    subst (λ hs. IsWhole g.K.Ord.cmp hs c.put_version-before.new.nodes c.self.inside.cap (c.self.inside.last + 1) (c.self.inside.last + 1) c.list_version.new.long.items (vec_capacity c.list_version.new.long)) (sym heads)
    (record {
      sound = adds.sound;
      long = subst (IsLong (live_count c.put_version-before.new.nodes) c.put_version-before.new.nodes (put g.K.Ord.cmp c.args.key (written (next_slot c.reserve.new.self)) c.self.inside.heads.entries)) (sym items) (adds.long c.self.inside.long.items c.self.invariant.long);
      fits = omega arith;
    })

pub returns-clause-ok : goal.returns-clause-ok
returns-clause-ok g c =
    let roomy : c.reserve.new.self ≡ with_spare c.self.inside.nodes (max c.self.inside.nodes.spare 1) = c.in-Ok.ensures.ok in
    let next : IsNext g.K.Ord.cmp c.args.index c.args.key (kept_by (chain_in c.self.inside.nodes) c.self.inside.heads.entries) = rw (← c.self.view_is) at c.requires.next in
    let heads : c.push_newest.new.heads.entries ≡ put g.K.Ord.cmp c.args.key (written (next_slot c.reserve.new.self)) c.self.inside.heads.entries =
    c.in-Ok-push_newest.ensures.heads ∙ ap (λ s. put g.K.Ord.cmp c.args.key (written s) c.self.inside.heads.entries) c.next-slot.ensures in
    let fills = subst (λ t. Fills c.reserve.new.self c.put_version-before.new.nodes (next_slot c.reserve.new.self) (record { index = c.args.index; value = c.args.value; older = t })) c.in-Ok-push_newest.ensures.older c.put_version-before.ensures.fills in
    let spare : c.reserve.new.self.spare ≡ max c.self.inside.nodes.spare 1 = ap (λ p. p.spare) roomy in
    let left : c.put_version-before.new.nodes.spare + 1 ≡ c.reserve.new.self.spare = omega (arith, c.put_version-before.ensures.spare) in
    let adds = added g.K.Ord.cmp g.met.K.Ord.total c.self.inside.heads.entries c.self.inside.nodes c.reserve.new.self c.put_version-before.new.nodes c.self.inside.cap c.self.inside.round c.self.inside.last (next_slot c.reserve.new.self) c.args.index c.args.key c.args.value
    c.self.invariant.sound roomy c.requires.exact next fills c.put_version-before.ensures.cap left in
    rw (← c.self.view_is) (view_same _ _ _ _ c.self.inside.cap (ap (kept_by (chain_in c.put_version-before.new.nodes)) heads ∙ adds.versions) (ap (room_in (c.self.inside.last + 1)) heads ∙ adds.room))

pub returns-clause-before : goal.returns-clause-before
returns-clause-before g c =
    let roomy : c.reserve.new.self ≡ with_spare c.self.inside.nodes (max c.self.inside.nodes.spare 1) = c.in-Ok.ensures.ok in
    let before = chain_before g.K.Ord.cmp g.met.K.Ord.total c.self.inside.heads.entries c.self.inside.nodes c.reserve.new.self c.self.inside.cap c.self.inside.round c.self.inside.last c.self.invariant.sound roomy c.args.key c.in-Ok-push_newest.older c.in-Ok-push_newest.ensures.older in
    let at : versions_of g.K.Ord.cmp c.args.key c.args.self.now.versions ≡ chain_in c.reserve.new.self c.in-Ok-push_newest.older = rw (← c.self.view_is) before.1 in
    c.put_version-before.ensures.before ∙ sym (ap (λ vs. option_map_or (λ v. v.0) (upto c.args.index vs) 0) at)
