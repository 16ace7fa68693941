use Rattle.std.proofs.Common.{◌≡◌, ◌<◌, ◌≤◌, ◌+◌, ◌-◌, length, arith, sym, ap, ◌∙◌, subst, is_some, true}
use Rattle.std.specs.Prelude.{vec_capacity}
use Rattle.std.specs.FinMap.{find}
use Rattle.std.specs.FinMap.Entries.{put}
use Rattle.r3_pool.specs.Slots.{live_count}
use Rattle.r3_chain.specs.Versions.{has_room, IsNext}
use Rattle.r3_chain.specs.Links.{chain_in}
use Rattle.r3_chain.specs.Heads.{newest_in, room_in, kept_by, written}
use Rattle.r3_chain.specs.Sound.{room_count}
use Rattle.r3_chain.specs.Long.{listed, IsLong}
use Rattle.r3_chain.proofs.SoundLemmas.{has_head, some_room, has_spare, one_less, room_after, versions_after, sound_after}
use Rattle.r3_chain.proofs.WholeLemmas.{length_listed, long_after}
use Rattle.r3_chain.proofs.chains.Chains.install.Goals as goal

pub put-requires : goal.put-requires
put-requires g c =
    let room : has_room g.K.Ord.cmp c.args.key.now (room_in c.self.inside.round c.self.inside.heads.entries) ≡ true = rw (← c.self.view_is) at c.requires.room in
    has_spare g.K.Ord.cmp g.met.K.Ord.total c.self.inside.heads.entries c.self.inside.nodes c.self.inside.cap c.self.inside.round c.self.inside.last c.self.invariant.sound c.args.key.now room

pub replace_newest-older-requires : goal.replace_newest-older-requires
replace_newest-older-requires g c =
    let room : has_room g.K.Ord.cmp c.args.key.now (room_in c.self.inside.round c.self.inside.heads.entries) ≡ true = rw (← c.self.view_is) at c.requires.room in
    let head = has_head g.K.Ord.cmp g.met.K.Ord.total c.self.inside.heads.entries c.self.inside.nodes c.self.inside.cap c.self.inside.round c.self.inside.last c.self.invariant.sound c.args.key.now room in
    ap is_some head.1.0

pub list_version-requires : goal.list_version-requires
list_version-requires g c =
    let room : has_room g.K.Ord.cmp c.args.key.now (room_in c.self.inside.round c.self.inside.heads.entries) ≡ true = rw (← c.self.view_is) at c.requires.room in
    let some : 0 < room_count c.self.inside.round c.self.inside.heads.entries = some_room g.K.Ord.cmp g.met.K.Ord.total c.self.inside.heads.entries c.self.inside.nodes c.self.inside.cap c.self.inside.round c.self.inside.last c.self.invariant.sound c.args.key.now room in
    let fits : length c.self.inside.long.items + room_count c.self.inside.round c.self.inside.heads.entries ≤ vec_capacity c.self.inside.long = c.self.invariant.fits in
    omega arith

pub invariant_of-self : goal.invariant_of-self
invariant_of-self g c =
    let room : has_room g.K.Ord.cmp c.args.key.now (room_in c.self.inside.round c.self.inside.heads.entries) ≡ true = rw (← c.self.view_is) at c.requires.room in
    let head = has_head g.K.Ord.cmp g.met.K.Ord.total c.self.inside.heads.entries c.self.inside.nodes c.self.inside.cap c.self.inside.round c.self.inside.last c.self.invariant.sound c.args.key.now room in
    let fills = rw c.replace_newest-older.ensures.older at c.put.ensures.fills in
    let slot : c.next-slot.result ≡ c.put.result = c.next-slot.ensures ∙ sym c.put.ensures.slot in
    let heads : c.replace_newest-older.new.heads.entries ≡ put g.K.Ord.cmp c.args.key.now (written c.put.result) c.self.inside.heads.entries =
    c.replace_newest-older.ensures.heads ∙ ap (λ s. put g.K.Ord.cmp c.args.key.now (written s) c.self.inside.heads.entries) slot in
    let items : c.list_version.new.long.items ≡ listed c.put.result (newest_in (find g.K.Ord.cmp c.args.key.now c.self.inside.heads.entries)) c.self.inside.long.items =
    c.list_version.ensures.items ∙ ap (λ s. listed s c.replace_newest-older.result c.self.inside.long.items) slot ∙ ap (λ r. listed c.put.result r c.self.inside.long.items) c.replace_newest-older.ensures.older in
    let next : IsNext g.K.Ord.cmp c.args.index c.args.key.now (kept_by (chain_in c.self.inside.nodes) c.self.inside.heads.entries) = rw (← c.self.view_is) at c.requires.next in
    let some : 0 < c.self.inside.nodes.spare = has_spare g.K.Ord.cmp g.met.K.Ord.total c.self.inside.heads.entries c.self.inside.nodes c.self.inside.cap c.self.inside.round c.self.inside.last c.self.invariant.sound c.args.key.now room in
    let cap : c.put.new.self.cap ≡ c.self.inside.nodes.cap = ap (λ p. p.cap) c.put.ensures.value in
    let spare : c.put.new.self.spare ≡ c.self.inside.nodes.spare - 1 = ap (λ p. p.spare) c.put.ensures.value in
    let less : room_count c.self.inside.round (put g.K.Ord.cmp c.args.key.now (written c.put.result) c.self.inside.heads.entries) + 1 ≡ room_count c.self.inside.round c.self.inside.heads.entries =
    one_less g.K.Ord.cmp g.met.K.Ord.total c.self.inside.heads.entries c.self.inside.nodes c.put.new.self c.self.inside.cap c.self.inside.round c.self.inside.last c.put.result c.args.index c.args.key.now c.args.value c.self.invariant.sound head.0 head.1.0 fills head.1.1 c.self.invariant.sound.first in
    let fits : length c.self.inside.long.items + room_count c.self.inside.round c.self.inside.heads.entries ≤ vec_capacity c.self.inside.long = c.self.invariant.fits in
    let longer : length c.list_version.new.long.items ≤ length c.self.inside.long.items + 1 = subst (λ ss. length ss ≤ length c.self.inside.long.items + 1) (sym items) (length_listed c.put.result (newest_in (find g.K.Ord.cmp c.args.key.now c.self.inside.heads.entries)) c.self.inside.long.items) in
    let capacity : vec_capacity c.self.inside.long ≤ vec_capacity c.list_version.new.long = c.list_version.ensures.capacity in
    rw heads (record {
      sound = sound_after g.K.Ord.cmp g.met.K.Ord.total c.self.inside.heads.entries c.self.inside.nodes c.put.new.self c.self.inside.cap c.self.inside.round c.self.inside.last c.put.result c.args.index c.args.key.now c.args.value c.self.invariant.sound head.0 head.1.0 fills c.requires.exact next head.1.1 cap (omega arith);
      long = subst (IsLong (live_count c.put.new.self) c.put.new.self (put g.K.Ord.cmp c.args.key.now (written c.put.result) c.self.inside.heads.entries)) (sym items)
          (long_after g.K.Ord.cmp g.met.K.Ord.total c.self.inside.heads.entries c.self.inside.nodes c.put.new.self c.self.inside.cap c.self.inside.round c.self.inside.last c.put.result c.args.index c.args.key.now c.args.value c.self.invariant.sound head.0 head.1.0 fills c.self.inside.long.items c.self.invariant.long);
      fits = omega arith;
    })

pub returns-clause-versions : goal.returns-clause-versions
returns-clause-versions g c =
    let room : has_room g.K.Ord.cmp c.args.key.now (room_in c.self.inside.round c.self.inside.heads.entries) ≡ true = rw (← c.self.view_is) at c.requires.room in
    let head = has_head g.K.Ord.cmp g.met.K.Ord.total c.self.inside.heads.entries c.self.inside.nodes c.self.inside.cap c.self.inside.round c.self.inside.last c.self.invariant.sound c.args.key.now room in
    let fills = rw c.replace_newest-older.ensures.older at c.put.ensures.fills in
    let heads : c.replace_newest-older.new.heads.entries ≡ put g.K.Ord.cmp c.args.key.now (written c.put.result) c.self.inside.heads.entries =
    c.replace_newest-older.ensures.heads ∙ ap (λ s. put g.K.Ord.cmp c.args.key.now (written s) c.self.inside.heads.entries) (c.next-slot.ensures ∙ sym c.put.ensures.slot) in
    rw (heads, ← c.self.view_is) (versions_after g.K.Ord.cmp g.met.K.Ord.total c.self.inside.heads.entries c.self.inside.nodes c.put.new.self c.self.inside.cap c.self.inside.round c.self.inside.last c.put.result c.args.index c.args.key.now c.args.value c.self.invariant.sound head.0 head.1.0 fills c.requires.exact)

pub returns-clause-room : goal.returns-clause-room
returns-clause-room g c =
    let room : has_room g.K.Ord.cmp c.args.key.now (room_in c.self.inside.round c.self.inside.heads.entries) ≡ true = rw (← c.self.view_is) at c.requires.room in
    rw (c.replace_newest-older.ensures.heads, ← c.self.view_is) (room_after g.K.Ord.cmp g.met.K.Ord.total c.self.inside.heads.entries c.self.inside.nodes c.self.inside.cap c.self.inside.round c.self.inside.last c.self.invariant.sound c.args.key.now c.next-slot.result room)
