use Rattle.std.proofs.Common.{◌≡◌, ◌<◌, ◌≤◌, length, take, min, refl, ◌∙◌, arith}
use Rattle.std.specs.Prelude.{vec_capacity}
use Rattle.std.proofs.lemmas.List.{length-set, length-take}
use Rattle.r3_pool.specs.Slots.{live_count}
use Rattle.r3_chain.proofs.ForestLemmas.{versions_trimmed}
use Rattle.r3_chain.proofs.CuttingLemmas.{place_starts, place_live, place_line, place_cut, place_kept, place_ends}
use Rattle.r3_chain.proofs.WholeLemmas.{whole_trimmed}
use Rattle.r3_chain.proofs.chains.Chains.trim.Goals.{then-get-oldest, else-get-oldest}
use Rattle.r3_chain.proofs.chains.Chains.trim.Goals as goal

pub long-init : goal.long-init
long-init g c = record {
  cutting = place_starts g.K.Ord.cmp c.self.inside.heads.entries c.self.inside.nodes c.self.inside.cap c.self.inside.round c.self.inside.last c.self.inside.long.items (vec_capacity c.self.inside.long) c.args.oldest c.self.invariant;
  within = omega arith;
  count = refl;
  room = omega arith;
  heads = refl;
  cap = refl;
  round = refl;
  last = refl;
}

pub get-requires : goal.get-requires
get-requires g c =
    let count : length c.long.self-inside.long.items ≡ length c.self.inside.long.items = c.long.invariant.count in
    place_live (live_count c.self.inside.nodes) c.args.oldest c.self.inside.heads.entries c.self.inside.nodes c.long.self-inside.nodes c.long.kept c.long.at c.long.self-inside.long.items c.long.invariant.cutting
    c.index-slot.result.now c.index-slot.ensures (omega arith)

pub trim_chain-requires : goal.trim_chain-requires
trim_chain-requires g c =
    let count : length c.long.self-inside.long.items ≡ length c.self.inside.long.items = c.long.invariant.count in
    place_line (live_count c.self.inside.nodes) c.args.oldest c.self.inside.heads.entries c.self.inside.nodes c.long.self-inside.nodes c.long.kept c.long.at c.long.self-inside.long.items c.long.invariant.cutting
    c.index-slot.result.now c.index-slot.ensures (omega arith)

pub long-preserved : goal.long-preserved
long-preserved g c =
    let count : length c.long.self-inside.long.items ≡ length c.self.inside.long.items = c.long.invariant.count in
    let lt : c.long.at < length c.long.self-inside.long.items = omega arith in
    let within : c.long.kept ≤ c.long.at = c.long.invariant.within in
    elim c.if-get-oldest.branch [
      | then-get-oldest w ↦ rw (w.self-inside-is, w.kept-is) (record {
        cutting = place_cut (live_count c.self.inside.nodes) c.args.oldest c.self.inside.heads.entries c.self.inside.nodes c.long.self-inside.nodes c.long.kept c.long.at c.long.self-inside.long.items c.long.invariant.cutting
            c.index-slot.result.now c.index-slot.ensures lt w.trim_chain.new.nodes c.get.result.now c.get.ensures w.if-get-oldest.true w.trim_chain.ensures;
        within = omega arith;
        count = c.long.invariant.count;
        room = c.long.invariant.room;
        heads = c.long.invariant.heads;
        cap = c.long.invariant.cap;
        round = c.long.invariant.round;
        last = c.long.invariant.last;
      })
      | else-get-oldest w ↦ rw (w.self-inside-is, w.kept-is) (record {
        cutting = place_kept (live_count c.self.inside.nodes) c.args.oldest c.self.inside.heads.entries c.self.inside.nodes c.long.self-inside.nodes c.long.kept c.long.at c.long.self-inside.long.items c.long.invariant.cutting
            c.index-slot.result.now c.index-slot.ensures lt c.get.result.now c.get.ensures w.if-get-oldest.false within;
        within = omega arith;
        count = length-set c.long.self-inside.long.items c.long.kept c.index-slot.result.now ∙ c.long.invariant.count;
        room = c.long.invariant.room;
        heads = c.long.invariant.heads;
        cap = c.long.invariant.cap;
        round = c.long.invariant.round;
        last = c.long.invariant.last;
      })
    ]

pub invariant_of-self : goal.invariant_of-self
invariant_of-self g c =
    let count : length c.long.self-inside.long.items ≡ length c.self.inside.long.items = c.long.invariant.count in
    let ends = place_ends (live_count c.self.inside.nodes) c.args.oldest c.self.inside.heads.entries c.self.inside.nodes c.long.self-inside.nodes c.long.kept c.long.at c.long.self-inside.long.items c.long.invariant.cutting (omega arith) in
    let fewer : length (take c.long.kept c.long.self-inside.long.items) ≡ min c.long.kept (length c.long.self-inside.long.items) = length-take c.long.kept c.long.self-inside.long.items in
    let capacity : vec_capacity c.truncate.new.self ≡ vec_capacity c.long.self-inside.long = c.truncate.ensures.capacity in
    let room : vec_capacity c.self.inside.long ≤ vec_capacity c.long.self-inside.long = c.long.invariant.room in
    rw (c.long.invariant.heads, c.long.invariant.cap, c.long.invariant.round, c.long.invariant.last, c.truncate.ensures.items)
    (whole_trimmed g.K.Ord.cmp c.self.inside.heads.entries c.self.inside.nodes c.long.self-inside.nodes c.self.inside.cap c.self.inside.round c.self.inside.last c.args.oldest
    c.self.inside.long.items (take c.long.kept c.long.self-inside.long.items) (vec_capacity c.self.inside.long) (vec_capacity c.truncate.new.self) c.self.invariant ends.0 ends.1 (omega arith) (omega arith))

pub returns-clause-versions : goal.returns-clause-versions
returns-clause-versions g c =
    let count : length c.long.self-inside.long.items ≡ length c.self.inside.long.items = c.long.invariant.count in
    let ends = place_ends (live_count c.self.inside.nodes) c.args.oldest c.self.inside.heads.entries c.self.inside.nodes c.long.self-inside.nodes c.long.kept c.long.at c.long.self-inside.long.items c.long.invariant.cutting (omega arith) in
    rw (c.long.invariant.heads, ← c.self.view_is)
    (versions_trimmed g.K.Ord.cmp c.self.inside.heads.entries c.self.inside.nodes c.long.self-inside.nodes c.self.inside.cap c.self.inside.round c.self.inside.last c.args.oldest c.self.invariant.sound ends.0)

pub returns-clause-room : goal.returns-clause-room
returns-clause-room g c = rw (c.long.invariant.heads, c.long.invariant.round, ← c.self.view_is) refl

pub returns-clause-cap : goal.returns-clause-cap
returns-clause-cap g c = rw (c.long.invariant.cap, ← c.self.view_is) refl
