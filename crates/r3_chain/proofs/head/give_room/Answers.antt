use Rattle.std.proofs.Common.{◌≡◌, Some, None, sym, ap, ◌∙◌}
use Rattle.std.specs.FinMap.{find}
use Rattle.std.specs.BTreeMap.{insert_entry}
use Rattle.std.specs.FinMap.Entries.{put}
use Rattle.r3_chain.specs.Heads.{roomed}
use Rattle.r3_chain.specs.declared.head.Head.{Head}
use Rattle.r3_chain.proofs.PutLemmas.{sorted_entries, found_is, write_put, insert_put, roomed_then, roomed_else}
use Rattle.r3_chain.proofs.head.give_room.Goals as goal
use Rattle.r3_chain.proofs.head.give_room.Goals.{then-head-round, else-head-round, in-Ok, in-Err}

pub returns-in-Some-clause-ok : goal.returns-in-Some-clause-ok
returns-in-Some-clause-ok g c =
    let value = rw c.in-Some.is at c.get_mut.ensures.value in
    let found : find g.K.Ord.cmp c.args.key c.args.heads.now.entries ≡ Some c.in-Some.head.now = sym (found_is g.K.Ord.cmp c.args.key c.args.heads.now.entries) ∙ sym value in
    let new : Head = record { newest = c.if-head-round.head.newest; round = c.args.next; before = c.if-head-round.head.before } in
    let same : new ≡ roomed c.args.round c.args.next (Some c.in-Some.head.now) = elim c.if-head-round.branch [
      | then-head-round w ↦ roomed_then c.in-Some.head.now c.if-head-round.head c.args.round c.args.next w.if-head-round.true w.head-is
      | else-head-round w ↦ roomed_else c.in-Some.head.now c.if-head-round.head c.args.round c.args.next w.if-head-round.false w.head-is
    ] in
    (c.get_mut.follows.holds new).0
    ∙ write_put g.K.Ord.cmp g.met.K.Ord.total c.args.key new c.in-Some.head.now c.args.heads.now.entries
    (sorted_entries g.K.Ord.cmp c.args.heads.now.entries c.get_mut.ensures.ordered) found
    ∙ ap (λ v. put g.K.Ord.cmp c.args.key v c.args.heads.now.entries) (same ∙ ap (roomed c.args.round c.args.next) (sym found))

pub returns-clause-ok : goal.returns-clause-ok
returns-clause-ok g c =
    let value = rw c.in_default.is at c.get_mut.ensures.value in
    let none : find g.K.Ord.cmp c.args.key c.args.heads.now.entries ≡ None = sym (found_is g.K.Ord.cmp c.args.key c.args.heads.now.entries) ∙ sym value in
    let new : Head = record { newest = None; round = c.args.next; before = 0 } in
    elim c.match-insert.branch [
      | in-Ok w ↦
          let made = rw w.in-Ok.is at c.insert.ensures.entries in
          rw w.result-is (made ∙ ap (λ m. insert_entry g.K.Ord.cmp m.entries c.args.key new) c.get_mut.follows.holds-at-none ∙ insert_put g.K.Ord.cmp c.args.key new c.args.heads.now.entries
          ∙ ap (λ f. put g.K.Ord.cmp c.args.key (roomed c.args.round c.args.next f) c.args.heads.now.entries) (sym none))
      | in-Err w ↦ rw w.result-is tt
    ]
