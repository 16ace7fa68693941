use Rattle.std.proofs.Common.{◌≡◌, Some, sym, ap, ◌∙◌}
use Rattle.std.specs.FinMap.{find}
use Rattle.r3_chain.specs.Heads.{newest_in, written}
use Rattle.r3_chain.proofs.PutLemmas.{sorted_entries, found_is, write_put}
use Rattle.r3_chain.proofs.head.replace_newest.Goals as goal

pub returns-clause-older : goal.returns-clause-older
returns-clause-older g c =
    let value = rw c.in-Some.is at c.get_mut.ensures.value in
    ap newest_in (value ∙ found_is g.K.Ord.cmp c.args.key.now c.args.heads.now.entries)

pub returns-clause-heads : goal.returns-clause-heads
returns-clause-heads g c =
    let value = rw c.in-Some.is at c.get_mut.ensures.value in
    let found : find g.K.Ord.cmp c.args.key.now c.args.heads.now.entries ≡ Some c.in-Some.old.now = sym (found_is g.K.Ord.cmp c.args.key.now c.args.heads.now.entries) ∙ sym value in
    (c.get_mut.follows.holds (written c.args.slot)).0
    ∙ write_put g.K.Ord.cmp g.met.K.Ord.total c.args.key.now (written c.args.slot) c.in-Some.old.now c.args.heads.now.entries
    (sorted_entries g.K.Ord.cmp c.args.heads.now.entries c.get_mut.ensures.ordered) found
