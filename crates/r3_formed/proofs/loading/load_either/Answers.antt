use Rattle.r3_formed.proofs.loading.load_either.Goals as goal

pub returns-then-keep-clause-ok : goal.returns-then-keep-clause-ok
returns-then-keep-clause-ok c = rw c.if-keep.true c.load_kept.ensures.ok

pub returns-clause-ok : goal.returns-clause-ok
returns-clause-ok c = rw c.if-keep.false c.load_moved.ensures.ok
