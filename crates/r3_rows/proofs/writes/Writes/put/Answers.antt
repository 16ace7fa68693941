use Rattle.r3_rows.proofs.Pairs.{put_sorted}
use Rattle.r3_rows.proofs.writes.Writes.put.Goals as goal

pub invariant_of-self : goal.invariant_of-self
invariant_of-self c = put_sorted c.args.key c.args.cell c.self.inside.pairs.items c.put_pair.new.pairs.items c.put_pair.result c.put_pair.ensures.ok c.put_pair.ensures.err c.self.invariant
