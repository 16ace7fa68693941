use Rattle.std.proofs.Common.{◌≡◌, ◌+◌, ap, arith}
use Rattle.r3_chain.proofs.TrimLemmas.{ends_at}
use Rattle.r3_chain.proofs.trim.end_at.Goals as goal

pub put-requires : goal.put-requires
put-requires g c = let more : c.take-index.new.self.spare ≡ c.args.nodes.now.spare + 1 = ap (λ p. p.spare) c.take-index.ensures.freed in omega arith

pub returns : goal.returns
returns g c =
    ends_at c.args.nodes.now c.take-index.new.self c.put.new.self c.args.slot c.put.result c.take-index.result
    c.take-index.ensures.value c.take-index.ensures.freed c.take-index.ensures.empties c.put.ensures.slot c.put.ensures.value c.put.ensures.fills
