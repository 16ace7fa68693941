use Rattle.std.proofs.Common.{◌≡◌, ◌+◌, ◌<◌, ap, arith}
use Rattle.r3_pool.specs.Slots.{value_at, live_count}
use Rattle.r3_chain.proofs.LinkLemmas.{first_live}
use Rattle.r3_chain.proofs.TrimLemmas.{freeing_starts, freeing_ends, freeing_goes_on}
use Rattle.r3_chain.proofs.trim.free_chain.Goals as goal

pub free-init : goal.free-init
free-init g c = freeing_starts (live_count c.args.nodes.now) c.args.from c.args.nodes.now c.requires

pub take-requires : goal.take-requires
take-requires g c = first_live (live_count c.args.nodes.now) (value_at c.free.nodes) c.in-Some.slot (rw c.in-Some.is at c.free.invariant.line.ends)

pub free-smaller : goal.free-smaller
free-smaller g c =
    let fewer : live_count c.take.new.self + 1 ≡ live_count c.free.nodes = c.take.ensures.empties.live in
    let less : live_count c.take.new.self < live_count c.free.nodes = omega arith in less

pub free-preserved : goal.free-preserved
free-preserved g c =
    rw c.older_of-next.ensures
    (freeing_goes_on (live_count c.args.nodes.now) c.args.from c.args.nodes.now c.free.nodes c.take.new.self c.in-Some.slot c.take.result (rw c.in-Some.is at c.free.invariant)
    c.take.ensures.value c.take.ensures.empties (ap (λ p. p.cap) c.take.ensures.freed) (ap (λ p. p.spare) c.take.ensures.freed))

pub returns : goal.returns
returns g c = freeing_ends (live_count c.args.nodes.now) c.args.from c.args.nodes.now c.free.nodes (rw c.in_default.is at c.free.invariant)
