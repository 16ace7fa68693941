use Rattle.std.proofs.Common.{rules, arith}
use Rattle.fn_check.proofs.KnownLemmas.{known_popped, kept_popped}
use Rattle.fn_check.proofs.variables.forget.Goals as goal

pub loop-names-preserved : goal.loop-names-preserved
loop-names-preserved c = (
  known_popped _ _ _ _ c.in-Some.name c.loop-names.invariant.0 c.remove.ensures.updates c.in-Some.ensures.items,
  kept_popped c.args.len c.loop-names.names.items c.pop.new.self.items c.args.names.now.items c.in-Some.name c.in-Some.ensures.items (grind arith) c.loop-names.invariant.1,
)
