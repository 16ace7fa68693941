use Rattle.r3_chain.proofs.TwinLemmas.{next_trimmed}
use Rattle.r3_chain.proofs.tests.Both.trim.Goals as goal

pub invariant_of-self : goal.invariant_of-self
invariant_of-self c = λ q. rw c.trim.ensures.versions (next_trimmed c.self.inside.next c.args.oldest c.self.inside.chains.versions c.self.invariant q)
