use Rattle.r3_exec.specs.Runs.{language}
use Rattle.r3_exec.proofs.Turnings.{child_comes}
use Rattle.r3_exec.proofs.exec.Exec.bearing.Goals as goal

pub returns : goal.returns
returns c = λ h stands.
    child_comes (language c.args.self.now) h c.args.id.now c.args.request.now c.in_ok-entry.entry c.requires.kind (c.in_ok-entry.ensures (language c.args.self.now) h stands)
