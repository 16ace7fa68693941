use Rattle.r3_model.specs.Generator.{generated}
use Rattle.r3_serve.specs.Scripted.{script_lines, ended_script_lines}
use Rattle.r3_invoked.proofs.LinesRead.{begun-kept, done-kept, generated-kept, line-kept, lines-kept}
use Rattle.r3_invoked.proofs.lines.lines_keep_limits.Goals as goal

pub returns-clause-line : goal.returns-clause-line
returns-clause-line c = line-kept

pub returns-clause-script : goal.returns-clause-script
returns-clause-script c = λ script done later is. done-kept (script_lines script) done later (lines-kept _) is

pub returns-clause-ended : goal.returns-clause-ended
returns-clause-ended c = λ bytes done later is. done-kept (ended_script_lines bytes) done later (lines-kept _) is

pub returns-clause-drain : goal.returns-clause-drain
returns-clause-drain c = λ turns. (tt, tt)

pub returns-clause-generated : goal.returns-clause-generated
returns-clause-generated c = λ number count done later is. done-kept (generated number count) done later (generated-kept number count) is

pub returns-clause-begun : goal.returns-clause-begun
returns-clause-begun c = begun-kept
