use Rattle.std.proofs.Common.{refl, subst}
use Rattle.std.specs.Prelude.{OnErr}
use Rattle.r3_model.specs.Event.{Turn}
use Rattle.r3_model.specs.Language.{Text}
use Rattle.r3_exec.specs.Does.{AskedFirst}
use Rattle.r3_exec.specs.Runs.{language}
use Rattle.r3_exec.proofs.Syncs.{no_more}
use Rattle.r3_exec.proofs.exec.Exec.turn.Goals as goal

pub returns-in-Ok-clause-early : goal.returns-in-Ok-clause-early
returns-in-Ok-clause-early g c = λ st k runs.
    subst (λ (x : Text). OnErr c.turn_of.result (AskedFirst (language c.args.self.now) st (Turn x) (g.D.Desk.asked c.args.desk.now) (g.D.Desk.asked c.turn_of.new.desk)))
    c.in-Ok.ensures.made.0 (c.turn_of.ensures.early st k runs)

pub returns-in-Err-clause-few_syncs : goal.returns-in-Err-clause-few_syncs
returns-in-Err-clause-few_syncs g c = no_more (g.D.Desk.syncs c.args.desk.now) (g.D.Desk.syncs c.args.desk.now) refl 2
