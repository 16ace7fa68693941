use Rattle.std.proofs.Common.{rules, ◌≡◌, [], ◌∷◌, ap}
use Rattle.r3_model.specs.Functions.{language_of}
use Rattle.r3_model.specs.Generator.{drain_after}
use Rattle.r3_model.specs.Script.{Drain}
use Rattle.r3_exec.specs.Runs.{language}
use Rattle.r3_gen.proofs.Generating.{on-err, stops-same, stops-within}
use Rattle.r3_gen.proofs.script.settle.Goals as goal

pub returns-clause-stops : goal.returns-clause-stops
returns-clause-stops g c = λ from text h lines s.
    let is : drain_after c.args.i c.args.left ≡ Drain 1000 ∷ [] = search (rules, c.has_drain.ensures) in
    on-err c.enact.result _ _
    (λ t. stops-same g.D.Desk.size g.D.Desk.image g.D.Desk.may_leave g.D.Desk.moment g.D.Desk.reach g.D.Desk.said g.D.Desk.asked from c.enact.new.desk c.enact.new.session.exec text h lines (Drain 1000 ∷ []) (drain_after c.args.i c.args.left) is
    (stops-within g.D.Desk.size g.D.Desk.image g.D.Desk.may_leave g.D.Desk.moment g.D.Desk.reach g.D.Desk.said g.D.Desk.asked from c.enact.new.desk c.enact.new.session.exec (language c.args.session.now.exec) text h lines (Drain 1000) []
    (ap (λ is. language_of is) c.enact.ensures.program) t))
    (c.enact.ensures.stops from text h lines s)
