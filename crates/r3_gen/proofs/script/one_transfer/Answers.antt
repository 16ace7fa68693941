use Rattle.std.proofs.Common.{[], ◌∷◌, ◌++◌, ap}
use Rattle.r3_model.specs.Functions.{language_of}
use Rattle.r3_model.specs.Generator.{drawn, transfer, drain_after}
use Rattle.r3_exec.specs.Runs.{language}
use Rattle.r3_lines.specs.Lines.{as_line}
use Rattle.r3_gen.proofs.Generating.{on-ok, on-err, stops-before, stops-at, stops-one, answers-one}
use Rattle.r3_gen.proofs.script.one_transfer.Goals as goal

pub returns-in-Err-clause-stops : goal.returns-in-Err-clause-stops
returns-in-Err-clause-stops g c = λ from text h lines s.
    stops-before g.D.Desk.size g.D.Desk.image g.D.Desk.may_leave g.D.Desk.moment g.D.Desk.reach g.D.Desk.said g.D.Desk.asked from _ _ text h lines (transfer c.args.i (drawn c.args.draws.now.kept) (drawn (drawn c.args.draws.now.kept)) (drawn (drawn (drawn c.args.draws.now.kept))) ∷ drain_after c.args.i c.args.left) s

pub settle-requires-clause-served : goal.settle-requires-clause-served
settle-requires-clause-served g c =
    let r = c.requires.served in
    (r.0, r.1, r.2, r.3 ++ as_line c.in-Ok.line ∷ [], c.in-Ok-enact.ensures.serves r.0 r.1 r.2 r.3 r.4)

pub returns-in-Ok-enact-clause-serves : goal.returns-in-Ok-enact-clause-serves
returns-in-Ok-enact-clause-serves g c = λ from text h lines s.
    on-ok c.settle.result _ _
    (λ t. answers-one g.D.Desk.size g.D.Desk.image g.D.Desk.may_leave g.D.Desk.moment g.D.Desk.reach g.D.Desk.said g.D.Desk.asked from c.settle.new.desk c.settle.new.session.exec text h lines (as_line c.in-Ok.line) (transfer c.args.i (drawn c.args.draws.now.kept) (drawn (drawn c.args.draws.now.kept)) (drawn (drawn (drawn c.args.draws.now.kept)))) (drain_after c.args.i c.args.left) c.in-Ok.ensures.line t)
    (c.settle.ensures.serves from text h (lines ++ as_line c.in-Ok.line ∷ []) (c.in-Ok-enact.ensures.serves from text h lines s))

pub returns-in-Ok-enact-clause-stops : goal.returns-in-Ok-enact-clause-stops
returns-in-Ok-enact-clause-stops g c = λ from text h lines s.
    on-err c.settle.result _ _
    (λ t. stops-one g.D.Desk.size g.D.Desk.image g.D.Desk.may_leave g.D.Desk.moment g.D.Desk.reach g.D.Desk.said g.D.Desk.asked from c.settle.new.desk c.settle.new.session.exec text h lines (as_line c.in-Ok.line) (transfer c.args.i (drawn c.args.draws.now.kept) (drawn (drawn c.args.draws.now.kept)) (drawn (drawn (drawn c.args.draws.now.kept)))) (drain_after c.args.i c.args.left) c.in-Ok.ensures.line t)
    (c.settle.ensures.stops from text h (lines ++ as_line c.in-Ok.line ∷ []) (c.in-Ok-enact.ensures.serves from text h lines s))

pub returns-clause-stops : goal.returns-clause-stops
returns-clause-stops g c = λ from text h lines s.
    stops-at g.D.Desk.size g.D.Desk.image g.D.Desk.may_leave g.D.Desk.moment g.D.Desk.reach g.D.Desk.said g.D.Desk.asked from c.enact.new.desk c.enact.new.session.exec (language c.args.session.now.exec) text h lines (as_line c.in-Ok.line) (transfer c.args.i (drawn c.args.draws.now.kept) (drawn (drawn c.args.draws.now.kept)) (drawn (drawn (drawn c.args.draws.now.kept)))) (drain_after c.args.i c.args.left)
    (ap (λ is. language_of is) c.enact.ensures.program) c.in-Ok.ensures.line (c.in-Err-enact.ensures.stops from text h lines s)
