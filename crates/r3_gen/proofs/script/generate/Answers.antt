use Rattle.std.proofs.Common.{[], ◌∷◌, ◌++◌, ap}
use Rattle.r3_model.specs.Functions.{language_of}
use Rattle.r3_model.specs.Generator.{accounts, transfers}
use Rattle.r3_exec.specs.Runs.{language}
use Rattle.r3_lines.specs.Lines.{as_line}
use Rattle.r3_gen.proofs.Generating.{on-ok, on-err, stops-before, stops-at, stops-one, answers-one}
use Rattle.r3_gen.proofs.script.generate.Goals as goal

pub returns-in-Err-clause-stops : goal.returns-in-Err-clause-stops
returns-in-Err-clause-stops g c = λ from text h lines s.
    stops-before g.D.Desk.size g.D.Desk.image g.D.Desk.may_leave g.D.Desk.moment g.D.Desk.reach g.D.Desk.said g.D.Desk.asked from _ _ text h lines (accounts ∷ transfers 0 c.args.count c.args.number) s

pub transfers-requires-clause-served : goal.transfers-requires-clause-served
transfers-requires-clause-served g c =
    let r = c.requires.served in
    (r.0, r.1, r.2, r.3 ++ as_line c.in-Ok.line ∷ [], c.in-Ok-enact.ensures.serves r.0 r.1 r.2 r.3 r.4)

pub returns-in-Ok-enact-clause-serves : goal.returns-in-Ok-enact-clause-serves
returns-in-Ok-enact-clause-serves g c = λ from text h lines s.
    on-ok c.transfers.result _ _
    (λ t. answers-one g.D.Desk.size g.D.Desk.image g.D.Desk.may_leave g.D.Desk.moment g.D.Desk.reach g.D.Desk.said g.D.Desk.asked from c.transfers.new.desk c.transfers.new.session.exec text h lines (as_line c.in-Ok.line) (accounts) (transfers 0 c.args.count c.args.number) c.in-Ok.ensures.line t)
    (c.transfers.ensures.serves from text h (lines ++ as_line c.in-Ok.line ∷ []) (c.in-Ok-enact.ensures.serves from text h lines s))

pub returns-in-Ok-enact-clause-stops : goal.returns-in-Ok-enact-clause-stops
returns-in-Ok-enact-clause-stops g c = λ from text h lines s.
    on-err c.transfers.result _ _
    (λ t. stops-one g.D.Desk.size g.D.Desk.image g.D.Desk.may_leave g.D.Desk.moment g.D.Desk.reach g.D.Desk.said g.D.Desk.asked from c.transfers.new.desk c.transfers.new.session.exec text h lines (as_line c.in-Ok.line) (accounts) (transfers 0 c.args.count c.args.number) c.in-Ok.ensures.line t)
    (c.transfers.ensures.stops from text h (lines ++ as_line c.in-Ok.line ∷ []) (c.in-Ok-enact.ensures.serves from text h lines s))

pub returns-clause-stops : goal.returns-clause-stops
returns-clause-stops g c = λ from text h lines s.
    stops-at g.D.Desk.size g.D.Desk.image g.D.Desk.may_leave g.D.Desk.moment g.D.Desk.reach g.D.Desk.said g.D.Desk.asked from c.enact.new.desk c.enact.new.session.exec (language c.args.session.now.exec) text h lines (as_line c.in-Ok.line) (accounts) (transfers 0 c.args.count c.args.number)
    (ap (λ is. language_of is) c.enact.ensures.program) c.in-Ok.ensures.line (c.in-Err-enact.ensures.stops from text h lines s)
