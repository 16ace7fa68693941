use Rattle.r3_serve.proofs.Beginning.{if-ok, begun}
use Rattle.r3_serve.proofs.opening.open.Goals as goal

pub returns-clause-serves : goal.returns-clause-serves
returns-clause-serves g c = λ v.
    if-ok c.open.result _ _
    (λ s b. begun g.D.Desk.size g.D.Desk.image g.D.Desk.may_leave g.D.Desk.moment g.D.Desk.reach g.D.Desk.said g.D.Desk.asked g.D.Desk.syncs
    v c.args.desk.now c.open.new.desk s.exec c.args.text.now c.open.ensures.said c.open.ensures.asked b)
    c.open.ensures.does
