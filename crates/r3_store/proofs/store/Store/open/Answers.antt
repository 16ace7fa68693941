use Rattle.std.proofs.Common.{refl}
use Rattle.r3_store.proofs.OpenLaws.{opened}
use Rattle.r3_store.proofs.store.Store.open.Goals as goal

pub returns-clause-ok : goal.returns-clause-ok
returns-clause-ok g c =
    let r = c.in-Ok.ensures.ok in
    (r.0, opened g.D.Desk.size g.D.Desk.image g.D.Desk.may_leave c.read_history.new.desk _ c.in-Ok.read.1 r.0 r.1 refl refl c.new.ensures refl)

pub returns-clause-on_history : goal.returns-clause-on_history
returns-clause-on_history g c = λ h x told is.
    (opened g.D.Desk.size g.D.Desk.image g.D.Desk.may_leave c.read_history.new.desk _ c.in-Ok.read.1 h (c.in-Ok.ensures.on_history h x told is) refl refl c.new.ensures refl).holds.stands
