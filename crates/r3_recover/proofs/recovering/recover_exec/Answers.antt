use Rattle.std.proofs.Common.{◌∙◌}
use Rattle.r3_model.specs.Run.{restarted}
use Rattle.r3_recover.proofs.Openings.{has-recovered, recovers-first}
use Rattle.r3_recover.proofs.recovering.recover_exec.Goals as goal

pub recover_each-requires : goal.recover_each-requires
recover_each-requires g c =
    let x = c.requires in (
      x.0,
      x.1,
      recovers-first g.D.Desk.size g.D.Desk.image g.D.Desk.may_leave g.D.Desk.moment g.D.Desk.reach g.D.Desk.said g.D.Desk.asked g.D.Desk.syncs
          x.0 c.args.desk.now c.args.store c.in-Ok.exec x.1 c.deref.result.now x.2 c.in-Ok.ensures.store
          (c.in-Ok.ensures.stands x.1 x.2.opens.holds.stands)
          (c.deref.ensures.value ∙ c.in-Ok-pending.ensures (restarted x.1) (c.in-Ok.ensures.stands x.1 x.2.opens.holds.stands)),
    )

pub returns-in-Ok-recover_each-clause-does : goal.returns-in-Ok-recover_each-clause-does
returns-in-Ok-recover_each-clause-does g c = λ from h text t some same.
    has-recovered g.D.Desk.size g.D.Desk.image g.D.Desk.may_leave g.D.Desk.moment g.D.Desk.reach g.D.Desk.said g.D.Desk.asked g.D.Desk.syncs
    from c.recover_each.new.desk c.args.store c.args.desk.now c.recover_each.new.exec h text t
    (c.in-Ok-recover_each.ensures.goes from h (recovers-first g.D.Desk.size g.D.Desk.image g.D.Desk.may_leave g.D.Desk.moment g.D.Desk.reach g.D.Desk.said g.D.Desk.asked g.D.Desk.syncs
    from c.args.desk.now c.args.store c.in-Ok.exec h c.deref.result.now t c.in-Ok.ensures.store
    (c.in-Ok.ensures.stands h t.opens.holds.stands)
    (c.deref.ensures.value ∙ c.in-Ok-pending.ensures (restarted h) (c.in-Ok.ensures.stands h t.opens.holds.stands))))
    some same (c.reads_as_settled.ensures.read c.recover_each.new.desk c.recover_each.new.exec.store)

pub returns-in-Ok-recover_each-clause-crash : goal.returns-in-Ok-recover_each-clause-crash
returns-in-Ok-recover_each-clause-crash g c = λ from h t some.
    c.recover_each.ensures.crash from h (recovers-first g.D.Desk.size g.D.Desk.image g.D.Desk.may_leave g.D.Desk.moment g.D.Desk.reach g.D.Desk.said g.D.Desk.asked g.D.Desk.syncs
    from c.args.desk.now c.args.store c.in-Ok.exec h c.deref.result.now t c.in-Ok.ensures.store
    (c.in-Ok.ensures.stands h t.opens.holds.stands)
    (c.deref.ensures.value ∙ c.in-Ok-pending.ensures (restarted h) (c.in-Ok.ensures.stands h t.opens.holds.stands)))

pub returns-in-Ok-recover_each-clause-reads : goal.returns-in-Ok-recover_each-clause-reads
returns-in-Ok-recover_each-clause-reads g c = λ from h t some.
    c.recover_each.ensures.reads from h (recovers-first g.D.Desk.size g.D.Desk.image g.D.Desk.may_leave g.D.Desk.moment g.D.Desk.reach g.D.Desk.said g.D.Desk.asked g.D.Desk.syncs
    from c.args.desk.now c.args.store c.in-Ok.exec h c.deref.result.now t c.in-Ok.ensures.store
    (c.in-Ok.ensures.stands h t.opens.holds.stands)
    (c.deref.ensures.value ∙ c.in-Ok-pending.ensures (restarted h) (c.in-Ok.ensures.stands h t.opens.holds.stands)))

pub returns-in-Err-Disk-clause-crash : goal.returns-in-Err-Disk-clause-crash
returns-in-Err-Disk-clause-crash g c = λ from h t some.
    c.recover_each.ensures.crash from h (recovers-first g.D.Desk.size g.D.Desk.image g.D.Desk.may_leave g.D.Desk.moment g.D.Desk.reach g.D.Desk.said g.D.Desk.asked g.D.Desk.syncs
    from c.args.desk.now c.args.store c.in-Ok.exec h c.deref.result.now t c.in-Ok.ensures.store
    (c.in-Ok.ensures.stands h t.opens.holds.stands)
    (c.deref.ensures.value ∙ c.in-Ok-pending.ensures (restarted h) (c.in-Ok.ensures.stands h t.opens.holds.stands)))

pub returns-in-Err-Disk-clause-reads : goal.returns-in-Err-Disk-clause-reads
returns-in-Err-Disk-clause-reads g c = λ from h t some.
    c.recover_each.ensures.reads from h (recovers-first g.D.Desk.size g.D.Desk.image g.D.Desk.may_leave g.D.Desk.moment g.D.Desk.reach g.D.Desk.said g.D.Desk.asked g.D.Desk.syncs
    from c.args.desk.now c.args.store c.in-Ok.exec h c.deref.result.now t c.in-Ok.ensures.store
    (c.in-Ok.ensures.stands h t.opens.holds.stands)
    (c.deref.ensures.value ∙ c.in-Ok-pending.ensures (restarted h) (c.in-Ok.ensures.stands h t.opens.holds.stands)))

pub returns-clause-crash : goal.returns-clause-crash
returns-clause-crash g c = λ from h t some.
    c.recover_each.ensures.crash from h (recovers-first g.D.Desk.size g.D.Desk.image g.D.Desk.may_leave g.D.Desk.moment g.D.Desk.reach g.D.Desk.said g.D.Desk.asked g.D.Desk.syncs
    from c.args.desk.now c.args.store c.in-Ok.exec h c.deref.result.now t c.in-Ok.ensures.store
    (c.in-Ok.ensures.stands h t.opens.holds.stands)
    (c.deref.ensures.value ∙ c.in-Ok-pending.ensures (restarted h) (c.in-Ok.ensures.stands h t.opens.holds.stands)))

pub returns-clause-reads : goal.returns-clause-reads
returns-clause-reads g c = λ from h t some.
    c.recover_each.ensures.reads from h (recovers-first g.D.Desk.size g.D.Desk.image g.D.Desk.may_leave g.D.Desk.moment g.D.Desk.reach g.D.Desk.said g.D.Desk.asked g.D.Desk.syncs
    from c.args.desk.now c.args.store c.in-Ok.exec h c.deref.result.now t c.in-Ok.ensures.store
    (c.in-Ok.ensures.stands h t.opens.holds.stands)
    (c.deref.ensures.value ∙ c.in-Ok-pending.ensures (restarted h) (c.in-Ok.ensures.stands h t.opens.holds.stands)))
