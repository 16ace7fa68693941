use Rattle.std.proofs.Common.{sym, ◌∙◌, inl, take, drop}
use Rattle.r3_formed.specs.Load.{payloads}
use Rattle.r3_store.proofs.Images.{history_of_log}
use Rattle.r3_store.proofs.Publishes.{all_settled, asks_publish, none_to_publish, published, settles_to, stays, settled_image}
use Rattle.r3_store.proofs.store.Store.settle.Goals as goal

pub returns-then-not-has_staged-clause-settled : goal.returns-then-not-has_staged-clause-settled
returns-then-not-has_staged-clause-settled g c = λ h k holds.
    all_settled _ _ _ _ _ h k holds (sym c.has_staged.ensures ∙ c.if-not-has_staged.true)

pub returns-then-not-has_staged-clause-crash : goal.returns-then-not-has_staged-clause-crash
returns-then-not-has_staged-clause-crash g c = λ h k holds.
    stays _ _ _ g.D.Desk.moment g.D.Desk.reach g.D.Desk.said g.D.Desk.asked _ _ h k holds
    (g.met.D.Desk.counts_now c.args.desk.now) (g.met.D.Desk.only_now c.args.desk.now)

pub publish-requires : goal.publish-requires
publish-requires g c = asks_publish _ _ _ _ _ c.requires.0 c.requires.1 c.requires.2 (sym c.has_staged.ensures ∙ c.if-not-has_staged.false)

pub returns-in-Ok-clause-settled : goal.returns-in-Ok-clause-settled
returns-in-Ok-clause-settled g c = λ h k holds. published _ _ _ _ _ _ _ _ h k holds (c.in-Ok.ensures.tracks _ _ holds.tracks)

pub returns-in-Ok-clause-crash : goal.returns-in-Ok-clause-crash
returns-in-Ok-clause-crash g c = λ h k holds. settles_to _ _ _ g.D.Desk.moment g.D.Desk.reach g.D.Desk.said g.D.Desk.asked _ _ _ h k holds (c.publish.ensures.crash _ _ holds.tracks)

pub returns-in-Err-clause-crash : goal.returns-in-Err-clause-crash
returns-in-Err-clause-crash g c = λ h k holds. settles_to _ _ _ g.D.Desk.moment g.D.Desk.reach g.D.Desk.said g.D.Desk.asked _ _ _ h k holds (c.publish.ensures.crash _ _ holds.tracks)

pub returns-then-not-has_staged-clause-reads : goal.returns-then-not-has_staged-clause-reads
returns-then-not-has_staged-clause-reads g c = λ h k holds i told.
    inl (history_of_log i (take k h) holds.settled_formed (c.reads_as_published.ensures.read c.args.desk.now c.args.self.now.gate (payloads (take k h)) (payloads (drop k h)) i holds.tracks told))

pub returns-in-Ok-clause-reads : goal.returns-in-Ok-clause-reads
returns-in-Ok-clause-reads g c = λ h k holds i told. settled_image i h k holds.settled_formed holds.stands.formed (c.publish.ensures.reads _ _ holds.tracks i told)

pub returns-in-Err-clause-reads : goal.returns-in-Err-clause-reads
returns-in-Err-clause-reads g c = λ h k holds i told. settled_image i h k holds.settled_formed holds.stands.formed (c.publish.ensures.reads _ _ holds.tracks i told)

pub returns-in-Ok-clause-idle : goal.returns-in-Ok-clause-idle
returns-in-Ok-clause-idle g c = λ h holds. absurd (none_to_publish _ _ _ _ _ h holds (sym c.has_staged.ensures ∙ c.if-not-has_staged.false))

pub returns-in-Err-clause-idle : goal.returns-in-Err-clause-idle
returns-in-Err-clause-idle g c = λ h holds. absurd (none_to_publish _ _ _ _ _ h holds (sym c.has_staged.ensures ∙ c.if-not-has_staged.false))
