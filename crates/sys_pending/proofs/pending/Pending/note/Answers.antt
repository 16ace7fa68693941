use Rattle.std.proofs.Common.{Some, sym, ◌∙◌}
use Rattle.std.specs.Option.{option_copied}
use Rattle.sys_pending.specs.Moves.{place_at, Enters, Leaves}
use Rattle.sys_pending.proofs.Noted.{follows_keep, follows_move, not_both}
use Rattle.sys_pending.proofs.pending.Pending.note.Goals as goal

pub returns-then-same_place-clause-ok : goal.returns-then-same_place-clause-ok
returns-then-same_place-clause-ok c =
    follows_keep c.args.self.now c.args.id.now (option_copied c.args.old) c.args.new.now (sym c.in_ok-gone.ensures ∙ c.same_place.ensures.0 c.if-same_place.true ∙ c.in_ok-came.ensures)

pub returns-clause-ok : goal.returns-clause-ok
returns-clause-ok c =
    let came : Enters (place_at c.args.id.now (Some c.args.new.now)) c.args.self.now c.enter.new.places.keys = rw (← c.in_ok-came.ensures, ← c.self.view_is) c.in_ok-enter.ensures.ok in
    let went : Leaves (place_at c.args.id.now (option_copied c.args.old)) c.enter.new.places.keys c.leave.new.places.keys = rw (← c.in_ok-gone.ensures) c.leave.ensures in
    follows_move c.args.self.now c.enter.new.places.keys c.leave.new.places.keys c.args.id.now (option_copied c.args.old) c.args.new.now
    (λ same. not_both _ (c.same_place.ensures.1 (c.in_ok-gone.ensures ∙ same ∙ sym c.in_ok-came.ensures)) c.if-same_place.false) came went
