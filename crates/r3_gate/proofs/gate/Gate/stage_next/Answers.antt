use Rattle.std.proofs.Common.{[], ◌∷◌, ◌++◌, ◌∙◌, arith}
use Rattle.r3_gate.proofs.Steps.{seen_log, next_tracks, next_is_ready}
use Rattle.r3_gate.proofs.Crashes.{at_rest, while_staged, stage_failed}
use Rattle.r3_gate.proofs.gate.Gate.stage_next.Goals as goal

pub returns-in_err-block-clause-crash : goal.returns-in_err-block-clause-crash
returns-in_err-block-clause-crash g c = λ ps qs t.
    at_rest g.D.Desk.size g.D.Desk.image g.D.Desk.may_leave g.D.Desk.moment g.D.Desk.reach g.D.Desk.said g.D.Desk.asked c.args.desk.now c.args.self.now ps qs (g.met.D.Desk.counts_now c.args.desk.now) (g.met.D.Desk.only_now c.args.desk.now) t

pub returns-in_err-block-clause-reads : goal.returns-in_err-block-clause-reads
returns-in_err-block-clause-reads g c = λ ps qs t i is. seen_log g.D.Desk.size g.D.Desk.image g.D.Desk.may_leave c.args.desk.now c.args.self.now ps qs t i is

pub returns-in_err-write_at-clause-crash : goal.returns-in_err-write_at-clause-crash
returns-in_err-write_at-clause-crash g c = λ ps qs t.
    while_staged g.D.Desk.size g.D.Desk.image g.D.Desk.may_leave g.D.Desk.moment g.D.Desk.reach g.D.Desk.said g.D.Desk.asked c.args.desk.now c.write_at.new.self c.args.self.now ps qs _ _ t (next_is_ready g.D.Desk.size g.D.Desk.image g.D.Desk.may_leave c.args.desk.now c.args.self.now ps qs t c.requires.some) (omega (arith, c.requires.some, t.published_end)) c.write_at.ensures.time c.write_at.ensures.said c.write_at.ensures.asked c.write_at.ensures.pending

pub returns-in_err-write_at-clause-reads : goal.returns-in_err-write_at-clause-reads
returns-in_err-write_at-clause-reads g c = λ ps qs t.
    stage_failed g.D.Desk.size g.D.Desk.image g.D.Desk.may_leave c.args.desk.now c.write_at.new.self c.args.self.now ps qs _ _ t (next_is_ready g.D.Desk.size g.D.Desk.image g.D.Desk.may_leave c.args.desk.now c.args.self.now ps qs t c.requires.some) (omega (arith, c.requires.some, t.published_end)) c.in_err-write_at.ensures.failed

pub returns-clause-crash : goal.returns-clause-crash
returns-clause-crash g c = λ ps qs t.
    while_staged g.D.Desk.size g.D.Desk.image g.D.Desk.may_leave g.D.Desk.moment g.D.Desk.reach g.D.Desk.said g.D.Desk.asked c.args.desk.now c.write_at.new.self c.args.self.now ps qs _ _ t (next_is_ready g.D.Desk.size g.D.Desk.image g.D.Desk.may_leave c.args.desk.now c.args.self.now ps qs t c.requires.some) (omega (arith, c.requires.some, t.published_end)) c.write_at.ensures.time c.write_at.ensures.said c.write_at.ensures.asked c.write_at.ensures.pending

pub returns-clause-tracks : goal.returns-clause-tracks
returns-clause-tracks g c = λ ps qs t.
    next_tracks g.D.Desk.size g.D.Desk.image g.D.Desk.may_leave c.args.desk.now c.write_at.new.self c.args.self.now ps qs c.args.payload.now _ _ t c.requires.some
    c.requires.payload c.requires.entries c.requires.bytes
    (c.deref.ensures.value ∙ c.in_ok-block.ensures) (omega (arith, c.requires.some)) c.in_ok-write_at.ensures.size c.in_ok-write_at.ensures.written c.write_at.ensures.pending

pub returns-clause-reads : goal.returns-clause-reads
returns-clause-reads g c = λ ps qs t i is.
    seen_log g.D.Desk.size g.D.Desk.image g.D.Desk.may_leave c.write_at.new.self _ ps (qs ++ c.args.payload.now ∷ [])
    (next_tracks g.D.Desk.size g.D.Desk.image g.D.Desk.may_leave c.args.desk.now c.write_at.new.self c.args.self.now ps qs c.args.payload.now _ _ t c.requires.some
    c.requires.payload c.requires.entries c.requires.bytes
    (c.deref.ensures.value ∙ c.in_ok-block.ensures) (omega (arith, c.requires.some)) c.in_ok-write_at.ensures.size c.in_ok-write_at.ensures.written c.write_at.ensures.pending) i is
