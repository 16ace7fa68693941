use Rattle.std.proofs.Common.{◌≡◌, [], ◌∷◌, ◌++◌, ◌∙◌, ap, arith}
use Rattle.r3_gate.specs.declared.gate.Gate.{Gate}
use Rattle.r3_gate.proofs.Bytes.{size_of-append, size_above}
use Rattle.r3_gate.proofs.Steps.{seen_log, first_tracks}
use Rattle.r3_gate.proofs.Crashes.{at_rest, then_staged, stage_failed}
use Rattle.r3_gate.proofs.gate.Gate.stage_first.Goals as goal

pub returns-in_err-block-clause-crash : goal.returns-in_err-block-clause-crash
returns-in_err-block-clause-crash g c = λ ps qs t.
    at_rest g.D.Desk.size g.D.Desk.image g.D.Desk.may_leave g.D.Desk.moment g.D.Desk.reach g.D.Desk.said g.D.Desk.asked c.args.desk.now c.args.self.now ps qs (g.met.D.Desk.counts_now c.args.desk.now) (g.met.D.Desk.only_now c.args.desk.now) t

pub returns-in_err-block-clause-reads : goal.returns-in_err-block-clause-reads
returns-in_err-block-clause-reads g c = λ ps qs t i is. seen_log g.D.Desk.size g.D.Desk.image g.D.Desk.may_leave c.args.desk.now c.args.self.now ps qs t i is

pub returns-in_err-write_at-clause-crash : goal.returns-in_err-write_at-clause-crash
returns-in_err-write_at-clause-crash g c = λ ps qs t.
    let mid = c.in_ok-ready.ensures.tracks ps qs t in
    then_staged g.D.Desk.size g.D.Desk.image g.D.Desk.may_leave g.D.Desk.moment g.D.Desk.reach g.D.Desk.said g.D.Desk.asked c.args.desk.now c.ready.new.desk c.write_at.new.self c.ready.new.self ps qs _ _ (c.ready.ensures.crash ps qs t) c.ready.ensures.said c.ready.ensures.asked
    mid (ap (λ (x : Gate). x.fresh) c.in_ok-ready.ensures.ready) (omega (arith, mid.end, size_of-append ps qs, size_above qs)) c.write_at.ensures.time c.write_at.ensures.said c.write_at.ensures.asked c.write_at.ensures.pending

pub returns-in_err-write_at-clause-reads : goal.returns-in_err-write_at-clause-reads
returns-in_err-write_at-clause-reads g c = λ ps qs t.
    let mid = c.in_ok-ready.ensures.tracks ps qs t in
    stage_failed g.D.Desk.size g.D.Desk.image g.D.Desk.may_leave c.ready.new.desk c.write_at.new.self c.ready.new.self ps qs _ _ mid (ap (λ (x : Gate). x.fresh) c.in_ok-ready.ensures.ready) (omega (arith, mid.end, size_of-append ps qs, size_above qs)) c.in_err-write_at.ensures.failed

pub returns-clause-crash : goal.returns-clause-crash
returns-clause-crash g c = λ ps qs t.
    let mid = c.in_ok-ready.ensures.tracks ps qs t in
    then_staged g.D.Desk.size g.D.Desk.image g.D.Desk.may_leave g.D.Desk.moment g.D.Desk.reach g.D.Desk.said g.D.Desk.asked c.args.desk.now c.ready.new.desk c.write_at.new.self c.ready.new.self ps qs _ _ (c.ready.ensures.crash ps qs t) c.ready.ensures.said c.ready.ensures.asked
    mid (ap (λ (x : Gate). x.fresh) c.in_ok-ready.ensures.ready) (omega (arith, mid.end, size_of-append ps qs, size_above qs)) c.write_at.ensures.time c.write_at.ensures.said c.write_at.ensures.asked c.write_at.ensures.pending

pub returns-clause-tracks : goal.returns-clause-tracks
returns-clause-tracks g c = λ ps qs t.
    let mid = c.in_ok-ready.ensures.tracks ps qs t in
    let same_end : c.ready.new.self.end ≡ c.args.self.now.end = ap (λ (x : Gate). x.end) c.in_ok-ready.ensures.ready in
    first_tracks g.D.Desk.size g.D.Desk.image g.D.Desk.may_leave c.ready.new.desk c.write_at.new.self c.ready.new.self ps qs c.args.payload.now _ mid (ap (λ (x : Gate). x.fresh) c.in_ok-ready.ensures.ready)
    (omega (arith, same_end, ap (λ (x : Gate). x.published) c.in_ok-ready.ensures.ready, c.requires.none)) c.requires.payload
    (omega (arith, ap (λ (x : Gate). x.count) c.in_ok-ready.ensures.ready, c.requires.entries)) (omega (arith, same_end, c.requires.bytes))
    (c.deref.ensures.value ∙ c.in_ok-block.ensures) c.in_ok-write_at.ensures.size c.in_ok-write_at.ensures.written c.write_at.ensures.pending

pub returns-clause-reads : goal.returns-clause-reads
returns-clause-reads g c = λ ps qs t i is.
    let mid = c.in_ok-ready.ensures.tracks ps qs t in
    let same_end : c.ready.new.self.end ≡ c.args.self.now.end = ap (λ (x : Gate). x.end) c.in_ok-ready.ensures.ready in
    seen_log g.D.Desk.size g.D.Desk.image g.D.Desk.may_leave c.write_at.new.self _ ps (qs ++ c.args.payload.now ∷ [])
    (first_tracks g.D.Desk.size g.D.Desk.image g.D.Desk.may_leave c.ready.new.desk c.write_at.new.self c.ready.new.self ps qs c.args.payload.now _ mid (ap (λ (x : Gate). x.fresh) c.in_ok-ready.ensures.ready)
    (omega (arith, same_end, ap (λ (x : Gate). x.published) c.in_ok-ready.ensures.ready, c.requires.none)) c.requires.payload
    (omega (arith, ap (λ (x : Gate). x.count) c.in_ok-ready.ensures.ready, c.requires.entries)) (omega (arith, same_end, c.requires.bytes))
    (c.deref.ensures.value ∙ c.in_ok-block.ensures) c.in_ok-write_at.ensures.size c.in_ok-write_at.ensures.written c.write_at.ensures.pending) i is
