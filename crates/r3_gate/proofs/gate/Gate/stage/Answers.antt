use Rattle.std.proofs.Common.{arith}
use Rattle.r3_gate.proofs.Steps.{seen_log}
use Rattle.r3_gate.proofs.Crashes.{at_rest}
use Rattle.r3_gate.proofs.gate.Gate.stage.Goals as goal

pub returns-then-not-has_entry_left-clause-crash : goal.returns-then-not-has_entry_left-clause-crash
returns-then-not-has_entry_left-clause-crash g c = λ ps qs t.
    at_rest g.D.Desk.size g.D.Desk.image g.D.Desk.may_leave g.D.Desk.moment g.D.Desk.reach g.D.Desk.said g.D.Desk.asked c.args.desk.now c.args.self.now ps qs (g.met.D.Desk.counts_now c.args.desk.now) (g.met.D.Desk.only_now c.args.desk.now) t

pub returns-then-not-has_entry_left-clause-reads : goal.returns-then-not-has_entry_left-clause-reads
returns-then-not-has_entry_left-clause-reads g c = λ ps qs t i is. seen_log g.D.Desk.size g.D.Desk.image g.D.Desk.may_leave c.args.desk.now c.args.self.now ps qs t i is

pub returns-then-not-has_room_for-clause-crash : goal.returns-then-not-has_room_for-clause-crash
returns-then-not-has_room_for-clause-crash g c = λ ps qs t.
    at_rest g.D.Desk.size g.D.Desk.image g.D.Desk.may_leave g.D.Desk.moment g.D.Desk.reach g.D.Desk.said g.D.Desk.asked c.args.desk.now c.args.self.now ps qs (g.met.D.Desk.counts_now c.args.desk.now) (g.met.D.Desk.only_now c.args.desk.now) t

pub returns-then-not-has_room_for-clause-reads : goal.returns-then-not-has_room_for-clause-reads
returns-then-not-has_room_for-clause-reads g c = λ ps qs t i is. seen_log g.D.Desk.size g.D.Desk.image g.D.Desk.may_leave c.args.desk.now c.args.self.now ps qs t i is

pub has_room_for-requires : goal.has_room_for-requires
has_room_for-requires g c = omega (arith, c.requires.tracks.2.end, c.requires.tracks.2.fits.bytes)
