use Rattle.std.proofs.Common.{ℕ, List, sym, ◌∙◌, subst}
use Rattle.std.specs.declared.option.Option.{Option}
use Rattle.r3_desk.specs.Crash.{NothingPending}
use Rattle.r3_gate.proofs.Steps.{header_tracks, header_told}
use Rattle.r3_gate.proofs.Crashes.{header_failed}
use Rattle.r3_gate.proofs.gate.Gate.write_header.Goals as goal

pub returns-clause-tracks : goal.returns-clause-tracks
returns-clause-tracks g c = λ ps qs t.
    header_tracks g.D.Desk.size g.D.Desk.image g.D.Desk.may_leave c.args.desk.now c.sync.new.self c.args.self.now ps qs t c.requires
    (c.sync.ensures.same_size ∙ c.in_ok-write_at.ensures.size)
    (c.sync.ensures.image ∙ c.in_ok-write_at.ensures.written)
    (let N : Option (List ℕ) → Type 0 = λ o. NothingPending o (g.D.Desk.may_leave c.sync.new.self) in subst N (sym c.sync.ensures.image) c.in_ok-sync.ensures.durable)

pub returns-in_err-write_at-clause-reads : goal.returns-in_err-write_at-clause-reads
returns-in_err-write_at-clause-reads g c = λ ps qs t. header_failed g.D.Desk.size g.D.Desk.image g.D.Desk.may_leave c.args.desk.now c.write_at.new.self c.args.self.now ps qs t c.requires c.in_err-write_at.ensures.failed

pub returns-in_err-sync-clause-reads : goal.returns-in_err-sync-clause-reads
returns-in_err-sync-clause-reads g c = λ ps qs t i is.
    header_told g.D.Desk.size g.D.Desk.image g.D.Desk.may_leave c.args.desk.now c.args.self.now ps qs t c.requires i (sym c.in_ok-write_at.ensures.written ∙ sym c.sync.ensures.image ∙ is)

pub returns-clause-reads : goal.returns-clause-reads
returns-clause-reads g c = λ ps qs t i is.
    header_told g.D.Desk.size g.D.Desk.image g.D.Desk.may_leave c.args.desk.now c.args.self.now ps qs t c.requires i (sym c.in_ok-write_at.ensures.written ∙ sym c.sync.ensures.image ∙ is)
