use Rattle.std.proofs.Common.{inl, inr, max, ℕ, ◌+◌, ◌-◌, List, [], ◌∷◌, refl, sym, ◌∙◌, ap, subst, arith}
use Rattle.std.specs.declared.option.Option.{Option}
use Rattle.std.specs.Option.{option_map}
use Rattle.r3_desk.specs.Disk.{overwritten, MayTear}
use Rattle.r3_gate.proofs.Bytes.{size_above}
use Rattle.r3_gate.proofs.Steps.{seen_log, some_staged, above_magic, next_is_ready, publish_tracks, lasting, opened_told}
use Rattle.r3_gate.proofs.Crashes.{while_synced, while_opened, while_committed, open_failed}
use Rattle.r3_gate.proofs.gate.Gate.publish.Goals as goal

pub overflow_sub-self : goal.overflow_sub-self
overflow_sub-self g c = omega (arith, above_magic g.D.Desk.size g.D.Desk.image g.D.Desk.may_leave c.args.desk.now c.args.self.now c.requires.0 (c.requires.1 ∷ c.requires.2) c.requires.3)

pub write_at-requires : goal.write_at-requires
write_at-requires g c = λ n is.
    let some = some_staged g.D.Desk.size g.D.Desk.image g.D.Desk.may_leave c.args.desk.now c.args.self.now c.requires in
    let ready = next_is_ready g.D.Desk.size g.D.Desk.image g.D.Desk.may_leave c.args.desk.now c.args.self.now c.requires.0 (c.requires.1 ∷ c.requires.2) c.requires.3 some in
    omega (arith, c.requires.3.size ready n (sym c.sync.ensures.same_size ∙ is), some)

pub returns-in_err-sync-clause-crash : goal.returns-in_err-sync-clause-crash
returns-in_err-sync-clause-crash g c = λ ps qs t.
    while_synced g.D.Desk.size g.D.Desk.image g.D.Desk.may_leave g.D.Desk.moment g.D.Desk.reach g.D.Desk.said g.D.Desk.asked c.args.desk.now c.sync.new.self c.args.self.now ps qs t c.sync.ensures.time c.sync.ensures.said c.sync.ensures.asked c.sync.ensures.pending

pub returns-in_err-write_at-clause-crash : goal.returns-in_err-write_at-clause-crash
returns-in_err-write_at-clause-crash g c = λ ps qs t.
    (while_opened g.D.Desk.size g.D.Desk.image g.D.Desk.may_leave g.D.Desk.moment g.D.Desk.reach g.D.Desk.said g.D.Desk.asked c.args.desk.now c.sync.new.self c.write_at.new.self c.args.self.now ps qs _ t (some_staged g.D.Desk.size g.D.Desk.image g.D.Desk.may_leave c.args.desk.now c.args.self.now c.requires) (omega (arith, t.published_end, size_above ps))
    c.sync.ensures.image c.in_ok-sync.ensures.durable c.sync.ensures.said c.sync.ensures.asked
    (while_synced g.D.Desk.size g.D.Desk.image g.D.Desk.may_leave g.D.Desk.moment g.D.Desk.reach g.D.Desk.said g.D.Desk.asked c.args.desk.now c.sync.new.self c.args.self.now ps qs t c.sync.ensures.time c.sync.ensures.said c.sync.ensures.asked c.sync.ensures.pending)
    c.write_at.ensures.time c.write_at.ensures.said c.write_at.ensures.asked c.write_at.ensures.pending).0

pub returns-in_err-sync-2-clause-crash : goal.returns-in_err-sync-2-clause-crash
returns-in_err-sync-2-clause-crash g c = λ ps qs t.
    while_committed g.D.Desk.size g.D.Desk.image g.D.Desk.may_leave g.D.Desk.moment g.D.Desk.reach g.D.Desk.said g.D.Desk.asked c.args.desk.now c.write_at.new.self c.sync-2.new.self ps qs
    (while_opened g.D.Desk.size g.D.Desk.image g.D.Desk.may_leave g.D.Desk.moment g.D.Desk.reach g.D.Desk.said g.D.Desk.asked c.args.desk.now c.sync.new.self c.write_at.new.self c.args.self.now ps qs _ t (some_staged g.D.Desk.size g.D.Desk.image g.D.Desk.may_leave c.args.desk.now c.args.self.now c.requires) (omega (arith, t.published_end, size_above ps))
    c.sync.ensures.image c.in_ok-sync.ensures.durable c.sync.ensures.said c.sync.ensures.asked
    (while_synced g.D.Desk.size g.D.Desk.image g.D.Desk.may_leave g.D.Desk.moment g.D.Desk.reach g.D.Desk.said g.D.Desk.asked c.args.desk.now c.sync.new.self c.args.self.now ps qs t c.sync.ensures.time c.sync.ensures.said c.sync.ensures.asked c.sync.ensures.pending)
    c.write_at.ensures.time c.write_at.ensures.said c.write_at.ensures.asked c.write_at.ensures.pending)
    (c.write_at.ensures.said ∙ c.sync.ensures.said) (c.write_at.ensures.asked ∙ c.sync.ensures.asked) c.sync-2.ensures.time c.sync-2.ensures.said c.sync-2.ensures.asked c.sync-2.ensures.pending

pub returns-clause-crash : goal.returns-clause-crash
returns-clause-crash g c = λ ps qs t.
    while_committed g.D.Desk.size g.D.Desk.image g.D.Desk.may_leave g.D.Desk.moment g.D.Desk.reach g.D.Desk.said g.D.Desk.asked c.args.desk.now c.write_at.new.self c.sync-2.new.self ps qs
    (while_opened g.D.Desk.size g.D.Desk.image g.D.Desk.may_leave g.D.Desk.moment g.D.Desk.reach g.D.Desk.said g.D.Desk.asked c.args.desk.now c.sync.new.self c.write_at.new.self c.args.self.now ps qs _ t (some_staged g.D.Desk.size g.D.Desk.image g.D.Desk.may_leave c.args.desk.now c.args.self.now c.requires) (omega (arith, t.published_end, size_above ps))
    c.sync.ensures.image c.in_ok-sync.ensures.durable c.sync.ensures.said c.sync.ensures.asked
    (while_synced g.D.Desk.size g.D.Desk.image g.D.Desk.may_leave g.D.Desk.moment g.D.Desk.reach g.D.Desk.said g.D.Desk.asked c.args.desk.now c.sync.new.self c.args.self.now ps qs t c.sync.ensures.time c.sync.ensures.said c.sync.ensures.asked c.sync.ensures.pending)
    c.write_at.ensures.time c.write_at.ensures.said c.write_at.ensures.asked c.write_at.ensures.pending)
    (c.write_at.ensures.said ∙ c.sync.ensures.said) (c.write_at.ensures.asked ∙ c.sync.ensures.asked) c.sync-2.ensures.time c.sync-2.ensures.said c.sync-2.ensures.asked c.sync-2.ensures.pending

pub returns-in_err-sync-clause-reads : goal.returns-in_err-sync-clause-reads
returns-in_err-sync-clause-reads g c = λ ps qs t i is. inl (seen_log g.D.Desk.size g.D.Desk.image g.D.Desk.may_leave c.args.desk.now c.args.self.now ps qs t i (sym c.sync.ensures.image ∙ is))

pub returns-in_err-write_at-clause-reads : goal.returns-in_err-write_at-clause-reads
returns-in_err-write_at-clause-reads g c = λ ps qs t.
    open_failed g.D.Desk.size g.D.Desk.image g.D.Desk.may_leave c.args.desk.now c.write_at.new.self c.args.self.now ps qs _ t (some_staged g.D.Desk.size g.D.Desk.image g.D.Desk.may_leave c.args.desk.now c.args.self.now c.requires) (omega (arith, t.published_end, size_above ps))
    (subst (λ (o : Option (List ℕ)). MayTear (c.args.self.now.published - 1) 1 o (g.D.Desk.image c.write_at.new.self)) c.sync.ensures.image c.in_err-write_at.ensures.failed)

pub returns-in_err-sync-2-clause-reads : goal.returns-in_err-sync-2-clause-reads
returns-in_err-sync-2-clause-reads g c = λ ps qs t i is.
    inr (opened_told g.D.Desk.size g.D.Desk.image g.D.Desk.may_leave c.args.desk.now c.args.self.now ps qs _ t (some_staged g.D.Desk.size g.D.Desk.image g.D.Desk.may_leave c.args.desk.now c.args.self.now c.requires) (omega (arith, t.published_end, size_above ps)) i (sym (c.in_ok-write_at.ensures.written ∙ ap (λ (o : Option (List ℕ)). option_map (λ i. overwritten i (c.args.self.now.published - 1) (165 ∷ [])) o) c.sync.ensures.image) ∙ sym c.sync-2.ensures.image ∙ is))

pub returns-clause-reads : goal.returns-clause-reads
returns-clause-reads g c = λ ps qs t i is.
    inr (opened_told g.D.Desk.size g.D.Desk.image g.D.Desk.may_leave c.args.desk.now c.args.self.now ps qs _ t (some_staged g.D.Desk.size g.D.Desk.image g.D.Desk.may_leave c.args.desk.now c.args.self.now c.requires) (omega (arith, t.published_end, size_above ps)) i (sym (c.in_ok-write_at.ensures.written ∙ ap (λ (o : Option (List ℕ)). option_map (λ i. overwritten i (c.args.self.now.published - 1) (165 ∷ [])) o) c.sync.ensures.image) ∙ sym c.sync-2.ensures.image ∙ is))

pub returns-clause-tracks : goal.returns-clause-tracks
returns-clause-tracks g c = λ ps qs t.
    publish_tracks g.D.Desk.size g.D.Desk.image g.D.Desk.may_leave c.args.desk.now c.sync-2.new.self c.args.self.now ps qs _ t (some_staged g.D.Desk.size g.D.Desk.image g.D.Desk.may_leave c.args.desk.now c.args.self.now c.requires) (omega (arith, t.published_end, size_above ps))
    (lasting g.D.Desk.size g.D.Desk.image g.D.Desk.may_leave c.args.desk.now c.args.desk.now c.args.self.now ps qs t (some_staged g.D.Desk.size g.D.Desk.image g.D.Desk.may_leave c.args.desk.now c.args.self.now c.requires) refl)
    (c.sync-2.ensures.same_size ∙ c.in_ok-write_at.ensures.size ∙ ap (λ o. option_map (λ n. max n (c.args.self.now.published - 1 + 1)) o) c.sync.ensures.same_size)
    (c.sync-2.ensures.image ∙ c.in_ok-write_at.ensures.written ∙ ap (λ (o : Option (List ℕ)). option_map (λ i. overwritten i (c.args.self.now.published - 1) (165 ∷ [])) o) c.sync.ensures.image)
    (λ i l. c.sync-2.ensures.image ∙ c.in_ok-sync-2.ensures.durable i l)
