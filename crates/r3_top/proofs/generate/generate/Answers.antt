use Rattle.std.proofs.Common.{rules, inl, inr, ⊎_elim, Some, refl, sym, subst}
use Rattle.r3_model.specs.Language.{Text}
use Rattle.r3_gen.specs.declared.fault.GenFault.TheVariants as gens
use Rattle.r3_recover.specs.declared.ends.StartFault.TheVariants as starts
use Rattle.r3_words.specs.Forms.{gen}
use Rattle.r3_top.specs.Functions.{IsAccepted, IsRefused}
use Rattle.r3_top.specs.Refusals.{EndsAtFile, IsNoStore, IsOthers}
use Rattle.r3_top.specs.Going.{OfGenerated}
use Rattle.r3_top.proofs.Saying.{says-none, says-same}
use Rattle.r3_top.proofs.Leaving.{unbegun-first, untouched-first, untouched-read, opening}
use Rattle.r3_top.proofs.Refusing.{Opening-of, accept-early, at-accept, begun-ready, cause-accept, cause-of, ends-early, goes-more, no-fault-in, nothing-done, none-of, no-store, refused-at-file, store-is-taken}
use Rattle.r3_top.proofs.Working.{same-history}
use Rattle.r3_top.proofs.Generating.{IsLater, at-start, no-fault, gen-others, gen-not-this, gen-is-taken, gen-begun, gen-ended, gen-failed, gen-stopped}
use Rattle.r3_top.proofs.generate.generate.Goals as goal

-- ---- the functions are refused

pub returns-in-Err-clause-causes : goal.returns-in-Err-clause-causes
returns-in-Err-clause-causes g c = λ left.
    cause-of (gen c.args.number c.args.count) c.args.text.now (g.D.Desk.image c.args.desk.now) left c.in-Err.halt (accept-early c.in-Err.halt c.in-Err.ensures.halts) tt
    (cause-accept c.args.text.now (g.D.Desk.image c.args.desk.now) c.in-Err.halt c.requires.short c.in-Err.ensures.halts
    (λ fault at. subst (λ (x : Text). IsRefused x fault) c.as_bytes.ensures.value (c.in-Err.ensures.refused fault at))
    (λ fault at is accepted. c.in-Err.ensures.none fault at is (subst (λ (x : Text). IsAccepted x is) (sym c.as_bytes.ensures.value) accepted)))

pub returns-in-Err-clause-file_first : goal.returns-in-Err-clause-file_first
returns-in-Err-clause-file_first g c = λ none. (
  refl,
  at-accept c.args.text.now c.in-Err.halt c.requires.short c.in-Err.ensures.halts
      (λ fault at. subst (λ (x : Text). IsRefused x fault) c.as_bytes.ensures.value (c.in-Err.ensures.refused fault at)),
)

pub returns-in-Err-clause-store_first : goal.returns-in-Err-clause-store_first
returns-in-Err-clause-store_first g c = λ image is none.
    let at : EndsAtFile c.args.text.now (Some c.in-Err.halt) = at-accept c.args.text.now c.in-Err.halt c.requires.short c.in-Err.ensures.halts
    (λ fault at. subst (λ (x : Text). IsRefused x fault) c.as_bytes.ensures.value (c.in-Err.ensures.refused fault at)) in (
      ends-early g.D.Desk.image g.D.Desk.said g.D.Desk.asked c.args.desk.now c.args.desk.now c.args.text.now c.in-Err.halt
          (⊎_elim (λ b. inl b) (λ r. inr (r, says-none g.D.Desk.image g.D.Desk.said g.D.Desk.asked c.args.desk.now)) (refused-at-file c.args.text.now (g.D.Desk.image c.args.desk.now) c.in-Err.halt at))
          (accept-early c.in-Err.halt c.in-Err.ensures.halts) (refl, refl),
      untouched-first g.D.Desk.image g.D.Desk.may_leave g.D.Desk.moment g.D.Desk.reach g.D.Desk.said g.D.Desk.asked g.D.Desk.syncs c.args.desk.now (g.met.D.Desk.counts_now c.args.desk.now) (g.met.D.Desk.only_now c.args.desk.now) c.requires.pending,
    )

pub returns-in-Err-clause-goes : goal.returns-in-Err-clause-goes
returns-in-Err-clause-goes g c = λ image h is history has.
    goes-more g.D.Desk.image g.D.Desk.may_leave g.D.Desk.moment g.D.Desk.reach g.D.Desk.said g.D.Desk.asked c.args.desk.now c.args.desk.now c.args.text.now h
    (OfGenerated g.D.Desk.image g.D.Desk.may_leave g.D.Desk.moment g.D.Desk.reach g.D.Desk.said g.D.Desk.asked c.args.desk.now c.args.desk.now c.args.text.now h c.args.number c.args.count) c.in-Err.halt
    (nothing-done g.D.Desk.image g.D.Desk.may_leave g.D.Desk.moment g.D.Desk.reach g.D.Desk.said g.D.Desk.asked c.args.desk.now c.args.desk.now c.args.text.now h c.in-Err.halt
    (at-accept c.args.text.now c.in-Err.halt c.requires.short c.in-Err.ensures.halts
    (λ fault at. subst (λ (x : Text). IsRefused x fault) c.as_bytes.ensures.value (c.in-Err.ensures.refused fault at)))
    (unbegun-first g.D.Desk.image g.D.Desk.may_leave g.D.Desk.moment g.D.Desk.reach g.D.Desk.said g.D.Desk.asked c.args.desk.now h image
    (g.met.D.Desk.counts_now c.args.desk.now) (g.met.D.Desk.only_now c.args.desk.now) c.requires.pending is history))

pub returns-in-Ok-run-clause-comes : goal.returns-in-Ok-run-clause-comes
returns-in-Ok-run-clause-comes g c =
    let accepted : IsAccepted c.args.text.now c.in-Ok.program = subst (λ (x : Text). IsAccepted x c.in-Ok.program) c.as_bytes.ensures.value c.in-Ok.ensures.accepted in
    let r = c.in-Ok-run.ensures.runs in
    inr (inr (c.in-Ok.program, r.0, record { file = (c.requires.short, accepted); history = r.1; program = r.2 }, (refl, r.3)))

pub returns-in-Ok-run-clause-causes : goal.returns-in-Ok-run-clause-causes
returns-in-Ok-run-clause-causes g c = λ left.
    let r = c.in-Ok-run.ensures.runs in
    (((c.in-Ok.program, (c.requires.short, subst (λ (x : Text). IsAccepted x c.in-Ok.program) c.as_bytes.ensures.value c.in-Ok.ensures.accepted)), no-fault-in c.args.text.now c.as_bytes.result.now c.as_bytes.ensures.value c.in-Ok.ensures.faultless), λ i there. (r.0, r.1 i there, r.2), tt)

pub returns-in-Ok-run-clause-store_first : goal.returns-in-Ok-run-clause-store_first
returns-in-Ok-run-clause-store_first g c = λ image is none.
    let r = c.in-Ok-run.ensures.runs in
    absurd (none (begun-ready c.args.text.now (g.D.Desk.image c.args.desk.now) image is (λ i there. (r.0, r.1 i there, r.2))))

pub returns-in-Ok-run-clause-goes : goal.returns-in-Ok-run-clause-goes
returns-in-Ok-run-clause-goes g c = λ image h is history has.
    let accepted : IsAccepted c.args.text.now c.in-Ok.program = subst (λ (x : Text). IsAccepted x c.in-Ok.program) c.as_bytes.ensures.value c.in-Ok.ensures.accepted in
    let r = c.in-Ok-run.ensures.runs in
    gen-ended g.D.Desk.size g.D.Desk.image g.D.Desk.may_leave g.D.Desk.moment g.D.Desk.reach g.D.Desk.said g.D.Desk.asked c.args.desk.now c.run.new.desk c.args.text.now h r.0
    c.args.number c.args.count c.in-Ok.program accepted (same-history c.one_history.ensures (g.D.Desk.image c.args.desk.now) image r.0 h r.1 is history) r.3

pub returns-in-Ok-run-clause-disk_kept : goal.returns-in-Ok-run-clause-disk_kept
returns-in-Ok-run-clause-disk_kept g c = λ none. c.in-Ok-run.ensures.no_fault (λ e. no-fault c.in-Ok-run.field-0 gens.Disk e) (λ e. no-fault c.in-Ok-run.field-0 (gens.Start starts.Disk) e)

pub returns-in-Ok-run-clause-say_kept : goal.returns-in-Ok-run-clause-say_kept
returns-in-Ok-run-clause-say_kept g c = λ none. c.in-Ok-run.ensures.no_say (λ e. no-fault c.in-Ok-run.field-0 gens.Say e)

pub returns-in-Err-Start-Store-clause-comes : goal.returns-in-Err-Start-Store-clause-comes
returns-in-Err-Start-Store-clause-comes g c =
    let accepted : IsAccepted c.args.text.now c.in-Ok.program = subst (λ (x : Text). IsAccepted x c.in-Ok.program) c.as_bytes.ensures.value c.in-Ok.ensures.accepted in
    let opens : Opening-of (g.D.Desk.image c.args.desk.now) c.args.text.now c.in-Err-Start-Store.field-0-0 = λ h i there history has. c.in-Err-Start-Store.ensures.opens h i there history has c.in-Err-Start-Store.field-0-0 (at-start c.in-Err-Start-Store.field-0 c.in-Err-Start-Store.field-0-0 c.in-Err-Start-Store.field-0-0 c.in-Err-Start-Store.field-0-is refl) in
    let bad : IsNoStore (g.D.Desk.image c.args.desk.now) c.entry_of.result = no-store (g.D.Desk.image c.args.desk.now) c.args.text.now c.in-Err-Start-Store.field-0-0 c.in-Err-Start-Store.fault c.in-Err-Start-Store.field-0-0-is opens
    (gen-others (g.D.Desk.image c.args.desk.now) c.args.text.now c.in-Err-Start-Store.field-0 c.in-Err-Start-Store.field-0-0 c.in-Err-Start-Store.field-0-is c.in-Err-Start-Store.ensures.other)
    (c.in-Err-Start-Store.ensures.causes c.in-Err-Start-Store.field-0-0 (at-start c.in-Err-Start-Store.field-0 c.in-Err-Start-Store.field-0-0 c.in-Err-Start-Store.field-0-0 c.in-Err-Start-Store.field-0-is refl)) c.entry_of.result c.entry_of.ensures in
    inr (inl (
      ((c.in-Ok.program, (c.requires.short, accepted)), bad),
      says-same g.D.Desk.image g.D.Desk.said g.D.Desk.asked c.args.desk.now c.run.new.desk (c.in-Err-Start-Store.ensures.unsaid c.in-Err-Start-Store.field-0-0 (at-start c.in-Err-Start-Store.field-0 c.in-Err-Start-Store.field-0-0 c.in-Err-Start-Store.field-0-0 c.in-Err-Start-Store.field-0-is refl)) (c.in-Err-Start-Store.ensures.unasked c.in-Err-Start-Store.field-0-0 (at-start c.in-Err-Start-Store.field-0 c.in-Err-Start-Store.field-0-0 c.in-Err-Start-Store.field-0-0 c.in-Err-Start-Store.field-0-is refl))
          (c.in-Err-Start-Store.ensures.kept c.in-Err-Start-Store.fault (at-start c.in-Err-Start-Store.field-0 c.in-Err-Start-Store.field-0-0 (starts.Store c.in-Err-Start-Store.fault) c.in-Err-Start-Store.field-0-is c.in-Err-Start-Store.field-0-0-is)),
    ))

pub returns-in-Err-Start-Store-clause-goes : goal.returns-in-Err-Start-Store-clause-goes
returns-in-Err-Start-Store-clause-goes g c = λ image h is history has.
    let opens : Opening-of (g.D.Desk.image c.args.desk.now) c.args.text.now c.in-Err-Start-Store.field-0-0 = λ h i there history has. c.in-Err-Start-Store.ensures.opens h i there history has c.in-Err-Start-Store.field-0-0 (at-start c.in-Err-Start-Store.field-0 c.in-Err-Start-Store.field-0-0 c.in-Err-Start-Store.field-0-0 c.in-Err-Start-Store.field-0-is refl) in
    store-is-taken (g.D.Desk.image c.args.desk.now) c.args.text.now image h c.in-Err-Start-Store.field-0-0 c.in-Err-Start-Store.fault c.in-Err-Start-Store.field-0-0-is opens is history has

pub returns-in-Err-Start-Store-clause-causes : goal.returns-in-Err-Start-Store-clause-causes
returns-in-Err-Start-Store-clause-causes g c = λ left.
    let opens : Opening-of (g.D.Desk.image c.args.desk.now) c.args.text.now c.in-Err-Start-Store.field-0-0 = λ h i there history has. c.in-Err-Start-Store.ensures.opens h i there history has c.in-Err-Start-Store.field-0-0 (at-start c.in-Err-Start-Store.field-0 c.in-Err-Start-Store.field-0-0 c.in-Err-Start-Store.field-0-0 c.in-Err-Start-Store.field-0-is refl) in (
      ((c.in-Ok.program, (c.requires.short, subst (λ (x : Text). IsAccepted x c.in-Ok.program) c.as_bytes.ensures.value c.in-Ok.ensures.accepted)), no-fault-in c.args.text.now c.as_bytes.result.now c.as_bytes.ensures.value c.in-Ok.ensures.faultless),
      no-store (g.D.Desk.image c.args.desk.now) c.args.text.now c.in-Err-Start-Store.field-0-0 c.in-Err-Start-Store.fault c.in-Err-Start-Store.field-0-0-is opens
          (gen-others (g.D.Desk.image c.args.desk.now) c.args.text.now c.in-Err-Start-Store.field-0 c.in-Err-Start-Store.field-0-0 c.in-Err-Start-Store.field-0-is c.in-Err-Start-Store.ensures.other)
          (c.in-Err-Start-Store.ensures.causes c.in-Err-Start-Store.field-0-0 (at-start c.in-Err-Start-Store.field-0 c.in-Err-Start-Store.field-0-0 c.in-Err-Start-Store.field-0-0 c.in-Err-Start-Store.field-0-is refl)) c.entry_of.result c.entry_of.ensures,
    )

pub returns-in-Err-Start-Other-clause-comes : goal.returns-in-Err-Start-Other-clause-comes
returns-in-Err-Start-Other-clause-comes g c =
    let accepted : IsAccepted c.args.text.now c.in-Ok.program = subst (λ (x : Text). IsAccepted x c.in-Ok.program) c.as_bytes.ensures.value c.in-Ok.ensures.accepted in
    let opens : Opening-of (g.D.Desk.image c.args.desk.now) c.args.text.now c.in-Err-Start-Other.field-0-0 = λ h i there history has. c.in-Err-Start-Other.ensures.opens h i there history has c.in-Err-Start-Other.field-0-0 (at-start c.in-Err-Start-Other.field-0 c.in-Err-Start-Other.field-0-0 c.in-Err-Start-Other.field-0-0 c.in-Err-Start-Other.field-0-is refl) in
    let bad : IsOthers c.args.text.now (g.D.Desk.image c.args.desk.now) = gen-not-this (g.D.Desk.image c.args.desk.now) c.args.text.now c.in-Err-Start-Other.field-0-0 c.in-Err-Start-Other.field-0-0-is opens (c.in-Err-Start-Other.ensures.causes c.in-Err-Start-Other.field-0-0 (at-start c.in-Err-Start-Other.field-0 c.in-Err-Start-Other.field-0-0 c.in-Err-Start-Other.field-0-0 c.in-Err-Start-Other.field-0-is refl)) in
    inr (inl (
      ((c.in-Ok.program, (c.requires.short, accepted)), bad),
      says-same g.D.Desk.image g.D.Desk.said g.D.Desk.asked c.args.desk.now c.run.new.desk (c.in-Err-Start-Other.ensures.unsaid c.in-Err-Start-Other.field-0-0 (at-start c.in-Err-Start-Other.field-0 c.in-Err-Start-Other.field-0-0 c.in-Err-Start-Other.field-0-0 c.in-Err-Start-Other.field-0-is refl)) (c.in-Err-Start-Other.ensures.unasked c.in-Err-Start-Other.field-0-0 (at-start c.in-Err-Start-Other.field-0 c.in-Err-Start-Other.field-0-0 c.in-Err-Start-Other.field-0-0 c.in-Err-Start-Other.field-0-is refl))
          (c.in-Err-Start-Other.ensures.other_kept (at-start c.in-Err-Start-Other.field-0 c.in-Err-Start-Other.field-0-0 starts.Other c.in-Err-Start-Other.field-0-is c.in-Err-Start-Other.field-0-0-is)),
    ))

pub returns-in-Err-Start-Other-clause-goes : goal.returns-in-Err-Start-Other-clause-goes
returns-in-Err-Start-Other-clause-goes g c = λ image h is history has.
    let opens : Opening-of (g.D.Desk.image c.args.desk.now) c.args.text.now c.in-Err-Start-Other.field-0-0 = λ h i there history has. c.in-Err-Start-Other.ensures.opens h i there history has c.in-Err-Start-Other.field-0-0 (at-start c.in-Err-Start-Other.field-0 c.in-Err-Start-Other.field-0-0 c.in-Err-Start-Other.field-0-0 c.in-Err-Start-Other.field-0-is refl) in
    gen-is-taken (g.D.Desk.image c.args.desk.now) c.args.text.now image h c.in-Err-Start-Other.field-0-0 c.in-Err-Start-Other.field-0-0-is opens is history has

pub returns-in-Err-Start-Other-clause-causes : goal.returns-in-Err-Start-Other-clause-causes
returns-in-Err-Start-Other-clause-causes g c = λ left.
    let opens : Opening-of (g.D.Desk.image c.args.desk.now) c.args.text.now c.in-Err-Start-Other.field-0-0 = λ h i there history has. c.in-Err-Start-Other.ensures.opens h i there history has c.in-Err-Start-Other.field-0-0 (at-start c.in-Err-Start-Other.field-0 c.in-Err-Start-Other.field-0-0 c.in-Err-Start-Other.field-0-0 c.in-Err-Start-Other.field-0-is refl) in (
      ((c.in-Ok.program, (c.requires.short, subst (λ (x : Text). IsAccepted x c.in-Ok.program) c.as_bytes.ensures.value c.in-Ok.ensures.accepted)), no-fault-in c.args.text.now c.as_bytes.result.now c.as_bytes.ensures.value c.in-Ok.ensures.faultless),
      gen-not-this (g.D.Desk.image c.args.desk.now) c.args.text.now c.in-Err-Start-Other.field-0-0 c.in-Err-Start-Other.field-0-0-is opens (c.in-Err-Start-Other.ensures.causes c.in-Err-Start-Other.field-0-0 (at-start c.in-Err-Start-Other.field-0 c.in-Err-Start-Other.field-0-0 c.in-Err-Start-Other.field-0-0 c.in-Err-Start-Other.field-0-is refl)),
    )

pub returns-in-Err-Start-Disk-clause-goes : goal.returns-in-Err-Start-Disk-clause-goes
returns-in-Err-Start-Disk-clause-goes g c = λ image h is history has.
    let accepted : IsAccepted c.args.text.now c.in-Ok.program = subst (λ (x : Text). IsAccepted x c.in-Ok.program) c.as_bytes.ensures.value c.in-Ok.ensures.accepted in
    inl (opening g.D.Desk.image g.D.Desk.may_leave g.D.Desk.moment g.D.Desk.reach g.D.Desk.said g.D.Desk.asked c.args.desk.now c.run.new.desk c.args.text.now h c.in-Ok.program accepted
    (c.in-Err-Start-Disk.ensures.unopened h image is history c.in-Err-Start-Disk.field-0-0 (at-start c.in-Err-Start-Disk.field-0 c.in-Err-Start-Disk.field-0-0 c.in-Err-Start-Disk.field-0-0 c.in-Err-Start-Disk.field-0-is refl))
    (c.in-Err-Start-Disk.ensures.unsaid c.in-Err-Start-Disk.field-0-0 (at-start c.in-Err-Start-Disk.field-0 c.in-Err-Start-Disk.field-0-0 c.in-Err-Start-Disk.field-0-0 c.in-Err-Start-Disk.field-0-is refl))
    (c.in-Err-Start-Disk.ensures.unasked c.in-Err-Start-Disk.field-0-0 (at-start c.in-Err-Start-Disk.field-0 c.in-Err-Start-Disk.field-0-0 c.in-Err-Start-Disk.field-0-0 c.in-Err-Start-Disk.field-0-is refl)))

pub returns-in-Err-Start-Memory-clause-goes : goal.returns-in-Err-Start-Memory-clause-goes
returns-in-Err-Start-Memory-clause-goes g c = λ image h is history has.
    let accepted : IsAccepted c.args.text.now c.in-Ok.program = subst (λ (x : Text). IsAccepted x c.in-Ok.program) c.as_bytes.ensures.value c.in-Ok.ensures.accepted in
    inr (inl (opening g.D.Desk.image g.D.Desk.may_leave g.D.Desk.moment g.D.Desk.reach g.D.Desk.said g.D.Desk.asked c.args.desk.now c.run.new.desk c.args.text.now h c.in-Ok.program accepted
    (c.in-Err-Start-Memory.ensures.unopened h image is history c.in-Err-Start-Memory.field-0-0 (at-start c.in-Err-Start-Memory.field-0 c.in-Err-Start-Memory.field-0-0 c.in-Err-Start-Memory.field-0-0 c.in-Err-Start-Memory.field-0-is refl))
    (c.in-Err-Start-Memory.ensures.unsaid c.in-Err-Start-Memory.field-0-0 (at-start c.in-Err-Start-Memory.field-0 c.in-Err-Start-Memory.field-0-0 c.in-Err-Start-Memory.field-0-0 c.in-Err-Start-Memory.field-0-is refl))
    (c.in-Err-Start-Memory.ensures.unasked c.in-Err-Start-Memory.field-0-0 (at-start c.in-Err-Start-Memory.field-0 c.in-Err-Start-Memory.field-0-0 c.in-Err-Start-Memory.field-0-0 c.in-Err-Start-Memory.field-0-is refl))))

pub returns-in-Err-Disk-clause-goes : goal.returns-in-Err-Disk-clause-goes
returns-in-Err-Disk-clause-goes g c = λ image h is history has.
    let accepted : IsAccepted c.args.text.now c.in-Ok.program = subst (λ (x : Text). IsAccepted x c.in-Ok.program) c.as_bytes.ensures.value c.in-Ok.ensures.accepted in
    inr (gen-stopped g.D.Desk.size g.D.Desk.image g.D.Desk.may_leave g.D.Desk.moment g.D.Desk.reach g.D.Desk.said g.D.Desk.asked c.reads_as_settled.ensures.read c.reads_as_settled.ensures.crash c.one_history.ensures
    c.args.desk.now c.run.new.desk c.args.text.now image h c.args.number c.args.count c.in-Ok.program accepted is history c.in-Err-Disk.field-0 (subst IsLater (sym c.in-Err-Disk.field-0-is) tt) c.in-Err-Disk.ensures.stops)

pub returns-in-Err-Memory-clause-goes : goal.returns-in-Err-Memory-clause-goes
returns-in-Err-Memory-clause-goes g c = λ image h is history has.
    let accepted : IsAccepted c.args.text.now c.in-Ok.program = subst (λ (x : Text). IsAccepted x c.in-Ok.program) c.as_bytes.ensures.value c.in-Ok.ensures.accepted in
    inr (inr (gen-stopped g.D.Desk.size g.D.Desk.image g.D.Desk.may_leave g.D.Desk.moment g.D.Desk.reach g.D.Desk.said g.D.Desk.asked c.reads_as_settled.ensures.read c.reads_as_settled.ensures.crash c.one_history.ensures
    c.args.desk.now c.run.new.desk c.args.text.now image h c.args.number c.args.count c.in-Ok.program accepted is history c.in-Err-Memory.field-0 (subst IsLater (sym c.in-Err-Memory.field-0-is) tt) c.in-Err-Memory.ensures.stops))

pub returns-in-Err-Say-clause-goes : goal.returns-in-Err-Say-clause-goes
returns-in-Err-Say-clause-goes g c = λ image h is history has.
    let accepted : IsAccepted c.args.text.now c.in-Ok.program = subst (λ (x : Text). IsAccepted x c.in-Ok.program) c.as_bytes.ensures.value c.in-Ok.ensures.accepted in
    gen-failed g.D.Desk.size g.D.Desk.image g.D.Desk.may_leave g.D.Desk.moment g.D.Desk.reach g.D.Desk.said g.D.Desk.asked c.one_history.ensures c.args.desk.now c.run.new.desk c.args.text.now image h c.args.number c.args.count c.in-Ok.program accepted is history
    (c.in-Err-Say.ensures.say_whole (search rules))

pub returns-in-Ok-run-clause-file_first : goal.returns-in-Ok-run-clause-file_first
returns-in-Ok-run-clause-file_first g c = λ none. absurd (none (c.in-Ok.program, (c.requires.short, subst (λ (x : Text). IsAccepted x c.in-Ok.program) c.as_bytes.ensures.value c.in-Ok.ensures.accepted)))

pub returns-in-Err-Start-Store-clause-file_first : goal.returns-in-Err-Start-Store-clause-file_first
returns-in-Err-Start-Store-clause-file_first g c = λ none. absurd (none (c.in-Ok.program, (c.requires.short, subst (λ (x : Text). IsAccepted x c.in-Ok.program) c.as_bytes.ensures.value c.in-Ok.ensures.accepted)))

pub returns-in-Err-Start-Other-clause-file_first : goal.returns-in-Err-Start-Other-clause-file_first
returns-in-Err-Start-Other-clause-file_first g c = λ none. absurd (none (c.in-Ok.program, (c.requires.short, subst (λ (x : Text). IsAccepted x c.in-Ok.program) c.as_bytes.ensures.value c.in-Ok.ensures.accepted)))

pub returns-in-Err-Start-Disk-clause-file_first : goal.returns-in-Err-Start-Disk-clause-file_first
returns-in-Err-Start-Disk-clause-file_first g c = λ none. absurd (none (c.in-Ok.program, (c.requires.short, subst (λ (x : Text). IsAccepted x c.in-Ok.program) c.as_bytes.ensures.value c.in-Ok.ensures.accepted)))

pub returns-in-Err-Start-Memory-clause-file_first : goal.returns-in-Err-Start-Memory-clause-file_first
returns-in-Err-Start-Memory-clause-file_first g c = λ none. absurd (none (c.in-Ok.program, (c.requires.short, subst (λ (x : Text). IsAccepted x c.in-Ok.program) c.as_bytes.ensures.value c.in-Ok.ensures.accepted)))

pub returns-in-Err-Disk-clause-file_first : goal.returns-in-Err-Disk-clause-file_first
returns-in-Err-Disk-clause-file_first g c = λ none. absurd (none (c.in-Ok.program, (c.requires.short, subst (λ (x : Text). IsAccepted x c.in-Ok.program) c.as_bytes.ensures.value c.in-Ok.ensures.accepted)))

pub returns-in-Err-Memory-clause-file_first : goal.returns-in-Err-Memory-clause-file_first
returns-in-Err-Memory-clause-file_first g c = λ none. absurd (none (c.in-Ok.program, (c.requires.short, subst (λ (x : Text). IsAccepted x c.in-Ok.program) c.as_bytes.ensures.value c.in-Ok.ensures.accepted)))

pub returns-in-Err-Say-clause-file_first : goal.returns-in-Err-Say-clause-file_first
returns-in-Err-Say-clause-file_first g c = λ none. absurd (none (c.in-Ok.program, (c.requires.short, subst (λ (x : Text). IsAccepted x c.in-Ok.program) c.as_bytes.ensures.value c.in-Ok.ensures.accepted)))

pub returns-in-Err-Disk-clause-store_first : goal.returns-in-Err-Disk-clause-store_first
returns-in-Err-Disk-clause-store_first g c = λ image is none.
    absurd (none (begun-ready c.args.text.now (g.D.Desk.image c.args.desk.now) image is
    (gen-begun g.D.Desk.size g.D.Desk.image g.D.Desk.may_leave g.D.Desk.moment g.D.Desk.reach g.D.Desk.said g.D.Desk.asked c.args.desk.now c.run.new.desk c.args.text.now
    c.args.number c.args.count c.in-Ok.program c.in-Err-Disk.field-0 (subst IsLater (sym c.in-Err-Disk.field-0-is) tt) c.in-Err-Disk.ensures.stops)))

pub returns-in-Err-Memory-clause-store_first : goal.returns-in-Err-Memory-clause-store_first
returns-in-Err-Memory-clause-store_first g c = λ image is none.
    absurd (none (begun-ready c.args.text.now (g.D.Desk.image c.args.desk.now) image is
    (gen-begun g.D.Desk.size g.D.Desk.image g.D.Desk.may_leave g.D.Desk.moment g.D.Desk.reach g.D.Desk.said g.D.Desk.asked c.args.desk.now c.run.new.desk c.args.text.now
    c.args.number c.args.count c.in-Ok.program c.in-Err-Memory.field-0 (subst IsLater (sym c.in-Err-Memory.field-0-is) tt) c.in-Err-Memory.ensures.stops)))

pub returns-in-Err-Say-clause-store_first : goal.returns-in-Err-Say-clause-store_first
returns-in-Err-Say-clause-store_first g c = λ image is none.
    absurd (none (begun-ready c.args.text.now (g.D.Desk.image c.args.desk.now) image is
    (gen-begun g.D.Desk.size g.D.Desk.image g.D.Desk.may_leave g.D.Desk.moment g.D.Desk.reach g.D.Desk.said g.D.Desk.asked c.args.desk.now c.run.new.desk c.args.text.now
    c.args.number c.args.count c.in-Ok.program c.in-Err-Say.field-0 (subst IsLater (sym c.in-Err-Say.field-0-is) tt) c.in-Err-Say.ensures.stops)))

pub returns-in-Err-Start-Disk-clause-store_first : goal.returns-in-Err-Start-Disk-clause-store_first
returns-in-Err-Start-Disk-clause-store_first g c = λ image is none. (
  (
    c.in-Err-Start-Disk.ensures.unsaid c.in-Err-Start-Disk.field-0-0 (at-start c.in-Err-Start-Disk.field-0 c.in-Err-Start-Disk.field-0-0 c.in-Err-Start-Disk.field-0-0 c.in-Err-Start-Disk.field-0-is refl),
    c.in-Err-Start-Disk.ensures.unasked c.in-Err-Start-Disk.field-0-0 (at-start c.in-Err-Start-Disk.field-0 c.in-Err-Start-Disk.field-0-0 c.in-Err-Start-Disk.field-0-0 c.in-Err-Start-Disk.field-0-is refl),
  ),
  untouched-read g.D.Desk.image g.D.Desk.may_leave g.D.Desk.moment g.D.Desk.reach g.D.Desk.said g.D.Desk.asked g.D.Desk.syncs c.args.desk.now c.run.new.desk
      (c.run.ensures.alone image is (none-of c.args.text.now c.args.text.now image refl none))
      (c.in-Err-Start-Disk.ensures.unsaid c.in-Err-Start-Disk.field-0-0 (at-start c.in-Err-Start-Disk.field-0 c.in-Err-Start-Disk.field-0-0 c.in-Err-Start-Disk.field-0-0 c.in-Err-Start-Disk.field-0-is refl)) (c.in-Err-Start-Disk.ensures.unasked c.in-Err-Start-Disk.field-0-0 (at-start c.in-Err-Start-Disk.field-0 c.in-Err-Start-Disk.field-0-0 c.in-Err-Start-Disk.field-0-0 c.in-Err-Start-Disk.field-0-is refl)),
)

pub returns-in-Err-Start-Memory-clause-store_first : goal.returns-in-Err-Start-Memory-clause-store_first
returns-in-Err-Start-Memory-clause-store_first g c = λ image is none. (
  (
    c.in-Err-Start-Memory.ensures.unsaid c.in-Err-Start-Memory.field-0-0 (at-start c.in-Err-Start-Memory.field-0 c.in-Err-Start-Memory.field-0-0 c.in-Err-Start-Memory.field-0-0 c.in-Err-Start-Memory.field-0-is refl),
    c.in-Err-Start-Memory.ensures.unasked c.in-Err-Start-Memory.field-0-0 (at-start c.in-Err-Start-Memory.field-0 c.in-Err-Start-Memory.field-0-0 c.in-Err-Start-Memory.field-0-0 c.in-Err-Start-Memory.field-0-is refl),
  ),
  untouched-read g.D.Desk.image g.D.Desk.may_leave g.D.Desk.moment g.D.Desk.reach g.D.Desk.said g.D.Desk.asked g.D.Desk.syncs c.args.desk.now c.run.new.desk
      (c.run.ensures.alone image is (none-of c.args.text.now c.args.text.now image refl none))
      (c.in-Err-Start-Memory.ensures.unsaid c.in-Err-Start-Memory.field-0-0 (at-start c.in-Err-Start-Memory.field-0 c.in-Err-Start-Memory.field-0-0 c.in-Err-Start-Memory.field-0-0 c.in-Err-Start-Memory.field-0-is refl)) (c.in-Err-Start-Memory.ensures.unasked c.in-Err-Start-Memory.field-0-0 (at-start c.in-Err-Start-Memory.field-0 c.in-Err-Start-Memory.field-0-0 c.in-Err-Start-Memory.field-0-0 c.in-Err-Start-Memory.field-0-is refl)),
)

pub returns-in-Err-Start-Store-clause-store_first : goal.returns-in-Err-Start-Store-clause-store_first
returns-in-Err-Start-Store-clause-store_first g c = λ image is none.
    let accepted : IsAccepted c.args.text.now c.in-Ok.program = subst (λ (x : Text). IsAccepted x c.in-Ok.program) c.as_bytes.ensures.value c.in-Ok.ensures.accepted in
    let opens : Opening-of (g.D.Desk.image c.args.desk.now) c.args.text.now c.in-Err-Start-Store.field-0-0 = λ h i there history has. c.in-Err-Start-Store.ensures.opens h i there history has c.in-Err-Start-Store.field-0-0 (at-start c.in-Err-Start-Store.field-0 c.in-Err-Start-Store.field-0-0 c.in-Err-Start-Store.field-0-0 c.in-Err-Start-Store.field-0-is refl) in
    let bad : IsNoStore (g.D.Desk.image c.args.desk.now) c.entry_of.result = no-store (g.D.Desk.image c.args.desk.now) c.args.text.now c.in-Err-Start-Store.field-0-0 c.in-Err-Start-Store.fault c.in-Err-Start-Store.field-0-0-is opens
    (gen-others (g.D.Desk.image c.args.desk.now) c.args.text.now c.in-Err-Start-Store.field-0 c.in-Err-Start-Store.field-0-0 c.in-Err-Start-Store.field-0-is c.in-Err-Start-Store.ensures.other)
    (c.in-Err-Start-Store.ensures.causes c.in-Err-Start-Store.field-0-0 (at-start c.in-Err-Start-Store.field-0 c.in-Err-Start-Store.field-0-0 c.in-Err-Start-Store.field-0-0 c.in-Err-Start-Store.field-0-is refl)) c.entry_of.result c.entry_of.ensures in (
      (
        ((c.in-Ok.program, (c.requires.short, accepted)), bad),
        says-same g.D.Desk.image g.D.Desk.said g.D.Desk.asked c.args.desk.now c.run.new.desk (c.in-Err-Start-Store.ensures.unsaid c.in-Err-Start-Store.field-0-0 (at-start c.in-Err-Start-Store.field-0 c.in-Err-Start-Store.field-0-0 c.in-Err-Start-Store.field-0-0 c.in-Err-Start-Store.field-0-is refl)) (c.in-Err-Start-Store.ensures.unasked c.in-Err-Start-Store.field-0-0 (at-start c.in-Err-Start-Store.field-0 c.in-Err-Start-Store.field-0-0 c.in-Err-Start-Store.field-0-0 c.in-Err-Start-Store.field-0-is refl))
            (c.in-Err-Start-Store.ensures.kept c.in-Err-Start-Store.fault (at-start c.in-Err-Start-Store.field-0 c.in-Err-Start-Store.field-0-0 (starts.Store c.in-Err-Start-Store.fault) c.in-Err-Start-Store.field-0-is c.in-Err-Start-Store.field-0-0-is)),
      ),
      untouched-read g.D.Desk.image g.D.Desk.may_leave g.D.Desk.moment g.D.Desk.reach g.D.Desk.said g.D.Desk.asked g.D.Desk.syncs c.args.desk.now c.run.new.desk
          (c.run.ensures.alone image is (none-of c.args.text.now c.args.text.now image refl none))
          (c.in-Err-Start-Store.ensures.unsaid c.in-Err-Start-Store.field-0-0 (at-start c.in-Err-Start-Store.field-0 c.in-Err-Start-Store.field-0-0 c.in-Err-Start-Store.field-0-0 c.in-Err-Start-Store.field-0-is refl)) (c.in-Err-Start-Store.ensures.unasked c.in-Err-Start-Store.field-0-0 (at-start c.in-Err-Start-Store.field-0 c.in-Err-Start-Store.field-0-0 c.in-Err-Start-Store.field-0-0 c.in-Err-Start-Store.field-0-is refl)),
    )

pub returns-in-Err-Start-Other-clause-store_first : goal.returns-in-Err-Start-Other-clause-store_first
returns-in-Err-Start-Other-clause-store_first g c = λ image is none.
    let accepted : IsAccepted c.args.text.now c.in-Ok.program = subst (λ (x : Text). IsAccepted x c.in-Ok.program) c.as_bytes.ensures.value c.in-Ok.ensures.accepted in
    let opens : Opening-of (g.D.Desk.image c.args.desk.now) c.args.text.now c.in-Err-Start-Other.field-0-0 = λ h i there history has. c.in-Err-Start-Other.ensures.opens h i there history has c.in-Err-Start-Other.field-0-0 (at-start c.in-Err-Start-Other.field-0 c.in-Err-Start-Other.field-0-0 c.in-Err-Start-Other.field-0-0 c.in-Err-Start-Other.field-0-is refl) in
    let bad : IsOthers c.args.text.now (g.D.Desk.image c.args.desk.now) = gen-not-this (g.D.Desk.image c.args.desk.now) c.args.text.now c.in-Err-Start-Other.field-0-0 c.in-Err-Start-Other.field-0-0-is opens (c.in-Err-Start-Other.ensures.causes c.in-Err-Start-Other.field-0-0 (at-start c.in-Err-Start-Other.field-0 c.in-Err-Start-Other.field-0-0 c.in-Err-Start-Other.field-0-0 c.in-Err-Start-Other.field-0-is refl)) in (
      (
        ((c.in-Ok.program, (c.requires.short, accepted)), bad),
        says-same g.D.Desk.image g.D.Desk.said g.D.Desk.asked c.args.desk.now c.run.new.desk (c.in-Err-Start-Other.ensures.unsaid c.in-Err-Start-Other.field-0-0 (at-start c.in-Err-Start-Other.field-0 c.in-Err-Start-Other.field-0-0 c.in-Err-Start-Other.field-0-0 c.in-Err-Start-Other.field-0-is refl)) (c.in-Err-Start-Other.ensures.unasked c.in-Err-Start-Other.field-0-0 (at-start c.in-Err-Start-Other.field-0 c.in-Err-Start-Other.field-0-0 c.in-Err-Start-Other.field-0-0 c.in-Err-Start-Other.field-0-is refl))
            (c.in-Err-Start-Other.ensures.other_kept (at-start c.in-Err-Start-Other.field-0 c.in-Err-Start-Other.field-0-0 starts.Other c.in-Err-Start-Other.field-0-is c.in-Err-Start-Other.field-0-0-is)),
      ),
      untouched-read g.D.Desk.image g.D.Desk.may_leave g.D.Desk.moment g.D.Desk.reach g.D.Desk.said g.D.Desk.asked g.D.Desk.syncs c.args.desk.now c.run.new.desk
          (c.run.ensures.alone image is (none-of c.args.text.now c.args.text.now image refl none))
          (c.in-Err-Start-Other.ensures.unsaid c.in-Err-Start-Other.field-0-0 (at-start c.in-Err-Start-Other.field-0 c.in-Err-Start-Other.field-0-0 c.in-Err-Start-Other.field-0-0 c.in-Err-Start-Other.field-0-is refl)) (c.in-Err-Start-Other.ensures.unasked c.in-Err-Start-Other.field-0-0 (at-start c.in-Err-Start-Other.field-0 c.in-Err-Start-Other.field-0-0 c.in-Err-Start-Other.field-0-0 c.in-Err-Start-Other.field-0-is refl)),
    )
