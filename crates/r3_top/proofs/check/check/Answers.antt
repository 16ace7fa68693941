use Rattle.std.proofs.Common.{◌≡◌, ◌≤◌, ◌^◌, take, drop, length, sym, ◌∙◌, subst}
use Rattle.std.proofs.lemmas.List.{take-append-drop}
use Rattle.r3_words.specs.Forms.{check}
use Rattle.r3_model.specs.Language.{Text}
use Rattle.r3_top.specs.Functions.{IsAccepted, IsRefused}
use Rattle.r3_top.specs.declared.halt.Halt.TheVariants as halts
use Rattle.r3_top.proofs.Refusing.{at-accept, at-fetch, cause-accept, cause-at-file, is-file}
use Rattle.r3_top.proofs.Checking.{check-stopped, check-counted, check-cut}
use Rattle.r3_top.proofs.check.check.Goals as goal

pub returns-in-Err-accept-clause-causes : goal.returns-in-Err-accept-clause-causes
returns-in-Err-accept-clause-causes g c = λ text image left there.
    let same = c.in-Ok.ensures.text text there in
    let items : c.deref.result.now ≡ text = c.deref.ensures.value ∙ same in
    let short : length text ≤ 2 ^ 20 = subst (λ (x : Text). length x ≤ 2 ^ 20) same c.in-Ok.ensures.short in
    cause-at-file (check c.args.path.now) text image left c.in-Err-accept.halt
    (at-accept text c.in-Err-accept.halt short c.in-Err-accept.ensures.halts
    (λ fault at. subst (λ (x : Text). IsRefused x fault) items (c.in-Err-accept.ensures.refused fault at)))
    (cause-accept text image c.in-Err-accept.halt short c.in-Err-accept.ensures.halts
    (λ fault at. subst (λ (x : Text). IsRefused x fault) items (c.in-Err-accept.ensures.refused fault at))
    (λ fault at is accepted. c.in-Err-accept.ensures.none fault at is (subst (λ (x : Text). IsAccepted x is) (sym items) accepted)))

-- ---- how it goes

pub returns-in-Err-clause-goes : goal.returns-in-Err-clause-goes
returns-in-Err-clause-goes g c = λ text there.
    check-stopped g.D.Desk.image g.D.Desk.may_leave g.D.Desk.moment g.D.Desk.reach g.D.Desk.said g.D.Desk.asked g.D.Desk.syncs c.args.desk.now
    (g.met.D.Desk.counts_now c.args.desk.now) (g.met.D.Desk.only_now c.args.desk.now) c.requires text
    c.in-Err.halt (at-fetch text c.in-Err.halt c.in-Err.ensures.stops (λ l. c.in-Err.ensures.long l text there))

pub returns-in-Err-accept-clause-goes : goal.returns-in-Err-accept-clause-goes
returns-in-Err-accept-clause-goes g c = λ text there.
    let same = c.in-Ok.ensures.text text there in
    let items : c.deref.result.now ≡ text = c.deref.ensures.value ∙ same in
    let short : length text ≤ 2 ^ 20 = subst (λ (x : Text). length x ≤ 2 ^ 20) same c.in-Ok.ensures.short in
    check-stopped g.D.Desk.image g.D.Desk.may_leave g.D.Desk.moment g.D.Desk.reach g.D.Desk.said g.D.Desk.asked g.D.Desk.syncs c.args.desk.now
    (g.met.D.Desk.counts_now c.args.desk.now) (g.met.D.Desk.only_now c.args.desk.now) c.requires text
    c.in-Err-accept.halt (at-accept text c.in-Err-accept.halt short c.in-Err-accept.ensures.halts
    (λ fault at. subst (λ (x : Text). IsRefused x fault) items (c.in-Err-accept.ensures.refused fault at)))

pub returns-in-Err-counts_line-clause-goes : goal.returns-in-Err-counts_line-clause-goes
returns-in-Err-counts_line-clause-goes g c = λ text there.
    check-stopped g.D.Desk.image g.D.Desk.may_leave g.D.Desk.moment g.D.Desk.reach g.D.Desk.said g.D.Desk.asked g.D.Desk.syncs c.args.desk.now
    (g.met.D.Desk.counts_now c.args.desk.now) (g.met.D.Desk.only_now c.args.desk.now) c.requires text
    halts.Memory tt

pub returns-in-Ok-say-clause-goes : goal.returns-in-Ok-say-clause-goes
returns-in-Ok-say-clause-goes g c = λ text there.
    check-counted g.D.Desk.image g.D.Desk.may_leave g.D.Desk.moment g.D.Desk.reach g.D.Desk.said g.D.Desk.asked g.D.Desk.syncs c.args.desk.now
    (g.met.D.Desk.counts_now c.args.desk.now) (g.met.D.Desk.only_now c.args.desk.now) c.requires text c.say.new.self c.in-Ok-accept.program
    (is-file text c.in-Ok.text.items c.deref.result.now c.in-Ok-accept.program (c.in-Ok.ensures.text text there) c.in-Ok.ensures.short c.deref.ensures.value c.in-Ok-accept.ensures.accepted)
    c.say.ensures.image c.say.ensures.syncs c.say.ensures.asked c.say.ensures.pending c.say.ensures.time
    c.deref-2.result.now (c.deref-2.ensures.value ∙ c.in-Ok-counts_line.ensures) c.in-Ok-say.ensures.all

pub returns-clause-goes : goal.returns-clause-goes
returns-clause-goes g c = λ text there.
    let part = c.in-Err-say.ensures.part in
    check-cut g.D.Desk.image g.D.Desk.may_leave g.D.Desk.moment g.D.Desk.reach g.D.Desk.said g.D.Desk.asked g.D.Desk.syncs c.args.desk.now
    (g.met.D.Desk.counts_now c.args.desk.now) (g.met.D.Desk.only_now c.args.desk.now) c.requires text c.say.new.self c.in-Ok-accept.program
    (is-file text c.in-Ok.text.items c.deref.result.now c.in-Ok-accept.program (c.in-Ok.ensures.text text there) c.in-Ok.ensures.short c.deref.ensures.value c.in-Ok-accept.ensures.accepted)
    c.say.ensures.image c.say.ensures.syncs c.say.ensures.asked c.say.ensures.pending c.say.ensures.time
    (take part.0 c.deref-2.result.now) (drop part.0 c.deref-2.result.now)
    (take-append-drop part.0 c.deref-2.result.now ∙ c.deref-2.ensures.value ∙ c.in-Ok-counts_line.ensures) part.2
