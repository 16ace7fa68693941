use Rattle.std.proofs.Common.{◌≡◌, ◌⊎◌, inl, inr, ⊎_elim, ℕ, List, Option, Result, Ok, Err, refl, sym, ap, ◌∙◌, subst, arith}
use Rattle.std.specs.Prelude.{IfErr, IsErrAnd}
use Rattle.std.specs.Option.{ForSome}
use Rattle.r3_desk.specs.Moments.{LeavesImage}
use Rattle.r3_entry.specs.declared.entry.Entry.{Entry}
use Rattle.r3_entry.specs.Image.{IsHistoryOf}
use Rattle.r3_store.specs.declared.fault.OpenFault.{OpenFault}
use Rattle.r3_exec.specs.declared.exec.Exec.{Exec}
use Rattle.r3_exec.proofs.Syncs.{no_more}
use Rattle.r3_recover.specs.Opened.{HasCause, HasProgram, IsHalted, WasRead}
use Rattle.r3_recover.specs.Recovering.{told_fault}
use Rattle.r3_recover.specs.declared.ends.StartFault.{StartFault}
use Rattle.r3_recover.specs.declared.ends.StartFault.TheVariants.{Store, Other, Disk, Memory}
use Rattle.r3_recover.proofs.Leaving.{few-by}
use Rattle.r3_recover.proofs.Openings.{taken}
use Rattle.r3_recover.proofs.opening.open_exec.Goals as goal

other-runs : IsHalted Other → ⊥
other-runs halted = ⊎_elim (λ (disk : Other ≡ Disk). absurd cc) (λ (memory : Other ≡ Memory). absurd cc) halted

-- what is taken up ends with a cause
causes-of : (r : Result Exec StartFault) (image : Option (List ℕ)) (text : List ℕ) (h : List Entry) → ForSome image (IsHistoryOf h)
    → ((fault : OpenFault) → r ≡ Err (Store fault) → ⊥) → (HasProgram h text → IfErr r IsHalted) → IfErr r (HasCause image text)
causes-of (Ok exec) image text h is never halted = tt
causes-of (Err (Store fault)) image text h is never halted = absurd (never fault refl)
causes-of (Err Other) image text h is never halted = λ i told. (h, is i told, λ has. other-runs (halted has))
causes-of (Err Disk) image text h is never halted = tt
causes-of (Err Memory) image text h is never halted = tt

pub take_up-requires-clause-taken : goal.take_up-requires-clause-taken
take_up-requires-clause-taken g c =
    let o = c.in-Ok.ensures.ok in
    let t = taken g.D.Desk.size g.D.Desk.image g.D.Desk.may_leave g.D.Desk.moment g.D.Desk.reach g.D.Desk.said g.D.Desk.asked g.D.Desk.syncs
    c.args.desk.now c.open.new.desk c.in-Ok.store o.0 o.1 c.open.ensures.crash c.open.ensures.image c.open.ensures.said c.open.ensures.asked c.open.ensures.syncs in
    (c.args.desk.now, o.0, t)

pub returns-in-Ok-clause-does : goal.returns-in-Ok-clause-does
returns-in-Ok-clause-does g c =
    let o = c.in-Ok.ensures.ok in
    let t = taken g.D.Desk.size g.D.Desk.image g.D.Desk.may_leave g.D.Desk.moment g.D.Desk.reach g.D.Desk.said g.D.Desk.asked g.D.Desk.syncs
    c.args.desk.now c.open.new.desk c.in-Ok.store o.0 o.1 c.open.ensures.crash c.open.ensures.image c.open.ensures.said c.open.ensures.asked c.open.ensures.syncs in
    c.take_up.ensures.does c.args.desk.now o.0 t

pub returns-in-Ok-clause-causes : goal.returns-in-Ok-clause-causes
returns-in-Ok-clause-causes g c =
    let o = c.in-Ok.ensures.ok in
    let t = taken g.D.Desk.size g.D.Desk.image g.D.Desk.may_leave g.D.Desk.moment g.D.Desk.reach g.D.Desk.said g.D.Desk.asked g.D.Desk.syncs
    c.args.desk.now c.open.new.desk c.in-Ok.store o.0 o.1 c.open.ensures.crash c.open.ensures.image c.open.ensures.said c.open.ensures.asked c.open.ensures.syncs in
    causes-of c.take_up.result (g.D.Desk.image c.args.desk.now) c.args.text.now o.0 t.is_history c.take_up.ensures.not_store
    (c.take_up.ensures.opens o.0 o.1.holds.stands)

pub returns-in-Ok-clause-other : goal.returns-in-Ok-clause-other
returns-in-Ok-clause-other g c = λ h i told is not.
    subst (λ (r : Result Exec StartFault). IsErrAnd r (λ fault. (fault ≡ Other) ⊎ IsHalted fault))
    (sym (c.take_up.ensures.other h (c.in-Ok.ensures.on_history h i told is) not)) (inl refl)

pub returns-in-Ok-clause-opens : goal.returns-in-Ok-clause-opens
returns-in-Ok-clause-opens g c = λ h i told is has. c.take_up.ensures.opens h (c.in-Ok.ensures.on_history h i told is) has

pub returns-in-Ok-clause-crash : goal.returns-in-Ok-clause-crash
returns-in-Ok-clause-crash g c = λ h i told is.
    let o = c.in-Ok.ensures.ok in
    let t = taken g.D.Desk.size g.D.Desk.image g.D.Desk.may_leave g.D.Desk.moment g.D.Desk.reach g.D.Desk.said g.D.Desk.asked g.D.Desk.syncs
    c.args.desk.now c.open.new.desk c.in-Ok.store o.0 o.1 c.open.ensures.crash c.open.ensures.image c.open.ensures.said c.open.ensures.asked c.open.ensures.syncs in
    subst (λ (es : List Entry). LeavesImage g.D.Desk.moment g.D.Desk.reach g.D.Desk.may_leave g.D.Desk.said g.D.Desk.asked c.args.desk.now c.take_up.new.desk (IsHistoryOf es))
    (c.one_history.ensures i o.0 h (t.is_history i told) is) (c.take_up.ensures.crash c.args.desk.now o.0 t)

pub returns-in-Ok-clause-reads : goal.returns-in-Ok-clause-reads
returns-in-Ok-clause-reads g c = λ h i told is j read.
    let o = c.in-Ok.ensures.ok in
    let t = taken g.D.Desk.size g.D.Desk.image g.D.Desk.may_leave g.D.Desk.moment g.D.Desk.reach g.D.Desk.said g.D.Desk.asked g.D.Desk.syncs
    c.args.desk.now c.open.new.desk c.in-Ok.store o.0 o.1 c.open.ensures.crash c.open.ensures.image c.open.ensures.said c.open.ensures.asked c.open.ensures.syncs in
    subst (λ (es : List Entry). IsHistoryOf es j) (c.one_history.ensures i o.0 h (t.is_history i told) is) (c.take_up.ensures.reads c.args.desk.now o.0 t j read)

pub returns-in-Ok-clause-alone : goal.returns-in-Ok-clause-alone
returns-in-Ok-clause-alone g c = λ i told none.
    let o = c.in-Ok.ensures.ok in
    let same = c.take_up.ensures.other_alone
    (c.take_up.ensures.other o.0 o.1.holds.stands (none o.0 (o.1.told i (c.open.ensures.image ∙ told)))) in
    subst (λ (d : g.row.D.Denot). WasRead g.D.Desk.image g.D.Desk.may_leave g.D.Desk.moment g.D.Desk.reach g.D.Desk.said g.D.Desk.asked g.D.Desk.syncs c.args.desk.now d)
    (sym same)
    (record { image = c.open.ensures.image; quiet = c.open.ensures.quiet; leaves = c.open.ensures.crash; same_syncs = c.open.ensures.syncs })

pub returns-in-Err-clause-alone : goal.returns-in-Err-clause-alone
returns-in-Err-clause-alone g c = λ i told none.
    record { image = c.open.ensures.image; quiet = c.open.ensures.quiet; leaves = c.open.ensures.crash; same_syncs = c.open.ensures.syncs }

pub returns-in-Err-clause-opens : goal.returns-in-Err-clause-opens
returns-in-Err-clause-opens g c = λ h i told is has.
    ⊎_elim
    (λ disk. inl (c.start_fault.ensures ∙ ap (λ (f : OpenFault). told_fault f) disk))
    (λ memory. inr (c.start_fault.ensures ∙ ap (λ (f : OpenFault). told_fault f) memory))
    (c.in-Err.ensures.on_history h i told is)

pub returns-in-Ok-clause-few_syncs : goal.returns-in-Ok-clause-few_syncs
returns-in-Ok-clause-few_syncs g c =
    few-by (g.D.Desk.syncs c.args.desk.now) (g.D.Desk.syncs c.open.new.desk) (g.D.Desk.syncs c.take_up.new.desk) 0 1 1
    (no_more _ _ c.open.ensures.syncs 0) c.take_up.ensures.few_syncs (omega arith)

pub returns-in-Err-clause-few_syncs : goal.returns-in-Err-clause-few_syncs
returns-in-Err-clause-few_syncs g c = no_more (g.D.Desk.syncs c.args.desk.now) (g.D.Desk.syncs c.open.new.desk) c.open.ensures.syncs 1
