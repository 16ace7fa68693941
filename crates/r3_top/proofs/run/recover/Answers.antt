use Rattle.std.proofs.Common.{rules, inr, [], ◌∷◌, None, subst}
use Rattle.r3_words.specs.Forms.{recover}
use Rattle.r3_model.specs.Language.{Text}
use Rattle.r3_model.specs.Script.{Drain}
use Rattle.r3_top.specs.Ends.{RecoverComes}
use Rattle.r3_top.specs.Going.{OfDrain}
use Rattle.r3_top.proofs.Refusing.{begun-ready, cause-of, ends-early, goes-more}
use Rattle.r3_top.proofs.Working.{same-history}
use Rattle.r3_top.proofs.Running.{carry, opened-file, opened-begun, drained, goes-all, goes-first, drain-failed, Whole, Part, DrainFailed}
use Rattle.r3_top.proofs.run.recover.Goals as goal

-- ---- nothing was opened

pub returns-in-Err-clause-goes : goal.returns-in-Err-clause-goes
returns-in-Err-clause-goes g c = λ text image h there is history has.
    goes-more g.D.Desk.image g.D.Desk.may_leave g.D.Desk.moment g.D.Desk.reach g.D.Desk.said g.D.Desk.asked c.args.desk.now c.begin.new.desk text h
    (OfDrain g.D.Desk.image g.D.Desk.may_leave g.D.Desk.moment g.D.Desk.reach g.D.Desk.said g.D.Desk.asked c.args.desk.now c.begin.new.desk text h c.args.turns) c.in-Err.halt (c.in-Err.ensures.goes text image h there is history has)

pub returns-in-Err-clause-causes : goal.returns-in-Err-clause-causes
returns-in-Err-clause-causes g c = λ text left there.
    cause-of (recover c.args.path.now c.args.turns) text (g.D.Desk.image c.args.desk.now) left c.in-Err.halt c.in-Err.ensures.early tt (c.in-Err.ensures.causes text there)

pub returns-in-Err-clause-file_first : goal.returns-in-Err-clause-file_first
returns-in-Err-clause-file_first g c = λ text there none. let x = c.in-Err.ensures.file_first text there none in x

pub returns-in-Err-clause-store_first : goal.returns-in-Err-clause-store_first
returns-in-Err-clause-store_first g c = λ text image there is none. (
  ends-early g.D.Desk.image g.D.Desk.said g.D.Desk.asked c.args.desk.now c.begin.new.desk text c.in-Err.halt
      (c.in-Err.ensures.refuses text there) c.in-Err.ensures.early c.in-Err.ensures.unsaid,
  c.in-Err.ensures.alone text image there is none,
)

-- ---- it was opened: the function file is taken, and the store is this program's

pub returns-in-Ok-end-clause-file_first : goal.returns-in-Ok-end-clause-file_first
returns-in-Ok-end-clause-file_first g c = λ text there none.
    let b = c.in-Ok.ensures.begins in
    absurd (none (opened-file text b.0 (g.D.Desk.image c.args.desk.now) c.in-Ok.session.exec.program b.1 (b.2 text there) b.3))

pub returns-in-Ok-end-clause-store_first : goal.returns-in-Ok-end-clause-store_first
returns-in-Ok-end-clause-store_first g c = λ text image there is none.
    let b = c.in-Ok.ensures.begins in
    absurd (none (begun-ready text (g.D.Desk.image c.args.desk.now) image is
    (opened-begun text b.0 (g.D.Desk.image c.args.desk.now) c.in-Ok.session.exec.program b.1 (b.2 text there) b.3)))

pub returns-in-Err-Disk-clause-file_first : goal.returns-in-Err-Disk-clause-file_first
returns-in-Err-Disk-clause-file_first g c = λ text there none.
    let b = c.in-Ok.ensures.begins in
    absurd (none (opened-file text b.0 (g.D.Desk.image c.args.desk.now) c.in-Ok.session.exec.program b.1 (b.2 text there) b.3))

pub returns-in-Err-Disk-clause-store_first : goal.returns-in-Err-Disk-clause-store_first
returns-in-Err-Disk-clause-store_first g c = λ text image there is none.
    let b = c.in-Ok.ensures.begins in
    absurd (none (begun-ready text (g.D.Desk.image c.args.desk.now) image is
    (opened-begun text b.0 (g.D.Desk.image c.args.desk.now) c.in-Ok.session.exec.program b.1 (b.2 text there) b.3)))

pub returns-in-Err-Memory-clause-file_first : goal.returns-in-Err-Memory-clause-file_first
returns-in-Err-Memory-clause-file_first g c = λ text there none.
    let b = c.in-Ok.ensures.begins in
    absurd (none (opened-file text b.0 (g.D.Desk.image c.args.desk.now) c.in-Ok.session.exec.program b.1 (b.2 text there) b.3))

pub returns-in-Err-Memory-clause-store_first : goal.returns-in-Err-Memory-clause-store_first
returns-in-Err-Memory-clause-store_first g c = λ text image there is none.
    let b = c.in-Ok.ensures.begins in
    absurd (none (begun-ready text (g.D.Desk.image c.args.desk.now) image is
    (opened-begun text b.0 (g.D.Desk.image c.args.desk.now) c.in-Ok.session.exec.program b.1 (b.2 text there) b.3)))

pub returns-in-Err-Say-clause-file_first : goal.returns-in-Err-Say-clause-file_first
returns-in-Err-Say-clause-file_first g c = λ text there none.
    let b = c.in-Ok.ensures.begins in
    absurd (none (opened-file text b.0 (g.D.Desk.image c.args.desk.now) c.in-Ok.session.exec.program b.1 (b.2 text there) b.3))

pub returns-in-Err-Say-clause-store_first : goal.returns-in-Err-Say-clause-store_first
returns-in-Err-Say-clause-store_first g c = λ text image there is none.
    let b = c.in-Ok.ensures.begins in
    absurd (none (begun-ready text (g.D.Desk.image c.args.desk.now) image is
    (opened-begun text b.0 (g.D.Desk.image c.args.desk.now) c.in-Ok.session.exec.program b.1 (b.2 text there) b.3)))

-- ---- the causes

pub returns-in-Ok-end-clause-causes : goal.returns-in-Ok-end-clause-causes
returns-in-Ok-end-clause-causes g c = λ text left there.
    let b = c.in-Ok.ensures.begins in (
      (opened-file text b.0 (g.D.Desk.image c.args.desk.now) c.in-Ok.session.exec.program b.1 (b.2 text there) b.3, c.in-Ok.ensures.faultless text there),
      opened-begun text b.0 (g.D.Desk.image c.args.desk.now) c.in-Ok.session.exec.program b.1 (b.2 text there) b.3,
      tt,
    )

-- ---- what it has come to

pub returns-in-Ok-end-clause-comes : goal.returns-in-Ok-end-clause-comes
returns-in-Ok-end-clause-comes g c = λ text there.
    let b = c.in-Ok.ensures.begins in
    inr (subst (λ (t : Text). RecoverComes g.D.Desk.image g.D.Desk.may_leave g.D.Desk.moment g.D.Desk.reach g.D.Desk.said g.D.Desk.asked c.args.desk.now c.serve-end.new.desk
    c.args.turns t None []) (b.2 text there)
    (drained g.D.Desk.size g.D.Desk.image g.D.Desk.may_leave g.D.Desk.moment g.D.Desk.reach g.D.Desk.said g.D.Desk.asked c.reads_as_settled.ensures.read c.reads_as_settled.ensures.crash
    c.args.desk.now c.serve-end.new.desk c.serve-end.new.session.exec c.in-Ok.session.exec.program c.serve-end.ensures.program b.0 b.1 b.3
    c.args.turns (c.in-Ok-end.ensures.serves c.args.desk.now b.0 b.1 [] b.4)))

-- ---- how it goes

pub returns-in-Ok-end-clause-goes : goal.returns-in-Ok-end-clause-goes
returns-in-Ok-end-clause-goes g c = λ text image h there is history has.
    let b = c.in-Ok.ensures.begins in
    carry (Whole g.D.Desk.image g.D.Desk.may_leave g.D.Desk.moment g.D.Desk.reach g.D.Desk.said g.D.Desk.asked c.args.desk.now c.serve-end.new.desk (Drain c.args.turns ∷ [])) text b.0 h b.1 (b.2 text there)
    (same-history c.one_history.ensures (g.D.Desk.image c.args.desk.now) image b.1 h b.3.history is history)
    (goes-all g.D.Desk.size g.D.Desk.image g.D.Desk.may_leave g.D.Desk.moment g.D.Desk.reach g.D.Desk.said g.D.Desk.asked c.reads_as_settled.ensures.read c.reads_as_settled.ensures.crash
    c.args.desk.now c.serve-end.new.desk c.serve-end.new.session.exec c.in-Ok.session.exec.program c.serve-end.ensures.program b.0 b.1 b.3
    (Drain c.args.turns ∷ []) (c.in-Ok-end.ensures.serves c.args.desk.now b.0 b.1 [] b.4))

pub returns-in-Err-Disk-clause-goes : goal.returns-in-Err-Disk-clause-goes
returns-in-Err-Disk-clause-goes g c = λ text image h there is history has.
    let b = c.in-Ok.ensures.begins in
    inr (carry (Part g.D.Desk.image g.D.Desk.may_leave g.D.Desk.moment g.D.Desk.reach g.D.Desk.said g.D.Desk.asked c.args.desk.now c.serve-end.new.desk (Drain c.args.turns ∷ [])) text b.0 h b.1 (b.2 text there)
    (same-history c.one_history.ensures (g.D.Desk.image c.args.desk.now) image b.1 h b.3.history is history)
    (goes-first g.D.Desk.size g.D.Desk.image g.D.Desk.may_leave g.D.Desk.moment g.D.Desk.reach g.D.Desk.said g.D.Desk.asked c.reads_as_settled.ensures.read c.reads_as_settled.ensures.crash
    c.args.desk.now c.serve-end.new.desk c.serve-end.new.session.exec c.in-Ok.session.exec.program c.serve-end.ensures.program b.0 b.1 b.3
    c.serve-end.result c.in-Err-Disk.field-0 c.in-Err-Disk.is (Drain c.args.turns) (c.serve-end.ensures.stops c.args.desk.now b.0 b.1 [] b.4)))

pub returns-in-Err-Memory-clause-goes : goal.returns-in-Err-Memory-clause-goes
returns-in-Err-Memory-clause-goes g c = λ text image h there is history has.
    let b = c.in-Ok.ensures.begins in
    inr (inr (carry (Part g.D.Desk.image g.D.Desk.may_leave g.D.Desk.moment g.D.Desk.reach g.D.Desk.said g.D.Desk.asked c.args.desk.now c.serve-end.new.desk (Drain c.args.turns ∷ [])) text b.0 h b.1 (b.2 text there)
    (same-history c.one_history.ensures (g.D.Desk.image c.args.desk.now) image b.1 h b.3.history is history)
    (goes-first g.D.Desk.size g.D.Desk.image g.D.Desk.may_leave g.D.Desk.moment g.D.Desk.reach g.D.Desk.said g.D.Desk.asked c.reads_as_settled.ensures.read c.reads_as_settled.ensures.crash
    c.args.desk.now c.serve-end.new.desk c.serve-end.new.session.exec c.in-Ok.session.exec.program c.serve-end.ensures.program b.0 b.1 b.3
    c.serve-end.result c.in-Err-Memory.field-0 c.in-Err-Memory.is (Drain c.args.turns) (c.serve-end.ensures.stops c.args.desk.now b.0 b.1 [] b.4))))

pub returns-in-Err-Say-clause-goes : goal.returns-in-Err-Say-clause-goes
returns-in-Err-Say-clause-goes g c = λ text image h there is history has.
    let b = c.in-Ok.ensures.begins in
    carry (DrainFailed g.D.Desk.image g.D.Desk.may_leave g.D.Desk.moment g.D.Desk.reach g.D.Desk.said g.D.Desk.asked c.args.desk.now c.serve-end.new.desk (Drain c.args.turns)) text b.0 h b.1 (b.2 text there)
    (same-history c.one_history.ensures (g.D.Desk.image c.args.desk.now) image b.1 h b.3.history is history)
    (drain-failed g.D.Desk.size g.D.Desk.image g.D.Desk.may_leave g.D.Desk.moment g.D.Desk.reach g.D.Desk.said g.D.Desk.asked c.reads_as_settled.ensures.read c.reads_as_settled.ensures.crash
    c.args.desk.now c.serve-end.new.desk c.serve-end.new.session.exec c.in-Ok.session.exec.program c.serve-end.ensures.program b.0 b.1 b.3
    (Drain c.args.turns) (c.serve-end.ensures.say_whole c.args.desk.now b.0 b.1 [] b.4 (search rules)))
