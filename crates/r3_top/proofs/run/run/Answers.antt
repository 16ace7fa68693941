use Rattle.std.proofs.Common.{rules, ◌≡◌, inr, [], Some, None, refl, subst}
use Rattle.std.specs.Prelude.{Result, Err}
use Rattle.r3_words.specs.Forms.{run}
use Rattle.r3_serve.specs.declared.fault.ScriptStop.{ScriptStop}
use Rattle.r3_serve.specs.declared.fault.ScriptStop.TheVariants as stops
use Rattle.r3_serve.specs.Scripted.{script_lines}
use Rattle.r3_model.specs.Language.{Text}
use Rattle.r3_top.specs.Ends.{RunComes}
use Rattle.r3_top.specs.declared.halt.Halt.TheVariants as halts
use Rattle.r3_top.specs.Going.{OfScript}
use Rattle.r3_top.proofs.Refusing.{begun-ready, cause-of, ends-early, goes-more}
use Rattle.r3_top.proofs.Working.{same-history}
use Rattle.r3_top.proofs.Running.{carry, opened-file, opened-begun, all-lines, too-long, source-failed, goes-all, goes-within, goes-cut, goes-failed, Whole, Part, CutOff, Failed}
use Rattle.r3_top.proofs.run.run.Goals as goal

-- ---- nothing was opened

pub returns-in-Err-clause-goes : goal.returns-in-Err-clause-goes
returns-in-Err-clause-goes g c = λ text image script h there is left history has.
    goes-more g.D.Desk.image g.D.Desk.may_leave g.D.Desk.moment g.D.Desk.reach g.D.Desk.said g.D.Desk.asked c.args.desk.now c.begin.new.desk text h
    (OfScript g.D.Desk.image g.D.Desk.may_leave g.D.Desk.moment g.D.Desk.reach g.D.Desk.said g.D.Desk.asked c.args.desk.now c.begin.new.desk text h script) c.in-Err.halt (c.in-Err.ensures.goes text image h there is history has)

pub returns-in-Err-clause-causes : goal.returns-in-Err-clause-causes
returns-in-Err-clause-causes g c = λ text there.
    cause-of (run c.args.path.now) text (g.D.Desk.image c.args.desk.now) (g.S.Source.left c.args.source.now) c.in-Err.halt c.in-Err.ensures.early tt (c.in-Err.ensures.causes text there)

pub returns-in-Err-clause-file_first : goal.returns-in-Err-clause-file_first
returns-in-Err-clause-file_first g c = λ text there none. let x = c.in-Err.ensures.file_first text there none in (x.0, refl, x.1)

pub returns-in-Err-clause-store_first : goal.returns-in-Err-clause-store_first
returns-in-Err-clause-store_first g c = λ text image there is none. (
  refl,
  (
    ends-early g.D.Desk.image g.D.Desk.said g.D.Desk.asked c.args.desk.now c.begin.new.desk text c.in-Err.halt
        (c.in-Err.ensures.refuses text there) c.in-Err.ensures.early c.in-Err.ensures.unsaid,
    c.in-Err.ensures.alone text image there is none,
  ),
)

-- ---- it was opened: the function file is taken, and the store is this program's

pub returns-in-Ok-end-clause-file_first : goal.returns-in-Ok-end-clause-file_first
returns-in-Ok-end-clause-file_first g c = λ text there none.
    let b = c.in-Ok.ensures.begins in
    absurd (none (opened-file text b.0 (g.D.Desk.image c.args.desk.now) c.in-Ok.session.exec.program b.1 (b.2 text there) b.3))

pub returns-in-Ok-end-clause-store_first : goal.returns-in-Ok-end-clause-store_first
returns-in-Ok-end-clause-store_first g c = λ text image there is none.
    let b = c.in-Ok.ensures.begins in
    absurd (none (begun-ready text (g.D.Desk.image c.args.desk.now) image is
    (opened-begun text b.0 (g.D.Desk.image c.args.desk.now) c.in-Ok.session.exec.program b.1 (b.2 text there) b.3)))

pub returns-in-Err-Disk-clause-file_first : goal.returns-in-Err-Disk-clause-file_first
returns-in-Err-Disk-clause-file_first g c = λ text there none.
    let b = c.in-Ok.ensures.begins in
    absurd (none (opened-file text b.0 (g.D.Desk.image c.args.desk.now) c.in-Ok.session.exec.program b.1 (b.2 text there) b.3))

pub returns-in-Err-Disk-clause-store_first : goal.returns-in-Err-Disk-clause-store_first
returns-in-Err-Disk-clause-store_first g c = λ text image there is none.
    let b = c.in-Ok.ensures.begins in
    absurd (none (begun-ready text (g.D.Desk.image c.args.desk.now) image is
    (opened-begun text b.0 (g.D.Desk.image c.args.desk.now) c.in-Ok.session.exec.program b.1 (b.2 text there) b.3)))

pub returns-in-Err-Memory-clause-file_first : goal.returns-in-Err-Memory-clause-file_first
returns-in-Err-Memory-clause-file_first g c = λ text there none.
    let b = c.in-Ok.ensures.begins in
    absurd (none (opened-file text b.0 (g.D.Desk.image c.args.desk.now) c.in-Ok.session.exec.program b.1 (b.2 text there) b.3))

pub returns-in-Err-Memory-clause-store_first : goal.returns-in-Err-Memory-clause-store_first
returns-in-Err-Memory-clause-store_first g c = λ text image there is none.
    let b = c.in-Ok.ensures.begins in
    absurd (none (begun-ready text (g.D.Desk.image c.args.desk.now) image is
    (opened-begun text b.0 (g.D.Desk.image c.args.desk.now) c.in-Ok.session.exec.program b.1 (b.2 text there) b.3)))

pub returns-in-Err-Say-clause-file_first : goal.returns-in-Err-Say-clause-file_first
returns-in-Err-Say-clause-file_first g c = λ text there none.
    let b = c.in-Ok.ensures.begins in
    absurd (none (opened-file text b.0 (g.D.Desk.image c.args.desk.now) c.in-Ok.session.exec.program b.1 (b.2 text there) b.3))

pub returns-in-Err-Say-clause-store_first : goal.returns-in-Err-Say-clause-store_first
returns-in-Err-Say-clause-store_first g c = λ text image there is none.
    let b = c.in-Ok.ensures.begins in
    absurd (none (begun-ready text (g.D.Desk.image c.args.desk.now) image is
    (opened-begun text b.0 (g.D.Desk.image c.args.desk.now) c.in-Ok.session.exec.program b.1 (b.2 text there) b.3)))

pub returns-in-Err-Source-clause-file_first : goal.returns-in-Err-Source-clause-file_first
returns-in-Err-Source-clause-file_first g c = λ text there none.
    let b = c.in-Ok.ensures.begins in
    absurd (none (opened-file text b.0 (g.D.Desk.image c.args.desk.now) c.in-Ok.session.exec.program b.1 (b.2 text there) b.3))

pub returns-in-Err-Source-clause-store_first : goal.returns-in-Err-Source-clause-store_first
returns-in-Err-Source-clause-store_first g c = λ text image there is none.
    let b = c.in-Ok.ensures.begins in
    absurd (none (begun-ready text (g.D.Desk.image c.args.desk.now) image is
    (opened-begun text b.0 (g.D.Desk.image c.args.desk.now) c.in-Ok.session.exec.program b.1 (b.2 text there) b.3)))

pub returns-in-Err-TooLong-clause-file_first : goal.returns-in-Err-TooLong-clause-file_first
returns-in-Err-TooLong-clause-file_first g c = λ text there none.
    let b = c.in-Ok.ensures.begins in
    absurd (none (opened-file text b.0 (g.D.Desk.image c.args.desk.now) c.in-Ok.session.exec.program b.1 (b.2 text there) b.3))

pub returns-in-Err-TooLong-clause-store_first : goal.returns-in-Err-TooLong-clause-store_first
returns-in-Err-TooLong-clause-store_first g c = λ text image there is none.
    let b = c.in-Ok.ensures.begins in
    absurd (none (begun-ready text (g.D.Desk.image c.args.desk.now) image is
    (opened-begun text b.0 (g.D.Desk.image c.args.desk.now) c.in-Ok.session.exec.program b.1 (b.2 text there) b.3)))

-- ---- the causes

pub returns-in-Ok-end-clause-causes : goal.returns-in-Ok-end-clause-causes
returns-in-Ok-end-clause-causes g c = λ text there.
    let b = c.in-Ok.ensures.begins in (
      (opened-file text b.0 (g.D.Desk.image c.args.desk.now) c.in-Ok.session.exec.program b.1 (b.2 text there) b.3, c.in-Ok.ensures.faultless text there),
      opened-begun text b.0 (g.D.Desk.image c.args.desk.now) c.in-Ok.session.exec.program b.1 (b.2 text there) b.3,
      λ script is. (c.in-Ok-end.ensures.serves c.args.desk.now b.0 b.1 [] script b.4 is).0,
    )

pub returns-in-Err-TooLong-clause-causes : goal.returns-in-Err-TooLong-clause-causes
returns-in-Err-TooLong-clause-causes g c = λ text there.
    let at : ◌≡◌ {A = Result (Unit {0}) ScriptStop} c.serve_script-end.result (Err stops.TooLong) = search rules in
    let b = c.in-Ok.ensures.begins in (
      (opened-file text b.0 (g.D.Desk.image c.args.desk.now) c.in-Ok.session.exec.program b.1 (b.2 text there) b.3, c.in-Ok.ensures.faultless text there),
      opened-begun text b.0 (g.D.Desk.image c.args.desk.now) c.in-Ok.session.exec.program b.1 (b.2 text there) b.3,
      λ script is. (c.serve_script-end.ensures.long c.args.desk.now b.0 b.1 [] script b.4 is at).0,
    )

-- ---- what it has come to

pub returns-in-Ok-end-clause-comes : goal.returns-in-Ok-end-clause-comes
returns-in-Ok-end-clause-comes g c = λ text there.
    let b = c.in-Ok.ensures.begins in
    inr (subst (λ (t : Text). RunComes g.D.Desk.image g.D.Desk.may_leave g.D.Desk.moment g.D.Desk.reach g.D.Desk.said g.D.Desk.asked c.args.desk.now c.serve_script-end.new.desk
    (g.S.Source.left c.args.source.now) (g.S.Source.left c.serve_script-end.new.source) t None []) (b.2 text there)
    (all-lines g.D.Desk.size g.D.Desk.image g.D.Desk.may_leave g.D.Desk.moment g.D.Desk.reach g.D.Desk.said g.D.Desk.asked c.reads_as_settled.ensures.read c.reads_as_settled.ensures.crash
    c.args.desk.now c.serve_script-end.new.desk c.serve_script-end.new.session.exec c.in-Ok.session.exec.program c.serve_script-end.ensures.program b.0 b.1 b.3
    (g.S.Source.left c.args.source.now) (g.S.Source.left c.serve_script-end.new.source)
    (λ script is. c.in-Ok-end.ensures.serves c.args.desk.now b.0 b.1 [] script b.4 is)))

pub returns-in-Err-Source-clause-comes : goal.returns-in-Err-Source-clause-comes
returns-in-Err-Source-clause-comes g c = λ text there.
    let b = c.in-Ok.ensures.begins in
    let at : ◌≡◌ {A = Result (Unit {0}) ScriptStop} c.serve_script-end.result (Err stops.Source) = search rules in
    inr (subst (λ (t : Text). RunComes g.D.Desk.image g.D.Desk.may_leave g.D.Desk.moment g.D.Desk.reach g.D.Desk.said g.D.Desk.asked c.args.desk.now c.serve_script-end.new.desk
    (g.S.Source.left c.args.source.now) (g.S.Source.left c.serve_script-end.new.source) t (Some halts.Script) []) (b.2 text there)
    (source-failed g.D.Desk.size g.D.Desk.image g.D.Desk.may_leave g.D.Desk.moment g.D.Desk.reach g.D.Desk.said g.D.Desk.asked c.reads_as_settled.ensures.read c.reads_as_settled.ensures.crash
    c.args.desk.now c.serve_script-end.new.desk c.serve_script-end.new.session.exec c.in-Ok.session.exec.program c.serve_script-end.ensures.program b.0 b.1 b.3
    (g.S.Source.left c.args.source.now) (g.S.Source.left c.serve_script-end.new.source)
    (c.serve_script-end.ensures.source c.args.desk.now b.0 b.1 [] b.4 at)))

pub returns-in-Err-TooLong-clause-comes : goal.returns-in-Err-TooLong-clause-comes
returns-in-Err-TooLong-clause-comes g c = λ text there.
    let b = c.in-Ok.ensures.begins in
    let at : ◌≡◌ {A = Result (Unit {0}) ScriptStop} c.serve_script-end.result (Err stops.TooLong) = search rules in
    inr (subst (λ (t : Text). RunComes g.D.Desk.image g.D.Desk.may_leave g.D.Desk.moment g.D.Desk.reach g.D.Desk.said g.D.Desk.asked c.args.desk.now c.serve_script-end.new.desk
    (g.S.Source.left c.args.source.now) (g.S.Source.left c.serve_script-end.new.source) t (Some halts.LongScript) []) (b.2 text there)
    (too-long g.D.Desk.size g.D.Desk.image g.D.Desk.may_leave g.D.Desk.moment g.D.Desk.reach g.D.Desk.said g.D.Desk.asked c.reads_as_settled.ensures.read c.reads_as_settled.ensures.crash
    c.args.desk.now c.serve_script-end.new.desk c.serve_script-end.new.session.exec c.in-Ok.session.exec.program c.serve_script-end.ensures.program b.0 b.1 b.3
    (g.S.Source.left c.args.source.now) (g.S.Source.left c.serve_script-end.new.source)
    (λ script is. c.serve_script-end.ensures.long c.args.desk.now b.0 b.1 [] script b.4 is at)))

-- ---- how it goes

pub returns-in-Ok-end-clause-goes : goal.returns-in-Ok-end-clause-goes
returns-in-Ok-end-clause-goes g c = λ text image script h there is left history has.
    let b = c.in-Ok.ensures.begins in
    carry (Whole g.D.Desk.image g.D.Desk.may_leave g.D.Desk.moment g.D.Desk.reach g.D.Desk.said g.D.Desk.asked c.args.desk.now c.serve_script-end.new.desk (script_lines script)) text b.0 h b.1 (b.2 text there)
    (same-history c.one_history.ensures (g.D.Desk.image c.args.desk.now) image b.1 h b.3.history is history)
    (goes-all g.D.Desk.size g.D.Desk.image g.D.Desk.may_leave g.D.Desk.moment g.D.Desk.reach g.D.Desk.said g.D.Desk.asked c.reads_as_settled.ensures.read c.reads_as_settled.ensures.crash
    c.args.desk.now c.serve_script-end.new.desk c.serve_script-end.new.session.exec c.in-Ok.session.exec.program c.serve_script-end.ensures.program b.0 b.1 b.3
    (script_lines script) (c.in-Ok-end.ensures.serves c.args.desk.now b.0 b.1 [] script b.4 left).1)

pub returns-in-Err-Disk-clause-goes : goal.returns-in-Err-Disk-clause-goes
returns-in-Err-Disk-clause-goes g c = λ text image script h there is left history has.
    let b = c.in-Ok.ensures.begins in
    inr (carry (Part g.D.Desk.image g.D.Desk.may_leave g.D.Desk.moment g.D.Desk.reach g.D.Desk.said g.D.Desk.asked c.args.desk.now c.serve_script-end.new.desk (script_lines script)) text b.0 h b.1 (b.2 text there)
    (same-history c.one_history.ensures (g.D.Desk.image c.args.desk.now) image b.1 h b.3.history is history)
    (goes-within g.D.Desk.size g.D.Desk.image g.D.Desk.may_leave g.D.Desk.moment g.D.Desk.reach g.D.Desk.said g.D.Desk.asked c.reads_as_settled.ensures.read c.reads_as_settled.ensures.crash
    c.args.desk.now c.serve_script-end.new.desk c.serve_script-end.new.session.exec c.in-Ok.session.exec.program c.serve_script-end.ensures.program b.0 b.1 b.3
    c.serve_script-end.result c.in-Err-Disk.field-0 c.in-Err-Disk.is script (c.serve_script-end.ensures.stops c.args.desk.now b.0 b.1 [] script b.4 left)))

pub returns-in-Err-Memory-clause-goes : goal.returns-in-Err-Memory-clause-goes
returns-in-Err-Memory-clause-goes g c = λ text image script h there is left history has.
    let b = c.in-Ok.ensures.begins in
    inr (inr (carry (Part g.D.Desk.image g.D.Desk.may_leave g.D.Desk.moment g.D.Desk.reach g.D.Desk.said g.D.Desk.asked c.args.desk.now c.serve_script-end.new.desk (script_lines script)) text b.0 h b.1 (b.2 text there)
    (same-history c.one_history.ensures (g.D.Desk.image c.args.desk.now) image b.1 h b.3.history is history)
    (goes-within g.D.Desk.size g.D.Desk.image g.D.Desk.may_leave g.D.Desk.moment g.D.Desk.reach g.D.Desk.said g.D.Desk.asked c.reads_as_settled.ensures.read c.reads_as_settled.ensures.crash
    c.args.desk.now c.serve_script-end.new.desk c.serve_script-end.new.session.exec c.in-Ok.session.exec.program c.serve_script-end.ensures.program b.0 b.1 b.3
    c.serve_script-end.result c.in-Err-Memory.field-0 c.in-Err-Memory.is script (c.serve_script-end.ensures.stops c.args.desk.now b.0 b.1 [] script b.4 left))))

pub returns-in-Err-Say-clause-goes : goal.returns-in-Err-Say-clause-goes
returns-in-Err-Say-clause-goes g c = λ text image script h there is left history has.
    let b = c.in-Ok.ensures.begins in
    carry (Failed g.D.Desk.image g.D.Desk.may_leave g.D.Desk.moment g.D.Desk.reach g.D.Desk.said g.D.Desk.asked c.args.desk.now c.serve_script-end.new.desk script) text b.0 h b.1 (b.2 text there)
    (same-history c.one_history.ensures (g.D.Desk.image c.args.desk.now) image b.1 h b.3.history is history)
    (goes-failed g.D.Desk.size g.D.Desk.image g.D.Desk.may_leave g.D.Desk.moment g.D.Desk.reach g.D.Desk.said g.D.Desk.asked c.reads_as_settled.ensures.read c.reads_as_settled.ensures.crash
    c.args.desk.now c.serve_script-end.new.desk c.serve_script-end.new.session.exec c.in-Ok.session.exec.program c.serve_script-end.ensures.program b.0 b.1 b.3
    script (c.serve_script-end.ensures.say_whole c.args.desk.now b.0 b.1 [] script b.4 left (search rules)))

pub returns-in-Err-Source-clause-goes : goal.returns-in-Err-Source-clause-goes
returns-in-Err-Source-clause-goes g c = λ text image script h there is left history has.
    let b = c.in-Ok.ensures.begins in
    carry (Part g.D.Desk.image g.D.Desk.may_leave g.D.Desk.moment g.D.Desk.reach g.D.Desk.said g.D.Desk.asked c.args.desk.now c.serve_script-end.new.desk (script_lines script)) text b.0 h b.1 (b.2 text there)
    (same-history c.one_history.ensures (g.D.Desk.image c.args.desk.now) image b.1 h b.3.history is history)
    (goes-within g.D.Desk.size g.D.Desk.image g.D.Desk.may_leave g.D.Desk.moment g.D.Desk.reach g.D.Desk.said g.D.Desk.asked c.reads_as_settled.ensures.read c.reads_as_settled.ensures.crash
    c.args.desk.now c.serve_script-end.new.desk c.serve_script-end.new.session.exec c.in-Ok.session.exec.program c.serve_script-end.ensures.program b.0 b.1 b.3
    c.serve_script-end.result c.in-Err-Source.field-0 c.in-Err-Source.is script (c.serve_script-end.ensures.stops c.args.desk.now b.0 b.1 [] script b.4 left))

pub returns-in-Err-TooLong-clause-goes : goal.returns-in-Err-TooLong-clause-goes
returns-in-Err-TooLong-clause-goes g c = λ text image script h there is left history has.
    let b = c.in-Ok.ensures.begins in
    let at : ◌≡◌ {A = Result (Unit {0}) ScriptStop} c.serve_script-end.result (Err stops.TooLong) = search rules in
    carry (CutOff g.D.Desk.image g.D.Desk.may_leave g.D.Desk.moment g.D.Desk.reach g.D.Desk.said g.D.Desk.asked c.args.desk.now c.serve_script-end.new.desk script) text b.0 h b.1 (b.2 text there)
    (same-history c.one_history.ensures (g.D.Desk.image c.args.desk.now) image b.1 h b.3.history is history)
    (goes-cut g.D.Desk.size g.D.Desk.image g.D.Desk.may_leave g.D.Desk.moment g.D.Desk.reach g.D.Desk.said g.D.Desk.asked c.reads_as_settled.ensures.read c.reads_as_settled.ensures.crash
    c.args.desk.now c.serve_script-end.new.desk c.serve_script-end.new.session.exec c.in-Ok.session.exec.program c.serve_script-end.ensures.program b.0 b.1 b.3
    script (c.serve_script-end.ensures.long c.args.desk.now b.0 b.1 [] script b.4 left at))
