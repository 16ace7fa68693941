use Rattle.std.proofs.Common.{◌⊎◌, inl, inr, ⊎_elim, ℕ, [], Some, None, refl, sym, ap, ◌∙◌, subst}
use Rattle.std.specs.Prelude.{Result, Err, ◌≡◌}
use Rattle.r3_desk.specs.Causes.{Rose}
use Rattle.r3_top.specs.declared.halt.Halt.{Halt}
use Rattle.r3_top.specs.declared.halt.Halt.TheVariants as halts
use Rattle.r3_words.specs.Forms.{gen}
use Rattle.r3_gen.specs.declared.bank.TheConstants.{BANK}
use Rattle.r3_top.specs.Going.{RunGoes, RecoverGoes, GenGoes, CheckGoes}
use Rattle.r3_top.proofs.Closing.{run-ends, recover-ends, gen-ends, run-goes, recover-goes, gen-goes, check-goes, store-ends, script-end}
use Rattle.r3_top.proofs.Causing.{functions-cause, store-cause, program-cause, long-cause, disk-cause, input-cause, no-form, err-same, ok-halt, file-text, completes}
use Rattle.r3_top.proofs.Standing.{cause-told, told-done, told-halted, known, only-disk, only-files, only-script}
use Rattle.r3_top.proofs.Ordering.{own-status, silent-same, at-once, usage-at-once, neither-from, say-tells, fails-to-say}
use Rattle.r3_top.proofs.Unread.{not-input, not-long}
use Rattle.r3_top.proofs.program.top.Goals as goal

pub returns-in-Ok-clause-recovers : goal.returns-in-Ok-clause-recovers
returns-in-Ok-clause-recovers g c = λ functions text turns at there. ⊎_elim (λ b. absurd b) (λ came. inr (None, refl, came)) (c.in-Ok.ensures.recovers functions text turns at there)

pub returns-in-Err-clause-runs : goal.returns-in-Err-clause-runs
returns-in-Err-clause-runs g c = λ functions text at there.
    run-ends g.D.Desk.image g.D.Desk.may_leave g.D.Desk.moment g.D.Desk.reach g.D.Desk.said g.D.Desk.asked c.args.desk.now c.command.new.desk c.end.new.desk c.end.result
    (g.S.Source.left c.args.script.now) (g.S.Source.left c.command.new.script) text c.in-Err.halt c.end.ensures.closes (c.in-Err.ensures.runs functions text at there)

pub returns-in-Err-clause-recovers : goal.returns-in-Err-clause-recovers
returns-in-Err-clause-recovers g c = λ functions text turns at there.
    recover-ends g.D.Desk.image g.D.Desk.may_leave g.D.Desk.moment g.D.Desk.reach g.D.Desk.said g.D.Desk.asked c.args.desk.now c.command.new.desk c.end.new.desk c.end.result
    turns text c.in-Err.halt c.end.ensures.closes (c.in-Err.ensures.recovers functions text turns at there)

pub returns-in-Ok-clause-run_goes : goal.returns-in-Ok-clause-run_goes
returns-in-Ok-clause-run_goes g c = λ functions text image lines h at there is left history has. (None, [], (refl, refl), c.in-Ok.ensures.run_goes functions text image lines h at there is left history has)

pub returns-in-Err-clause-run_goes : goal.returns-in-Err-clause-run_goes
returns-in-Err-clause-run_goes g c = λ functions text image lines h at there is left history has.
    run-goes g.D.Desk.image g.D.Desk.may_leave g.D.Desk.moment g.D.Desk.reach g.D.Desk.said g.D.Desk.asked c.args.desk.now c.command.new.desk c.end.new.desk c.end.result
    text h lines c.in-Err.halt c.end.ensures.closes (c.in-Err.ensures.run_goes functions text image lines h at there is left history has)

pub returns-in-Ok-clause-recover_goes : goal.returns-in-Ok-clause-recover_goes
returns-in-Ok-clause-recover_goes g c = λ functions text image turns h at there is history has. (None, [], (refl, refl), c.in-Ok.ensures.recover_goes functions text image turns h at there is history has)

pub returns-in-Err-clause-recover_goes : goal.returns-in-Err-clause-recover_goes
returns-in-Err-clause-recover_goes g c = λ functions text image turns h at there is history has.
    recover-goes g.D.Desk.image g.D.Desk.may_leave g.D.Desk.moment g.D.Desk.reach g.D.Desk.said g.D.Desk.asked c.args.desk.now c.command.new.desk c.end.new.desk c.end.result
    text h turns c.in-Err.halt c.end.ensures.closes (c.in-Err.ensures.recover_goes functions text image turns h at there is history has)

pub returns-in-Err-clause-completes : goal.returns-in-Err-clause-completes
returns-in-Err-clause-completes g c = λ form path text at file there taken store script disk say source files.
    let E : Halt → Result (Unit {0}) Halt = λ (h : Halt). Err h in
    let rose-disk : Rose (g.D.Desk.disk_faults c.args.desk.now) (g.D.Desk.disk_faults c.command.new.desk) → Rose (g.D.Desk.disk_faults c.args.desk.now) (g.D.Desk.disk_faults c.end.new.desk) =
    λ r. subst (λ (n : ℕ). Rose (g.D.Desk.disk_faults c.args.desk.now) n) (sym c.end.ensures.disk_faults) r in
    completes text (g.D.Desk.image c.args.desk.now) (g.S.Source.left c.args.script.now) form c.end.result c.in-Err.halt c.end.ensures.status (c.in-Err.ensures.causes form text at (file-text (g.F.Shelf.text_of c.args.shelf.now) BANK.now form path text file there))
    taken store script
    (λ usage. no-form _ form at (c.in-Err.ensures.usage (ap E usage)))
    (λ four. disk (rose-disk (c.in-Err.ensures.disk (ap E (disk-cause c.end.result c.in-Err.halt c.end.ensures.status four)))))
    (λ five. say (⊎_elim
    (λ said. subst (λ (n : ℕ). Rose (g.D.Desk.say_faults c.args.desk.now) n) (sym said.1) (c.in-Err.ensures.say (ap E said.0)))
    (λ last. subst (λ (n : ℕ). Rose n (g.D.Desk.say_faults c.end.new.desk)) (c.in-Err.ensures.say_kept (λ e. last.0 (err-same c.in-Err.halt halts.Say e))) last.1)
    (c.end.ensures.say five)))
    (λ six. ⊎_elim (λ f. files (c.in-Err.ensures.files (ap E f)).0) (λ s. source (c.in-Err.ensures.script (ap E s))) (input-cause c.end.result c.in-Err.halt c.end.ensures.status six))

pub returns-in-Err-clause-store : goal.returns-in-Err-clause-store
returns-in-Err-clause-store g c = λ form text at there.
    store-cause form text (g.D.Desk.image c.args.desk.now) (g.S.Source.left c.args.script.now) c.end.result c.in-Err.halt c.end.ensures.status (c.in-Err.ensures.causes form text at there)

pub returns-in-Err-clause-program : goal.returns-in-Err-clause-program
returns-in-Err-clause-program g c = λ form text at there.
    program-cause form text (g.D.Desk.image c.args.desk.now) (g.S.Source.left c.args.script.now) c.end.result c.in-Err.halt c.end.ensures.status (c.in-Err.ensures.causes form text at there)

pub returns-in-Err-clause-long : goal.returns-in-Err-clause-long
returns-in-Err-clause-long g c = λ form text at there.
    long-cause form text (g.D.Desk.image c.args.desk.now) (g.S.Source.left c.args.script.now) c.end.result c.in-Err.halt c.end.ensures.status (c.in-Err.ensures.causes form text at there)

pub returns-in-Ok-clause-generates : goal.returns-in-Ok-clause-generates
returns-in-Ok-clause-generates g c = λ number count at. ⊎_elim (λ b. absurd b) (λ came. inr (None, refl, came)) (c.in-Ok.ensures.generates number count at)

pub returns-in-Err-clause-generates : goal.returns-in-Err-clause-generates
returns-in-Err-clause-generates g c = λ number count at.
    gen-ends g.D.Desk.image g.D.Desk.may_leave g.D.Desk.moment g.D.Desk.reach g.D.Desk.said g.D.Desk.asked c.args.desk.now c.command.new.desk c.end.new.desk c.end.result
    number count BANK.now c.in-Err.halt c.end.ensures.closes (c.in-Err.ensures.generates number count at)

pub returns-in-Ok-clause-gen_goes : goal.returns-in-Ok-clause-gen_goes
returns-in-Ok-clause-gen_goes g c = λ number count image h at is history has. (None, [], (refl, refl), c.in-Ok.ensures.gen_goes number count image h at is history has)

pub returns-in-Err-clause-gen_goes : goal.returns-in-Err-clause-gen_goes
returns-in-Err-clause-gen_goes g c = λ number count image h at is history has.
    gen-goes g.D.Desk.image g.D.Desk.may_leave g.D.Desk.moment g.D.Desk.reach g.D.Desk.said g.D.Desk.asked c.args.desk.now c.command.new.desk c.end.new.desk c.end.result
    BANK.now h number count c.in-Err.halt c.end.ensures.closes (c.in-Err.ensures.gen_goes number count image h at is history has)

pub returns-in-Err-clause-gen_completes : goal.returns-in-Err-clause-gen_completes
returns-in-Err-clause-gen_completes g c = λ number count at taken ready disk say.
    let E : Halt → Result (Unit {0}) Halt = λ (h : Halt). Err h in
    let rose-disk : Rose (g.D.Desk.disk_faults c.args.desk.now) (g.D.Desk.disk_faults c.command.new.desk) → Rose (g.D.Desk.disk_faults c.args.desk.now) (g.D.Desk.disk_faults c.end.new.desk) =
    λ r. subst (λ (n : ℕ). Rose (g.D.Desk.disk_faults c.args.desk.now) n) (sym c.end.ensures.disk_faults) r in
    completes BANK.now (g.D.Desk.image c.args.desk.now) (g.S.Source.left c.args.script.now) (gen number count) c.end.result c.in-Err.halt c.end.ensures.status (c.in-Err.ensures.causes (gen number count) BANK.now at refl)
    taken ready tt
    (λ usage. no-form _ (gen number count) at (c.in-Err.ensures.usage (ap E usage)))
    (λ four. disk (rose-disk (c.in-Err.ensures.disk (ap E (disk-cause c.end.result c.in-Err.halt c.end.ensures.status four)))))
    (λ five. say (⊎_elim
    (λ said. subst (λ (n : ℕ). Rose (g.D.Desk.say_faults c.args.desk.now) n) (sym said.1) (c.in-Err.ensures.say (ap E said.0)))
    (λ last. subst (λ (n : ℕ). Rose n (g.D.Desk.say_faults c.end.new.desk)) (c.in-Err.ensures.say_kept (λ e. last.0 (err-same c.in-Err.halt halts.Say e))) last.1)
    (c.end.ensures.say five)))
    (not-input c.end.result c.in-Err.halt c.end.ensures.status (c.in-Err.ensures.gen_reads_none number count at).2)

pub returns-in-Err-clause-gen_reads_none : goal.returns-in-Err-clause-gen_reads_none
returns-in-Err-clause-gen_reads_none g c = λ number count at.
    let r = c.in-Err.ensures.gen_reads_none number count at in
    (r.0, r.1, not-input c.end.result c.in-Err.halt c.end.ensures.status r.2, not-long c.end.result c.in-Err.halt c.end.ensures.status r.2)

pub returns-in-Err-clause-functions : goal.returns-in-Err-clause-functions
returns-in-Err-clause-functions g c = λ form text at there.
    functions-cause form text (g.D.Desk.image c.args.desk.now) (g.S.Source.left c.args.script.now) c.end.result c.in-Err.halt c.end.ensures.status (c.in-Err.ensures.causes form text at there)

-- ---- the order

pub returns-in-Err-clause-words_first : goal.returns-in-Err-clause-words_first
returns-in-Err-clause-words_first g c = λ none.
    let x = c.in-Err.ensures.words_first none in (
      usage-at-once g.D.Desk.image g.D.Desk.may_leave g.D.Desk.moment g.D.Desk.reach g.D.Desk.said g.D.Desk.asked c.args.desk.now c.command.new.desk c.end.new.desk c.end.result c.in-Err.halt x.0
          (⊎_elim (λ u. inl (err-same c.in-Err.halt halts.Usage u)) (λ m. inr (err-same c.in-Err.halt halts.Memory m)) x.3) c.end.ensures.own c.end.ensures.closes,
      neither-from g.D.Desk.size g.D.Desk.syncs g.D.Desk.disk_faults g.D.Desk.ask_faults c.args.desk.now c.command.new.desk c.end.new.desk x.0 c.end.ensures.neither,
      x.1,
      x.2,
    )

pub returns-in-Ok-clause-shelf_first : goal.returns-in-Ok-clause-shelf_first
returns-in-Ok-clause-shelf_first g c = λ changed. absurd (changed (c.in-Ok.ensures.files_kept (λ e. ok-halt e)))

pub returns-in-Err-clause-shelf_first : goal.returns-in-Err-clause-shelf_first
returns-in-Err-clause-shelf_first g c = λ changed.
    let E : Halt → Result (Unit {0}) Halt = λ (h : Halt). Err h in
    let is : c.in-Err.halt ≡ halts.Files = only-files c.in-Err.halt (λ none. c.in-Err.ensures.files_kept (λ e. none (err-same c.in-Err.halt halts.Files e))) changed in
    let x = c.in-Err.ensures.files (ap E is) in (
      own-status c.end.result c.in-Err.halt halts.Files c.end.ensures.own is (λ l. l),
      silent-same g.D.Desk.image g.D.Desk.may_leave g.D.Desk.moment g.D.Desk.reach g.D.Desk.said g.D.Desk.asked c.args.desk.now c.command.new.desk c.end.new.desk c.end.result c.in-Err.halt halts.Files is (λ l. l) c.end.ensures.closes ∙ x.1,
      x.2,
    )

pub returns-in-Ok-clause-file_first : goal.returns-in-Ok-clause-file_first
returns-in-Ok-clause-file_first g c = λ form text at there none. absurd (c.in-Ok.ensures.file_first form text at there none).2

pub returns-in-Err-clause-file_first : goal.returns-in-Err-clause-file_first
returns-in-Err-clause-file_first g c = λ form text at there none.
    let x = c.in-Err.ensures.file_first form text at there none in (
      c.in-Err.halt,
      x.2,
      at-once g.D.Desk.image g.D.Desk.may_leave g.D.Desk.moment g.D.Desk.reach g.D.Desk.said g.D.Desk.asked c.args.desk.now c.command.new.desk c.end.new.desk c.end.result c.in-Err.halt x.0 c.end.ensures.closes,
      neither-from g.D.Desk.size g.D.Desk.syncs g.D.Desk.disk_faults g.D.Desk.ask_faults c.args.desk.now c.command.new.desk c.end.new.desk x.0 c.end.ensures.neither,
      x.1,
    )

pub returns-in-Ok-clause-refused_first : goal.returns-in-Ok-clause-refused_first
returns-in-Ok-clause-refused_first g c = λ form text image at there opens is none. absurd (c.in-Ok.ensures.store_first form text image at there opens is none).1.0.0

pub returns-in-Err-clause-refused_first : goal.returns-in-Err-clause-refused_first
returns-in-Err-clause-refused_first g c = λ form text image at there opens is none.
    let x = c.in-Err.ensures.store_first form text image at there opens is none in
    (x.0, store-ends g.D.Desk.image g.D.Desk.may_leave g.D.Desk.moment g.D.Desk.reach g.D.Desk.said g.D.Desk.asked g.D.Desk.syncs c.args.desk.now c.command.new.desk c.end.new.desk c.end.ensures.neither.no_sync c.end.result text c.in-Err.halt c.end.ensures.closes x.1)

-- ---- the statuses

pub returns-in-Err-clause-known : goal.returns-in-Err-clause-known
returns-in-Err-clause-known g c = known c.end.result c.in-Err.halt c.end.ensures.status

pub returns-in-Ok-clause-statuses : goal.returns-in-Ok-clause-statuses
returns-in-Ok-clause-statuses g c = λ form text image lines at there is left.
    told-done form text image lines
    (Rose (g.D.Desk.disk_faults c.args.desk.now) (g.D.Desk.disk_faults c.command.new.desk)) (Rose (g.D.Desk.say_faults c.args.desk.now) (g.D.Desk.say_faults c.command.new.desk))
    (Rose (g.S.Source.faults c.args.script.now) (g.S.Source.faults c.command.new.script) ⊎ Rose (g.F.Shelf.faults c.args.shelf.now) (g.F.Shelf.faults c.command.new.shelf))
    (cause-told form text (g.D.Desk.image c.args.desk.now) (g.S.Source.left c.args.script.now) image lines None is left (c.in-Ok.ensures.causes form text at there))

pub returns-in-Err-clause-statuses : goal.returns-in-Err-clause-statuses
returns-in-Err-clause-statuses g c = λ form text image lines at there is left.
    let E : Halt → Result (Unit {0}) Halt = λ (h : Halt). Err h in
    let rose-disk : Rose (g.D.Desk.disk_faults c.args.desk.now) (g.D.Desk.disk_faults c.command.new.desk) → Rose (g.D.Desk.disk_faults c.args.desk.now) (g.D.Desk.disk_faults c.end.new.desk) =
    λ r. subst (λ (n : ℕ). Rose (g.D.Desk.disk_faults c.args.desk.now) n) (sym c.end.ensures.disk_faults) r in
    told-halted form text image lines (Rose (g.D.Desk.disk_faults c.args.desk.now) (g.D.Desk.disk_faults c.end.new.desk)) (Rose (g.D.Desk.say_faults c.args.desk.now) (g.D.Desk.say_faults c.end.new.desk))
    (Rose (g.S.Source.faults c.args.script.now) (g.S.Source.faults c.command.new.script) ⊎ Rose (g.F.Shelf.faults c.args.shelf.now) (g.F.Shelf.faults c.command.new.shelf)) c.end.result c.in-Err.halt c.end.ensures.status
    (λ usage. no-form _ form at (c.in-Err.ensures.usage (ap E usage)))
    (cause-told form text (g.D.Desk.image c.args.desk.now) (g.S.Source.left c.args.script.now) image lines (Some c.in-Err.halt) is left (c.in-Err.ensures.causes form text at there))
    (λ four. rose-disk (c.in-Err.ensures.disk (ap E (disk-cause c.end.result c.in-Err.halt c.end.ensures.status four))))
    (λ five. (⊎_elim
    (λ said. subst (λ (n : ℕ). Rose (g.D.Desk.say_faults c.args.desk.now) n) (sym said.1) (c.in-Err.ensures.say (ap E said.0)))
    (λ last. subst (λ (n : ℕ). Rose n (g.D.Desk.say_faults c.end.new.desk)) (c.in-Err.ensures.say_kept (λ e. last.0 (err-same c.in-Err.halt halts.Say e))) last.1)
    (c.end.ensures.say five)))
    (λ six. ⊎_elim (λ f. inr (c.in-Err.ensures.files (ap E f)).0) (λ s. inl (c.in-Err.ensures.script (ap E s))) (input-cause c.end.result c.in-Err.halt c.end.ensures.status six))

pub returns-in-Ok-clause-failures : goal.returns-in-Ok-clause-failures
returns-in-Ok-clause-failures g c = (
  λ changed. absurd (changed (c.in-Ok.ensures.disk_kept (λ e. ok-halt e))),
  λ changed. absurd (changed (c.in-Ok.ensures.say_kept (λ e. ok-halt e))),
  λ changed. absurd (changed (c.in-Ok.ensures.script_kept (λ e. ok-halt e))),
)

pub returns-in-Err-clause-failures : goal.returns-in-Err-clause-failures
returns-in-Err-clause-failures g c = (
  λ changed. own-status c.end.result c.in-Err.halt halts.Disk c.end.ensures.own
      (only-disk c.in-Err.halt (λ none. c.end.ensures.disk_faults ∙ c.in-Err.ensures.disk_kept (λ e. none (err-same c.in-Err.halt halts.Disk e))) changed) (λ l. l),
  λ changed. say-tells c.end.result (g.D.Desk.say_faults c.args.desk.now) (g.D.Desk.say_faults c.command.new.desk) (g.D.Desk.say_faults c.end.new.desk) c.in-Err.halt
      c.end.ensures.status c.end.ensures.own (λ none. c.in-Err.ensures.say_kept (λ e. none (err-same c.in-Err.halt halts.Say e))) c.end.ensures.say_kept changed,
  λ changed. own-status c.end.result c.in-Err.halt halts.Script c.end.ensures.own
      (only-script c.in-Err.halt (λ none. c.in-Err.ensures.script_kept (λ e. none (err-same c.in-Err.halt halts.Script e))) changed) (λ l. l),
)

pub returns-in-Err-clause-input : goal.returns-in-Err-clause-input
returns-in-Err-clause-input g c = λ six.
    let E : Halt → Result (Unit {0}) Halt = λ (h : Halt). Err h in
    ⊎_elim (λ f. inr (c.in-Err.ensures.files (ap E f)).0) (λ s. inl (c.in-Err.ensures.script (ap E s))) (input-cause c.end.result c.in-Err.halt c.end.ensures.status six)

pub returns-in-Err-clause-run_say_whole : goal.returns-in-Err-clause-run_say_whole
returns-in-Err-clause-run_say_whole g c = λ functions text image lines h at there is left history has five.
    fails-to-say (RunGoes g.D.Desk.image g.D.Desk.may_leave g.D.Desk.moment g.D.Desk.reach g.D.Desk.said g.D.Desk.asked c.args.desk.now c.end.new.desk text h lines) c.end.result five
    (run-goes g.D.Desk.image g.D.Desk.may_leave g.D.Desk.moment g.D.Desk.reach g.D.Desk.said g.D.Desk.asked c.args.desk.now c.command.new.desk c.end.new.desk c.end.result
    text h lines c.in-Err.halt c.end.ensures.closes (c.in-Err.ensures.run_goes functions text image lines h at there is left history has))

pub returns-in-Err-clause-recover_say_whole : goal.returns-in-Err-clause-recover_say_whole
returns-in-Err-clause-recover_say_whole g c = λ functions text image turns h at there is history has five.
    fails-to-say (RecoverGoes g.D.Desk.image g.D.Desk.may_leave g.D.Desk.moment g.D.Desk.reach g.D.Desk.said g.D.Desk.asked c.args.desk.now c.end.new.desk text h turns) c.end.result five
    (recover-goes g.D.Desk.image g.D.Desk.may_leave g.D.Desk.moment g.D.Desk.reach g.D.Desk.said g.D.Desk.asked c.args.desk.now c.command.new.desk c.end.new.desk c.end.result
    text h turns c.in-Err.halt c.end.ensures.closes (c.in-Err.ensures.recover_goes functions text image turns h at there is history has))

pub returns-in-Err-clause-gen_say_whole : goal.returns-in-Err-clause-gen_say_whole
returns-in-Err-clause-gen_say_whole g c = λ number count image h at is history has five.
    fails-to-say (GenGoes g.D.Desk.image g.D.Desk.may_leave g.D.Desk.moment g.D.Desk.reach g.D.Desk.said g.D.Desk.asked c.args.desk.now c.end.new.desk BANK.now h number count) c.end.result five
    (gen-goes g.D.Desk.image g.D.Desk.may_leave g.D.Desk.moment g.D.Desk.reach g.D.Desk.said g.D.Desk.asked c.args.desk.now c.command.new.desk c.end.new.desk c.end.result
    BANK.now h number count c.in-Err.halt c.end.ensures.closes (c.in-Err.ensures.gen_goes number count image h at is history has))

-- ---- a command without a store

pub returns-in-Ok-clause-check_goes : goal.returns-in-Ok-clause-check_goes
returns-in-Ok-clause-check_goes g c = λ functions text at there. (None, [], (refl, refl), c.in-Ok.ensures.check_goes functions text at there)

pub returns-in-Err-clause-check_goes : goal.returns-in-Err-clause-check_goes
returns-in-Err-clause-check_goes g c = λ functions text at there.
    check-goes g.D.Desk.image g.D.Desk.may_leave g.D.Desk.moment g.D.Desk.reach g.D.Desk.said g.D.Desk.asked g.D.Desk.syncs c.args.desk.now c.command.new.desk c.end.new.desk c.end.ensures.neither.no_sync c.end.result
    text c.in-Err.halt c.end.ensures.closes (c.in-Err.ensures.check_goes functions text at there)

pub returns-in-Err-clause-check_say_whole : goal.returns-in-Err-clause-check_say_whole
returns-in-Err-clause-check_say_whole g c = λ functions text at there five.
    fails-to-say (CheckGoes g.D.Desk.image g.D.Desk.may_leave g.D.Desk.moment g.D.Desk.reach g.D.Desk.said g.D.Desk.asked g.D.Desk.syncs c.args.desk.now c.end.new.desk text) c.end.result five
    (check-goes g.D.Desk.image g.D.Desk.may_leave g.D.Desk.moment g.D.Desk.reach g.D.Desk.said g.D.Desk.asked g.D.Desk.syncs c.args.desk.now c.command.new.desk c.end.new.desk c.end.ensures.neither.no_sync c.end.result
    text c.in-Err.halt c.end.ensures.closes (c.in-Err.ensures.check_goes functions text at there))

-- ---- the script has failed

pub returns-in-Ok-clause-script_fails : goal.returns-in-Ok-clause-script_fails
returns-in-Ok-clause-script_fails g c = λ functions text at there changed. absurd (changed (c.in-Ok.ensures.script_kept (λ e. ok-halt e)))

pub returns-in-Err-clause-script_fails : goal.returns-in-Err-clause-script_fails
returns-in-Err-clause-script_fails g c = λ functions text at there changed.
    let is : c.in-Err.halt ≡ halts.Script = only-script c.in-Err.halt (λ none. c.in-Err.ensures.script_kept (λ e. none (err-same c.in-Err.halt halts.Script e))) changed in (
      own-status c.end.result c.in-Err.halt halts.Script c.end.ensures.own is (λ l. l),
      script-end g.D.Desk.image g.D.Desk.may_leave g.D.Desk.moment g.D.Desk.reach g.D.Desk.said g.D.Desk.asked c.args.desk.now c.command.new.desk c.end.new.desk c.end.result
          (g.S.Source.left c.args.script.now) (g.S.Source.left c.command.new.script) text c.in-Err.halt is
          (silent-same g.D.Desk.image g.D.Desk.may_leave g.D.Desk.moment g.D.Desk.reach g.D.Desk.said g.D.Desk.asked c.args.desk.now c.command.new.desk c.end.new.desk c.end.result c.in-Err.halt halts.Script is (λ l. l) c.end.ensures.closes)
          (c.in-Err.ensures.runs functions text at there),
    )

pub returns-in-Err-clause-run_input : goal.returns-in-Err-clause-run_input
returns-in-Err-clause-run_input g c = λ functions text at there six.
    let E : Halt → Result (Unit {0}) Halt = λ (h : Halt). Err h in
    ⊎_elim
    (λ f. let x = c.in-Err.ensures.files (ap E f) in inl (
      x.0,
      silent-same g.D.Desk.image g.D.Desk.may_leave g.D.Desk.moment g.D.Desk.reach g.D.Desk.said g.D.Desk.asked c.args.desk.now c.command.new.desk c.end.new.desk c.end.result c.in-Err.halt halts.Files f (λ l. l) c.end.ensures.closes ∙ x.1,
      x.2,
    ))
    (λ s. inr (
      c.in-Err.ensures.script (ap E s),
      script-end g.D.Desk.image g.D.Desk.may_leave g.D.Desk.moment g.D.Desk.reach g.D.Desk.said g.D.Desk.asked c.args.desk.now c.command.new.desk c.end.new.desk c.end.result
          (g.S.Source.left c.args.script.now) (g.S.Source.left c.command.new.script) text c.in-Err.halt s
          (silent-same g.D.Desk.image g.D.Desk.may_leave g.D.Desk.moment g.D.Desk.reach g.D.Desk.said g.D.Desk.asked c.args.desk.now c.command.new.desk c.end.new.desk c.end.result c.in-Err.halt halts.Script s (λ l. l) c.end.ensures.closes)
          (c.in-Err.ensures.runs functions text at there),
    ))
    (input-cause c.end.result c.in-Err.halt c.end.ensures.status six)
