use Rattle.std.proofs.Common.{rules, ◌≡◌, ◌⊎◌, ℕ, [], map, string_bytes, Option, Some, None, inl, refl, sym, subst}
use Rattle.r3_model.specs.Language.{Text}
use Rattle.r3_gen.specs.declared.bank.TheConstants.{BANK}
use Rattle.r3_words.specs.Forms.{Form, run, recover, check, gen}
use Rattle.r3_top.specs.Commands.{asked_by, functions_text}
use Rattle.r3_top.specs.Statuses.{IsBroken}
use Rattle.r3_top.specs.Causes.{HasCause, IsReady}
use Rattle.r3_top.specs.Closes.{EndsAtStore}
use Rattle.r3_top.specs.Going.{RecoverGoes, GenGoes}
use Rattle.r3_top.specs.Ends.{RecoverComes, GenComes, end_of}
use Rattle.r3_top.proofs.Causing.{no-form, path-same}
use Rattle.r3_top.proofs.Leaving.{unbegun-first, untouched-first}
use Rattle.r3_top.specs.declared.halt.Halt.TheVariants as halts
use Rattle.r3_top.proofs.Checking.{check-stopped}
use Rattle.r3_top.proofs.command.command.Goals as goal

-- ---- there is no memory to read the words

pub returns-in-Err-clause-run_goes : goal.returns-in-Err-clause-run_goes
returns-in-Err-clause-run_goes g c = λ functions text image lines h at there is left history has.
    inl (unbegun-first g.D.Desk.image g.D.Desk.may_leave g.D.Desk.moment g.D.Desk.reach g.D.Desk.said g.D.Desk.asked c.args.desk.now h image
    (g.met.D.Desk.counts_now c.args.desk.now) (g.met.D.Desk.only_now c.args.desk.now) c.requires is history)

pub returns-in-Err-clause-recover_goes : goal.returns-in-Err-clause-recover_goes
returns-in-Err-clause-recover_goes g c = λ functions text image turns h at there is history has.
    inl (unbegun-first g.D.Desk.image g.D.Desk.may_leave g.D.Desk.moment g.D.Desk.reach g.D.Desk.said g.D.Desk.asked c.args.desk.now h image
    (g.met.D.Desk.counts_now c.args.desk.now) (g.met.D.Desk.only_now c.args.desk.now) c.requires is history)

pub returns-in-Err-clause-gen_goes : goal.returns-in-Err-clause-gen_goes
returns-in-Err-clause-gen_goes g c = λ number count image h at is history has.
    inl (unbegun-first g.D.Desk.image g.D.Desk.may_leave g.D.Desk.moment g.D.Desk.reach g.D.Desk.said g.D.Desk.asked c.args.desk.now h image
    (g.met.D.Desk.counts_now c.args.desk.now) (g.met.D.Desk.only_now c.args.desk.now) c.requires is history)

pub returns-in-Err-clause-check_goes : goal.returns-in-Err-clause-check_goes
returns-in-Err-clause-check_goes g c = λ functions text at there.
    check-stopped g.D.Desk.image g.D.Desk.may_leave g.D.Desk.moment g.D.Desk.reach g.D.Desk.said g.D.Desk.asked g.D.Desk.syncs c.args.desk.now
    (g.met.D.Desk.counts_now c.args.desk.now) (g.met.D.Desk.only_now c.args.desk.now) c.requires text halts.Memory tt

pub returns-in-Err-clause-store_first : goal.returns-in-Err-clause-store_first
returns-in-Err-clause-store_first g c = λ form text image at there opens is none. (
  refl,
  (
    (refl, refl),
    untouched-first g.D.Desk.image g.D.Desk.may_leave g.D.Desk.moment g.D.Desk.reach g.D.Desk.said g.D.Desk.asked g.D.Desk.syncs c.args.desk.now (g.met.D.Desk.counts_now c.args.desk.now) (g.met.D.Desk.only_now c.args.desk.now) c.requires,
  ),
)

-- ---- the commands

pub returns-in-Run-clause-run_goes : goal.returns-in-Run-clause-run_goes
returns-in-Run-clause-run_goes g c = λ functions text image lines h at there is left history has.
    let same : c.in-Run.functions.now ≡ functions = search (rules, at) in
    c.run.ensures.goes text image lines h (subst (λ (p : Text). g.F.Shelf.text_of c.args.shelf.now p ≡ Some text) (sym same) there) is left history has

pub returns-in-Recover-clause-recover_goes : goal.returns-in-Recover-clause-recover_goes
returns-in-Recover-clause-recover_goes g c = λ functions text image turns h at there is history has.
    let same : c.in-Recover.functions.now ≡ functions = search (rules, at) in
    let many : c.in-Recover.turns ≡ turns = search (rules, at) in
    subst (λ (n : ℕ). RecoverGoes g.D.Desk.image g.D.Desk.may_leave g.D.Desk.moment g.D.Desk.reach g.D.Desk.said g.D.Desk.asked c.args.desk.now c.recover.new.desk text h n (end_of c.recover.result) []) many
    (c.recover.ensures.goes text image h (subst (λ (p : Text). g.F.Shelf.text_of c.args.shelf.now p ≡ Some text) (sym same) there) is history has)

pub returns-in-Gen-clause-gen_goes : goal.returns-in-Gen-clause-gen_goes
returns-in-Gen-clause-gen_goes g c = λ number count image h at is history has.
    let first : c.in-Gen.number ≡ number = search (rules, at) in
    let many : c.in-Gen.count ≡ count = search (rules, at) in
    subst (λ (n : ℕ). GenGoes g.D.Desk.image g.D.Desk.may_leave g.D.Desk.moment g.D.Desk.reach g.D.Desk.said g.D.Desk.asked c.args.desk.now c.generate.new.desk BANK.now h n count (end_of c.generate.result) []) first
    (subst (λ (n : ℕ). GenGoes g.D.Desk.image g.D.Desk.may_leave g.D.Desk.moment g.D.Desk.reach g.D.Desk.said g.D.Desk.asked c.args.desk.now c.generate.new.desk BANK.now h c.in-Gen.number n (end_of c.generate.result) []) many
    (c.generate.ensures.goes image h is history has))

pub returns-in-Check-clause-check_goes : goal.returns-in-Check-clause-check_goes
returns-in-Check-clause-check_goes g c = λ functions text at there.
    let same : c.in-Check.functions.now ≡ functions = search (rules, at) in
    c.check.ensures.goes text (subst (λ (p : Text). g.F.Shelf.text_of c.args.shelf.now p ≡ Some text) (sym same) there)

pub returns-in-Recover-clause-recovers : goal.returns-in-Recover-clause-recovers
returns-in-Recover-clause-recovers g c = λ functions text turns at there.
    let same : c.in-Recover.functions.now ≡ functions = search (rules, at) in
    let many : c.in-Recover.turns ≡ turns = search (rules, at) in
    subst (λ (n : ℕ). IsBroken (end_of c.recover.result) ⊎ RecoverComes g.D.Desk.image g.D.Desk.may_leave g.D.Desk.moment g.D.Desk.reach g.D.Desk.said g.D.Desk.asked c.args.desk.now c.recover.new.desk n text (end_of c.recover.result) []) many
    (c.recover.ensures.comes text (subst (λ (p : Text). g.F.Shelf.text_of c.args.shelf.now p ≡ Some text) (sym same) there))

pub returns-in-Gen-clause-generates : goal.returns-in-Gen-clause-generates
returns-in-Gen-clause-generates g c = λ number count at.
    let first : c.in-Gen.number ≡ number = search (rules, at) in
    let many : c.in-Gen.count ≡ count = search (rules, at) in
    subst (λ (n : ℕ). IsBroken (end_of c.generate.result) ⊎ GenComes g.D.Desk.image g.D.Desk.may_leave g.D.Desk.moment g.D.Desk.reach g.D.Desk.said g.D.Desk.asked c.args.desk.now c.generate.new.desk n count BANK.now (end_of c.generate.result) []) first
    (subst (λ (n : ℕ). IsBroken (end_of c.generate.result) ⊎ GenComes g.D.Desk.image g.D.Desk.may_leave g.D.Desk.moment g.D.Desk.reach g.D.Desk.said g.D.Desk.asked c.args.desk.now c.generate.new.desk c.in-Gen.number n BANK.now (end_of c.generate.result) []) many
    c.generate.ensures.comes)

-- ---- which command it is

pub returns-in-Run-clause-causes : goal.returns-in-Run-clause-causes
returns-in-Run-clause-causes g c = λ form text at there.
    let same : run c.in-Run.functions.now ≡ form = search (rules, at) in
    subst (λ (f : Form). HasCause f text (g.D.Desk.image c.args.desk.now) (g.S.Source.left c.args.script.now) (end_of c.run.result)) same
    (c.run.ensures.causes text (subst (λ (f : Form). functions_text (g.F.Shelf.text_of c.args.shelf.now) BANK.now f ≡ Some text) (sym same) there))

pub returns-in-Run-clause-store_first : goal.returns-in-Run-clause-store_first
returns-in-Run-clause-store_first g c = λ form text image at there opens is none.
    let same : run c.in-Run.functions.now ≡ form = search (rules, at) in
    c.run.ensures.store_first text image (subst (λ (f : Form). functions_text (g.F.Shelf.text_of c.args.shelf.now) BANK.now f ≡ Some text) (sym same) there) is none

pub returns-in-Recover-clause-causes : goal.returns-in-Recover-clause-causes
returns-in-Recover-clause-causes g c = λ form text at there.
    let same : recover c.in-Recover.functions.now c.in-Recover.turns ≡ form = search (rules, at) in
    subst (λ (f : Form). HasCause f text (g.D.Desk.image c.args.desk.now) (g.S.Source.left c.args.script.now) (end_of c.recover.result)) same
    (c.recover.ensures.causes text (g.S.Source.left c.args.script.now) (subst (λ (f : Form). functions_text (g.F.Shelf.text_of c.args.shelf.now) BANK.now f ≡ Some text) (sym same) there))

pub returns-in-Recover-clause-store_first : goal.returns-in-Recover-clause-store_first
returns-in-Recover-clause-store_first g c = λ form text image at there opens is none.
    let same : recover c.in-Recover.functions.now c.in-Recover.turns ≡ form = search (rules, at) in
    (refl, c.recover.ensures.store_first text image (subst (λ (f : Form). functions_text (g.F.Shelf.text_of c.args.shelf.now) BANK.now f ≡ Some text) (sym same) there) is none)

pub returns-in-Check-clause-causes : goal.returns-in-Check-clause-causes
returns-in-Check-clause-causes g c = λ form text at there.
    let same : check c.in-Check.functions.now ≡ form = search (rules, at) in
    subst (λ (f : Form). HasCause f text (g.D.Desk.image c.args.desk.now) (g.S.Source.left c.args.script.now) (end_of c.check.result)) same
    (c.check.ensures.causes text (g.D.Desk.image c.args.desk.now) (g.S.Source.left c.args.script.now) (subst (λ (f : Form). functions_text (g.F.Shelf.text_of c.args.shelf.now) BANK.now f ≡ Some text) (sym same) there))

pub returns-in-Gen-clause-causes : goal.returns-in-Gen-clause-causes
returns-in-Gen-clause-causes g c = λ form text at there.
    let same : gen c.in-Gen.number c.in-Gen.count ≡ form = search (rules, at) in
    let told : ◌≡◌ {A = Option Text} (Some BANK.now) (Some text) = subst (λ (f : Form). functions_text (g.F.Shelf.text_of c.args.shelf.now) BANK.now f ≡ Some text) (sym same) there in
    subst (λ (f : Form). HasCause f text (g.D.Desk.image c.args.desk.now) (g.S.Source.left c.args.script.now) (end_of c.generate.result)) same
    (subst (λ (t : Text). HasCause (gen c.in-Gen.number c.in-Gen.count) t (g.D.Desk.image c.args.desk.now) (g.S.Source.left c.args.script.now) (end_of c.generate.result)) (path-same BANK.now text told)
    (c.generate.ensures.causes (g.S.Source.left c.args.script.now)))

pub returns-in-Gen-clause-store_first : goal.returns-in-Gen-clause-store_first
returns-in-Gen-clause-store_first g c = λ form text image at there opens is none.
    let same : gen c.in-Gen.number c.in-Gen.count ≡ form = search (rules, at) in
    let told : ◌≡◌ {A = Option Text} (Some BANK.now) (Some text) = subst (λ (f : Form). functions_text (g.F.Shelf.text_of c.args.shelf.now) BANK.now f ≡ Some text) (sym same) there in
    let is_text : BANK.now ≡ text = path-same BANK.now text told in (
      refl,
      subst (λ (t : Text). EndsAtStore g.D.Desk.image g.D.Desk.may_leave g.D.Desk.moment g.D.Desk.reach g.D.Desk.said g.D.Desk.asked g.D.Desk.syncs c.args.desk.now c.generate.new.desk t (end_of c.generate.result) []) is_text
          (c.generate.ensures.store_first image is (λ ready. none (subst (λ (t : Text). IsReady t (Some image)) is_text ready))),
    )

pub returns-in_default-clause-store_first : goal.returns-in_default-clause-store_first
returns-in_default-clause-store_first g c = λ form text image at there opens is none.
    let unasked : asked_by (map string_bytes c.args.words.now) ≡ None = search rules in
    absurd (no-form (asked_by (map string_bytes c.args.words.now)) form at unasked)
