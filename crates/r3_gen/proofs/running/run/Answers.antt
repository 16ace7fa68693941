use Rattle.std.proofs.Common.{◌∙◌, inr, ap, subst}
use Rattle.std.specs.Prelude.{Err}
use Rattle.r3_model.specs.Functions.{language_of}
use Rattle.r3_model.specs.Generator.{generated}
use Rattle.r3_model.specs.Language.{Language}
use Rattle.r3_recover.specs.Opened.{IsHalted}
use Rattle.r3_recover.specs.declared.ends.StartFault.{StartFault}
use Rattle.r3_serve.specs.Served.{Quiet}
use Rattle.r3_serve.specs.declared.fault.ServeFault.{ServeFault}
use Rattle.r3_gen.specs.Ran.{Ran, SummaryFailed}
use Rattle.r3_gen.proofs.Starting.{start_of}
use Rattle.r3_gen.proofs.running.run.Goals as goal

pub returns-in-Err-clause-opens : goal.returns-in-Err-clause-opens
returns-in-Err-clause-opens g c = λ h image told is has fault same.
    subst (λ (f : StartFault). IsHalted f) (ap (λ r. start_of c.in-Err.fault r) same) (c.in-Err.ensures.opens h image told is has)

pub run_opened-requires-clause-served : goal.run_opened-requires-clause-served
run_opened-requires-clause-served g c =
    let o = c.in-Ok.ensures.serves Quiet in
    (c.args.desk.now, c.args.text.now, o.0, o.3)

pub returns-in-Ok-run_opened-clause-runs : goal.returns-in-Ok-run_opened-clause-runs
returns-in-Ok-run_opened-clause-runs g c =
    let o = c.in-Ok.ensures.serves Quiet in (
      o.0,
      o.1,
      o.2,
      subst (λ (P : Language). Ran g.D.Desk.image g.D.Desk.moment g.D.Desk.reach g.D.Desk.said g.D.Desk.asked c.args.desk.now c.run_opened.new.desk P c.args.text.now o.0 (generated c.args.number c.args.count) c.args.count)
          (ap (λ is. language_of is) c.in-Ok.ensures.program)
          (c.in-Ok-run_opened.ensures.runs c.args.desk.now c.args.text.now o.0 o.3),
    )

pub returns-in-Err-Disk-clause-stops : goal.returns-in-Err-Disk-clause-stops
returns-in-Err-Disk-clause-stops g c =
    let o = c.in-Ok.ensures.serves Quiet in
    inr (
      o.0,
      o.1,
      o.2,
      c.run_opened.new.session.exec,
      c.run_opened.ensures.program ∙ c.in-Ok.ensures.program,
      c.in-Err-Disk.ensures.stops c.args.desk.now c.args.text.now o.0 o.3,
    )

pub returns-in-Err-Memory-clause-stops : goal.returns-in-Err-Memory-clause-stops
returns-in-Err-Memory-clause-stops g c =
    let o = c.in-Ok.ensures.serves Quiet in
    inr (
      o.0,
      o.1,
      o.2,
      c.run_opened.new.session.exec,
      c.run_opened.ensures.program ∙ c.in-Ok.ensures.program,
      c.in-Err-Memory.ensures.stops c.args.desk.now c.args.text.now o.0 o.3,
    )

pub returns-clause-stops : goal.returns-clause-stops
returns-clause-stops g c =
    let o = c.in-Ok.ensures.serves Quiet in
    inr (
      o.0,
      o.1,
      o.2,
      c.run_opened.new.session.exec,
      c.run_opened.ensures.program ∙ c.in-Ok.ensures.program,
      c.in-Err-Say.ensures.stops c.args.desk.now c.args.text.now o.0 o.3,
    )

pub returns-clause-say_whole : goal.returns-clause-say_whole
returns-clause-say_whole g c = λ _.
    let o = c.in-Ok.ensures.serves Quiet in (
      o.0,
      o.1,
      o.2,
      subst (λ (P : Language). SummaryFailed g.D.Desk.image g.D.Desk.moment g.D.Desk.reach g.D.Desk.said g.D.Desk.asked c.args.desk.now c.run_opened.new.desk P c.args.text.now o.0 (generated c.args.number c.args.count) c.args.count)
          (ap (λ is. language_of is) c.in-Ok.ensures.program)
          (c.in-Err-Say.ensures.say_whole c.args.desk.now c.args.text.now o.0 o.3 (ap (λ (f : ServeFault). Err f) c.in-Err-Say.field-0-is)),
    )

pub returns-in-Ok-run_opened-clause-alone : goal.returns-in-Ok-run_opened-clause-alone
returns-in-Ok-run_opened-clause-alone g c = λ i told none.
    let o = c.in-Ok.ensures.serves Quiet in
    absurd (none o.0 (o.1 i told) o.2)

pub returns-in-Err-Disk-clause-alone : goal.returns-in-Err-Disk-clause-alone
returns-in-Err-Disk-clause-alone g c = λ i told none.
    let o = c.in-Ok.ensures.serves Quiet in
    absurd (none o.0 (o.1 i told) o.2)

pub returns-in-Err-Memory-clause-alone : goal.returns-in-Err-Memory-clause-alone
returns-in-Err-Memory-clause-alone g c = λ i told none.
    let o = c.in-Ok.ensures.serves Quiet in
    absurd (none o.0 (o.1 i told) o.2)

pub returns-clause-alone : goal.returns-clause-alone
returns-clause-alone g c = λ i told none.
    let o = c.in-Ok.ensures.serves Quiet in
    absurd (none o.0 (o.1 i told) o.2)
