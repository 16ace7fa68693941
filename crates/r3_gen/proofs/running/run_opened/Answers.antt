use Rattle.std.proofs.Common.{◌≡◌, ◌∙◌, inl, inr, refl, ap, [], List, ℕ, take, drop, take-append-drop, append-nil}
use Rattle.r3_desk.specs.Disk.{told_push}
use Rattle.r3_model.specs.Functions.{language_of}
use Rattle.r3_model.specs.Generator.{generated}
use Rattle.r3_exec.specs.Runs.{language}
use Rattle.r3_gen.proofs.Generating.{stops-last}
use Rattle.r3_gen.proofs.Saying.{has-said}
use Rattle.r3_gen.proofs.running.run_opened.Goals as goal

pub summary_of-requires : goal.summary_of-requires
summary_of-requires g c =
    let r = c.requires.served in
    let s = c.in-Ok.ensures.serves r.0 r.1 r.2 [] r.3 in
    (s.after, s.runs.stands)

pub returns-in-Err-summary_of-clause-stops : goal.returns-in-Err-summary_of-clause-stops
returns-in-Err-summary_of-clause-stops g c = λ from text h s.
    inl (stops-last g.D.Desk.size g.D.Desk.image g.D.Desk.may_leave g.D.Desk.moment g.D.Desk.reach g.D.Desk.said g.D.Desk.asked from c.generate.new.desk c.generate.new.session.exec text h (generated c.args.number c.args.count) (c.in-Ok.ensures.serves from text h [] s))

pub returns-in-Ok-say-clause-runs : goal.returns-in-Ok-say-clause-runs
returns-in-Ok-say-clause-runs g c = λ from text h s.
    let t = c.in-Ok.ensures.serves from text h [] s in
    let all : List ℕ = c.in-Ok-summary_of.summary.items in
    let says : g.D.Desk.said c.say.new.self ≡ told_push (g.D.Desk.said c.generate.new.desk) all =
    c.in-Ok-say.ensures.all ∙ ap (λ (b : List ℕ). told_push (g.D.Desk.said c.generate.new.desk) b) c.as_slice.ensures.value in (
      all,
      has-said g.D.Desk.size g.D.Desk.image g.D.Desk.may_leave g.D.Desk.moment g.D.Desk.reach g.D.Desk.said g.D.Desk.asked g.met.D.Desk.counts_now c.reads_as_settled.ensures.crash c.reads_as_settled.ensures.read
          from c.generate.new.desk c.say.new.self c.generate.new.session.exec (language c.args.session.now.exec) text h (generated c.args.number c.args.count) c.args.count all []
          (ap (λ is. language_of is) c.generate.ensures.program) t (append-nil all ∙ c.in-Ok-summary_of.ensures t.after t.runs.stands)
          says c.say.ensures.asked c.say.ensures.image c.say.ensures.pending c.say.ensures.time,
    )

pub returns-clause-stops : goal.returns-clause-stops
returns-clause-stops g c = λ from text h s.
    let t = c.in-Ok.ensures.serves from text h [] s in
    let all : List ℕ = c.in-Ok-summary_of.summary.items in
    let some = c.in-Err-say.ensures.part in
    let says : g.D.Desk.said c.say.new.self ≡ told_push (g.D.Desk.said c.generate.new.desk) (take some.0 all) =
    some.2 ∙ ap (λ (b : List ℕ). told_push (g.D.Desk.said c.generate.new.desk) (take some.0 b)) c.as_slice.ensures.value in
    inr (
      take some.0 all,
      drop some.0 all,
      has-said g.D.Desk.size g.D.Desk.image g.D.Desk.may_leave g.D.Desk.moment g.D.Desk.reach g.D.Desk.said g.D.Desk.asked g.met.D.Desk.counts_now c.reads_as_settled.ensures.crash c.reads_as_settled.ensures.read
          from c.generate.new.desk c.say.new.self c.generate.new.session.exec (language c.generate.new.session.exec) text h (generated c.args.number c.args.count) c.args.count (take some.0 all) (drop some.0 all)
          refl t (take-append-drop some.0 all ∙ c.in-Ok-summary_of.ensures t.after t.runs.stands)
          says c.say.ensures.asked c.say.ensures.image c.say.ensures.pending c.say.ensures.time,
    )

pub returns-clause-say_whole : goal.returns-clause-say_whole
returns-clause-say_whole g c = λ from text h s _.
    let t = c.in-Ok.ensures.serves from text h [] s in
    let all : List ℕ = c.in-Ok-summary_of.summary.items in
    let some = c.in-Err-say.ensures.part in
    let says : g.D.Desk.said c.say.new.self ≡ told_push (g.D.Desk.said c.generate.new.desk) (take some.0 all) =
    some.2 ∙ ap (λ (b : List ℕ). told_push (g.D.Desk.said c.generate.new.desk) (take some.0 b)) c.as_slice.ensures.value in (
      take some.0 all,
      drop some.0 all,
      has-said g.D.Desk.size g.D.Desk.image g.D.Desk.may_leave g.D.Desk.moment g.D.Desk.reach g.D.Desk.said g.D.Desk.asked g.met.D.Desk.counts_now c.reads_as_settled.ensures.crash c.reads_as_settled.ensures.read
          from c.generate.new.desk c.say.new.self c.generate.new.session.exec (language c.args.session.now.exec) text h (generated c.args.number c.args.count) c.args.count (take some.0 all) (drop some.0 all)
          (ap (λ is. language_of is) c.generate.ensures.program) t (take-append-drop some.0 all ∙ c.in-Ok-summary_of.ensures t.after t.runs.stands)
          says c.say.ensures.asked c.say.ensures.image c.say.ensures.pending c.say.ensures.time,
    )
