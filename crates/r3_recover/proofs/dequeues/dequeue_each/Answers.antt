use Rattle.std.proofs.Common.{◌≡◌, true, false, ◌∷◌, ◌+◌, drop, refl, sym, subst, ◌∙◌, arith}
use Rattle.r3_model.specs.Functions.{language_of}
use Rattle.r3_recover.specs.Drained.{EndsEarly}
use Rattle.r3_recover.specs.Rounds.{Point, Queues}
use Rattle.r3_recover.proofs.Taking.{with-first, with-none}
use Rattle.r3_recover.proofs.Turning.{point-cut}
use Rattle.r3_recover.proofs.dequeues.dequeue_each.Goals as goal

pub dequeue_next-requires : goal.dequeue_next-requires
dequeue_next-requires g c =
    let x = c.requires in
    record {
      left = omega arith;
      point = (
        x.0,
        x.1,
        x.2,
        x.3,
        drop (c.queues.queue-index + 1) c.args.queues.now,
        with-first (λ left. Point g.D.Desk.size g.D.Desk.image g.D.Desk.may_leave g.D.Desk.moment g.D.Desk.reach g.D.Desk.said g.D.Desk.asked g.D.Desk.syncs x.0 c.queues.desk c.queues.exec x.1 x.2 x.3 (Queues left) c.queues.round.left c.queues.round.changed)
            c.args.queues.now c.queues.queue-index c.queue-item.result c.queues-test.true c.queue-item.is (c.queues.invariant.goes x.0 x.1 x.2 x.3 x.4),
      );
    }

pub queues-init : goal.queues-init
queues-init g c = record {
  goes = λ from st k turns p. p;
  fewer = omega arith;
  counted = λ is not. absurd (let e : true ≡ false = sym is ∙ not in cc);
  program = refl;
  syncs = refl;
  disk = refl;
  asked = refl;
  ask = refl;
  said = refl;
  say = refl;
}

pub queues-preserved : goal.queues-preserved
queues-preserved g c =
    let inv = c.queues.invariant in
    record {
      goes = λ from st k turns p.
          c.in-Ok.ensures.goes from st k turns (drop (c.queues.queue-index + 1) c.args.queues.now)
          (with-first (λ left. Point g.D.Desk.size g.D.Desk.image g.D.Desk.may_leave g.D.Desk.moment g.D.Desk.reach g.D.Desk.said g.D.Desk.asked g.D.Desk.syncs from c.queues.desk c.queues.exec st k turns (Queues left) c.queues.round.left c.queues.round.changed)
          c.args.queues.now c.queues.queue-index c.queue-item.result c.queues-test.true c.queue-item.is (inv.goes from st k turns p));
      fewer = omega (arith, c.in-Ok.ensures.fewer, inv.fewer);
      counted = λ is not. omega (arith, c.in-Ok.ensures.counted, inv.fewer);
      program = c.in-Ok.ensures.program ∙ inv.program;
      syncs = c.in-Ok.ensures.syncs ∙ inv.syncs;
      disk = c.in-Ok.ensures.no_fault (λ none. cc) ∙ inv.disk;
      asked = c.in-Ok.ensures.asked ∙ inv.asked;
      ask = c.in-Ok.ensures.ask_faults ∙ inv.ask;
      said = c.in-Ok.ensures.said ∙ inv.said;
      say = c.in-Ok.ensures.say_faults ∙ inv.say;
    }

pub returns-then-round-eq0-clause-goes : goal.returns-then-round-eq0-clause-goes
returns-then-round-eq0-clause-goes g c = λ from st k turns p.
    let here = with-first (λ left. Point g.D.Desk.size g.D.Desk.image g.D.Desk.may_leave g.D.Desk.moment g.D.Desk.reach g.D.Desk.said g.D.Desk.asked g.D.Desk.syncs from c.queues.desk c.queues.exec st k turns (Queues left) c.queues.round.left c.queues.round.changed)
    c.args.queues.now c.queues.queue-index c.queue-item.result c.queues-test.true c.queue-item.is (c.queues.invariant.goes from st k turns p) in (
      λ is. absurd (let e : false ≡ true = is in cc),
      λ is. point-cut g.D.Desk.size g.D.Desk.image g.D.Desk.may_leave g.D.Desk.moment g.D.Desk.reach g.D.Desk.said g.D.Desk.asked g.D.Desk.syncs
          from c.queues.desk c.queues.exec st k turns c.queues.round.left (Queues (c.queue-item.result ∷ drop (c.queues.queue-index + 1) c.args.queues.now)) c.queues.round.changed
          here (c.reads_as_settled.ensures.read c.queues.desk c.queues.exec.store) tt (omega arith),
    )

pub returns-in-Err-clause-goes : goal.returns-in-Err-clause-goes
returns-in-Err-clause-goes g c = λ from st k turns p.
    let here = with-first (λ left. Point g.D.Desk.size g.D.Desk.image g.D.Desk.may_leave g.D.Desk.moment g.D.Desk.reach g.D.Desk.said g.D.Desk.asked g.D.Desk.syncs from c.queues.desk c.queues.exec st k turns (Queues left) c.queues.round.left c.queues.round.changed)
    c.args.queues.now c.queues.queue-index c.queue-item.result c.queues-test.true c.queue-item.is (c.queues.invariant.goes from st k turns p) in
    subst (λ is. EndsEarly g.D.Desk.image g.D.Desk.moment g.D.Desk.reach g.D.Desk.said g.D.Desk.asked g.D.Desk.syncs (language_of is) from c.dequeue_next.new.desk st k turns) c.queues.invariant.program
    (c.in-Err.ensures.goes from st k turns (drop (c.queues.queue-index + 1) c.args.queues.now) here)

pub returns-clause-goes : goal.returns-clause-goes
returns-clause-goes g c = λ from st k turns p. (
  λ is. with-none (λ left. Point g.D.Desk.size g.D.Desk.image g.D.Desk.may_leave g.D.Desk.moment g.D.Desk.reach g.D.Desk.said g.D.Desk.asked g.D.Desk.syncs from c.queues.desk c.queues.exec st k turns (Queues left) c.queues.round.left c.queues.round.changed)
      c.args.queues.now c.queues.queue-index (omega (arith, c.queues-test.false)) (c.queues.invariant.goes from st k turns p),
  λ is. absurd (let e : true ≡ false = is in cc),
)
