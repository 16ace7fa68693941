use Rattle.std.proofs.Common.{◌≡◌, ℕ, List, ◌++◌, length, take, drop, ◌∙◌, ap, arith}
use Rattle.r3_desk.specs.Moments.{one_call, image_then}
use Rattle.r3_gate.proofs.Pieces.{reads_on, reads_all, written_back}
use Rattle.r3_gate.proofs.reading.read_image.Goals as goal

pub returns-clause-bytes : goal.returns-clause-bytes
returns-clause-bytes g c = λ i is.
    let inv = c.loop-at.invariant in
    reads_all i c.loop-at.bytes.items c.loop-at.at (inv.taken i is) (omega (arith, inv.some, c.loop-at-test.false, c.len-in-loop-at.ensures)) (inv.long (length i) (g.met.D.Desk.sized c.args.desk.now i is))

-- a desk that tells its size ends no sooner
pub returns-then-count-eq0-clause-bytes : goal.returns-then-count-eq0-clause-bytes
returns-then-count-eq0-clause-bytes g c = λ i is.
    let inv = c.loop-at.invariant in
    let sized = g.met.D.Desk.sized c.args.desk.now i is in
    let end = c.in_ok-count.ensures.end (length i) (inv.size ∙ sized) c.if-count-eq0.true in
    absurd (omega (arith, end, inv.long (length i) sized, c.loop-at-test.true, c.len-in-loop-at.ensures))

pub loop-at-preserved : goal.loop-at-preserved
loop-at-preserved g c =
    let inv = c.loop-at.invariant in
    let old = c.loop-at.bytes.items in
    let new = c.read_on.new.bytes in
    let ensures = c.in_ok-count.ensures in
    let same : length new ≡ length old = omega (arith, c.read_on.auto.bytes, ap length c.deref_mut.ensures.value) in
    let is : take c.loop-at.bytes.len (new ++ drop (length new) old) ≡ new = written_back c.loop-at.bytes.len old new same (omega (arith, c.loop-at.bytes.ok)) in
    let len : length (take c.loop-at.bytes.len (new ++ drop (length new) old)) ≡ length old = ap length is ∙ same in
    let leaves = g.D.Desk.may_leave c.args.desk.now in
    record {
      some = omega (arith, len, same, ensures.bound);
      short = omega (arith, len, inv.short);
      long = λ n told. len ∙ inv.long n told;
      taken = λ i told. reads_on i old _ c.loop-at.at c.in_ok-count.count (inv.taken i told)
          (ap (λ (l : List ℕ). take c.loop-at.at l) is ∙ ensures.kept ∙ ap (λ (l : List ℕ). take c.loop-at.at l) c.deref_mut.ensures.value)
          (ap (λ (l : List ℕ). take c.in_ok-count.count (drop c.loop-at.at l)) is ∙ ensures.bytes i (inv.image ∙ told));
      image = ensures.image ∙ inv.image;
      size = ensures.size ∙ inv.size;
      said = ensures.said ∙ inv.said;
      asked = ensures.asked ∙ inv.asked;
      syncs = ensures.syncs ∙ inv.syncs;
      pending = λ d l. inv.pending d (ensures.pending d l);
      faults = ensures.cause.kept ∙ inv.faults;
      say_faults = ensures.say_faults ∙ inv.say_faults;
      ask_faults = ensures.ask_faults ∙ inv.ask_faults;
      crash = image_then g.D.Desk.moment g.D.Desk.reach g.D.Desk.may_leave g.D.Desk.said g.D.Desk.asked c.args.desk.now c.loop-at.desk c.read_on.new.desk leaves leaves leaves inv.crash
          (one_call g.D.Desk.moment g.D.Desk.reach g.D.Desk.may_leave g.D.Desk.said g.D.Desk.asked c.loop-at.desk c.read_on.new.desk leaves
          ensures.time ensures.said ensures.asked inv.pending (λ d l. inv.pending d (ensures.pending d l)))
          inv.said inv.asked (λ _ h. h) (λ _ h. h);
    }
