use Rattle.std.proofs.Common.{ℕ, ◌-◌, ◌≤◌, ◌++◌, ⊎_elim, subst, length, List, [], ◌∷◌, arith}
use Rattle.std.proofs.Math.Seq.{take-length}
use Rattle.r3_entry.specs.declared.entry.Entry.{Entry}
use Rattle.r3_entry.specs.Image.{IsHistoryOf}
use Rattle.r3_desk.specs.Disk.{told_len}
use Rattle.r3_recover.specs.Kept.{marks_on}
use Rattle.r3_model.specs.Held.{Mark, Said}
use Rattle.r3_serve.specs.Held.{asked_marks}
use Rattle.r3_exec.specs.Runs.{language}
use Rattle.r3_serve.specs.Served.{said_of}
use Rattle.r3_invoked.specs.Left.{bytes_of}
use Rattle.r3_invoked.proofs.Owed.{owed-fewer, owed-quiet}
use Rattle.r3_invoked.proofs.Told.{asked-most, said-most}
use Rattle.r3_invoked.proofs.Fitting.{all-of, bytes-most, bytes-whole, bytes-within, come-of, held-voice, left-by, left-unsaid, opening-left, said-voice, stopped-left, stopped-read}
use Rattle.r3_invoked.proofs.calls.calls_fit.Goals as goal

pub returns-clause-ends : goal.returns-clause-ends
returns-clause-ends g c = λ from now exec voice text h lines image s either.
    let Of : List Entry → Type 0 = λ es. IsHistoryOf es image in
    all-of (language exec) text h lines s.after.history s.marks
    (bytes_of voice (told_len (g.D.Desk.said now) - told_len (g.D.Desk.said from))) (told_len (g.D.Desk.asked now) - told_len (g.D.Desk.asked from)) image
    (come-of (language exec) text h lines s.after s.calls s.marks s.replies s.machine)
    (subst Of (take-length s.after.history) (⊎_elim
    (λ told. c.reads_as_settled.ensures.read now exec.store s.after.history (length s.after.history) image s.runs.holds told)
    (λ left. c.reads_as_settled.ensures.crash now exec.store s.after.history (length s.after.history) image s.runs.holds left)
    either))

pub returns-clause-crashes : goal.returns-clause-crashes
returns-clause-crashes g c = λ from now exec voice text h lines s. record {
  elapses = s.leaves.elapses;
  each = λ image n m r.
      let x = s.leaves.each image n m r in
      let held_is = held-voice voice s.after.history (length h) s.marks (n - told_len (g.D.Desk.said from)) (m - told_len (g.D.Desk.asked from)) image x.4 in
      left-by (language exec) text h lines s.after.history s.marks (bytes_of voice (n - told_len (g.D.Desk.said from))) (m - told_len (g.D.Desk.asked from)) held_is.len image
      (come-of (language exec) text h lines s.after s.calls s.marks s.replies s.machine) held_is.within held_is.held_kept held_is.history_of;
}

pub returns-clause-stops : goal.returns-clause-stops
returns-clause-stops g c = λ from now P voice text h lines line w. record {
  elapses = w.leaves.elapses;
  each = λ image n m r.
      let x = w.leaves.each image n m r in
      let bytes : ℕ = n - told_len (g.D.Desk.said from) in
      let calls : ℕ = m - told_len (g.D.Desk.asked from) in
      let told = said-most (g.D.Desk.said from) (g.D.Desk.said now) (said_of voice w.replies ++ w.said_part) w.told in
      let most : bytes ≤ length (said_of voice w.replies ++ w.said_part) = omega (arith, x.1, told) in
      stopped-left P text h lines line w.calls w.marks w.before w.replies w.machine w.part_calls w.last w.part_marks w.owes w.after w.said_part
      (bytes_of voice bytes) calls image w.part (said-voice voice P line w.before w.after w.part_calls w.part_marks w.last w.said_part w.owes w.said_is)
      (bytes-within voice w.replies w.said_part bytes most)
      (held-voice voice w.after.history (length h) (w.marks ++ (w.part_marks ++ (marks_on w.after.history w.last ++ w.owes))) bytes calls image x.4);
}

pub returns-clause-reads : goal.returns-clause-reads
returns-clause-reads g c = λ from now P voice text h lines line image w is.
    let bytes : ℕ = told_len (g.D.Desk.said now) - told_len (g.D.Desk.said from) in
    let calls : ℕ = told_len (g.D.Desk.asked now) - told_len (g.D.Desk.asked from) in
    let replied : ℕ = length (said_of voice w.replies) in
    let all_calls = w.calls ++ (w.part_calls ++ w.last) in
    let told = said-most (g.D.Desk.said from) (g.D.Desk.said now) (said_of voice w.replies ++ w.said_part) w.told in
    let asks = asked-most (g.D.Desk.asked from) (g.D.Desk.asked now) all_calls w.asks in
    let most : bytes ≤ length (said_of voice w.replies ++ w.said_part) = omega (arith, told) in
    let most_calls : calls ≤ length all_calls = omega (arith, asks) in
    stopped-read P text h lines line w.calls w.marks w.before w.replies w.machine w.part_calls w.last w.part_marks w.owes w.after w.said_part
    (bytes_of voice bytes) (bytes_of voice replied) calls (length all_calls) image w.part
    (said-voice voice P line w.before w.after w.part_calls w.part_marks w.last w.said_part w.owes w.said_is)
    (bytes-whole voice w.replies w.said_part bytes most) (bytes-most voice w.replies) most_calls
    (held-voice voice w.after.history (length h) (w.marks ++ (w.part_marks ++ marks_on w.after.history w.last)) replied (length all_calls) image (w.reads image is))
    (λ some. w.whole some image is)

pub returns-clause-opening : goal.returns-clause-opening
returns-clause-opening g c = λ from now P text h s. record {
  elapses = s.leaves.elapses;
  each = λ image n m r.
      let x = s.leaves.each image n m r in
      opening-left P text h s.after (n - told_len (g.D.Desk.said from)) (m - told_len (g.D.Desk.asked from)) x.3.len image s.part x.3.within x.3.settled_kept x.3.history_of;
}

pub returns-clause-opening_reads : goal.returns-clause-opening_reads
returns-clause-opening_reads g c = λ from now P text h n m image s told.
    let kept = s.reads image told in
    opening-left P text h s.after n m kept.len image s.part kept.within kept.settled_kept kept.history_of

pub returns-clause-answered : goal.returns-clause-answered
returns-clause-answered g c = λ P text h lines after calls marks replies n m image machine is.
    all-of P text h lines after.history marks n m image (come-of P text h lines after calls marks replies machine) is

pub returns-clause-held : goal.returns-clause-held
returns-clause-held g c = λ P text h lines after calls marks replies n m image machine held_is.
    left-by P text h lines after.history marks n m held_is.len image (come-of P text h lines after calls marks replies machine) held_is.within held_is.held_kept held_is.history_of

pub returns-clause-unsaid : goal.returns-clause-unsaid
returns-clause-unsaid g c = λ P text h lines after calls marks replies n m image machine is.
    left-unsaid P text h lines after calls marks replies (asked_marks marks) n m image machine (owed-quiet marks n m) is

pub returns-clause-summary : goal.returns-clause-summary
returns-clause-summary g c = λ P text h lines after calls marks replies bytes kept n m image machine is.
    let summary : List Mark = Said bytes kept ∷ [] in
    left-unsaid P text h lines after calls marks replies (asked_marks marks ++ summary) n m image machine
    (omega (arith, owed-quiet marks n m, owed-fewer (asked_marks marks) summary n m)) is
