-- A call that lost nothing keeps all that is owed.
use Rattle.std.proofs.Common.{ℕ, suc, zero, ◌-◌, ◌≤◌, List, [], ◌∷◌, ◌++◌, map, length, sym, subst, ◌∙◌, arith}
use Rattle.std.specs.Prelude.{⊤}
use Rattle.std.proofs.Math.Nat.{max-le}
use Rattle.std.proofs.Math.Seq.{take-length}
use Rattle.r3_entry.specs.declared.entry.Entry.{Entry}
use Rattle.r3_model.specs.Language.{Language}
use Rattle.r3_model.specs.Event.{Event, Call}
use Rattle.r3_model.specs.Held.{Mark, Said, Asked, due, owed}
use Rattle.r3_model.specs.Machine.{step}
use Rattle.r3_model.specs.Replies.{reply_text}
use Rattle.r3_model.specs.Run.{Trail, from_state, restarted, next, run, opening_events}
use Rattle.r3_model.specs.Script.{Line, Does, Drain, Unread, Unformed, Told, answered}
use Rattle.r3_model.specs.Drain.{Plain}
use Rattle.r3_model.proofs.Drains.{drained-run}
use Rattle.r3_repeats.specs.Invocations.{Invocation, told_in}
use Rattle.r3_repeats.specs.Laws.{WholeGoes}
use Rattle.r3_repeats.proofs.Growing.{Grows, grows-trans, grows-longer, next-grows}
use Rattle.r3_repeats.proofs.Placing.{line-done, after_lines, begun, begun-grows, lines-come}

-- no mark is of more entries
abbrev pub AreWithin : ℕ → List Mark → Type 0
AreWithin most [] = ⊤
AreWithin most (Said bytes kept ∷ marks) = (kept ≤ most) × AreWithin most marks
AreWithin most (Asked kept ∷ marks) = (kept ≤ most) × AreWithin most marks

due-within : (n kept most : ℕ) → kept ≤ most → due n kept ≤ most
due-within zero kept most le = omega arith
due-within (suc n) kept most le = le

pub owed-within : (marks : List Mark) (n m most : ℕ) → AreWithin most marks → owed marks n m ≤ most
owed-within [] n m most all = omega arith
owed-within (Said bytes kept ∷ marks) n m most all = max-le (due-within n kept most all.0) (owed-within marks (n - bytes) m most all.1)
owed-within (Asked kept ∷ marks) n m most all = max-le (due-within m kept most all.0) (owed-within marks n (m - 1) most all.1)

within-more : (marks : List Mark) (a b : ℕ) → a ≤ b → AreWithin a marks → AreWithin b marks
within-more [] a b le all = tt
within-more (Said bytes kept ∷ marks) a b le all = (omega (arith, le, all.0), within-more marks a b le all.1)
within-more (Asked kept ∷ marks) a b le all = (omega (arith, le, all.0), within-more marks a b le all.1)

within-append : (marks more : List Mark) (most : ℕ) → AreWithin most marks → AreWithin most more → AreWithin most (marks ++ more)
within-append [] more most all rest = rest
within-append (Said bytes kept ∷ marks) more most all rest = (all.0, within-append marks more most all.1 rest)
within-append (Asked kept ∷ marks) more most all rest = (all.0, within-append marks more most all.1 rest)

asks-within : (kept most : ℕ) (calls : List Call) → kept ≤ most → AreWithin most (map (λ (c : Call). Asked kept) calls)
asks-within kept most [] le = tt
asks-within kept most (c ∷ cs) le = (le, asks-within kept most cs le)

module _ (P : Language) where
  abbrev IsWithin : Trail → Type 0
  IsWithin t = AreWithin (length t.state.history) t.marks

  next-within : (t : Trail) (ev : Event) → IsWithin t → IsWithin (next P t ev)
  next-within t ev all =
      let le = grows-longer P t.state.history (next P t ev).state.history (next-grows P t ev) in
      within-append t.marks (map (λ (c : Call). Asked (length t.state.history)) (step P t.state ev t.answers).calls) (length (next P t ev).state.history)
      (within-more t.marks (length t.state.history) (length (next P t ev).state.history) le all)
      (asks-within (length t.state.history) (length (next P t ev).state.history) (step P t.state ev t.answers).calls le)

  run-within : (t : Trail) (evs : List Event) → IsWithin t → IsWithin (run P t evs)
  run-within t [] all = all
  run-within t (ev ∷ evs) all = run-within (next P t ev) evs (next-within t ev all)

  line-within : (told : Told) (line : Line) → IsWithin told.trail → IsWithin (line-done P told line).trail
  unfolding line-done
  line-within told (Does ev) all = next-within told.trail ev all
  line-within told (Drain turns) all =
      let d = drained-run P Plain turns told.trail in
      subst IsWithin (sym d.3) (run-within told.trail d.0 all)
  line-within told Unread all = all
  line-within told Unformed all = all

  answered-within : (told : Told) (line : Line) → IsWithin told.trail → IsWithin (answered P told line).trail
  answered-within told line all =
      let d = line-done P told line in
      let Of : Told → Type 0 = λ u. IsWithin u.trail in
      let last : AreWithin (length d.trail.state.history) (Said (length (reply_text d.reply)) (length d.trail.state.history) ∷ []) = (omega arith, tt) in
      subst Of (sym d.is) (within-append d.trail.marks (Said (length (reply_text d.reply)) (length d.trail.state.history) ∷ []) (length d.trail.state.history) (line-within told line all) last)

  lines-within : (told : Told) (lines : List Line) → IsWithin told.trail → IsWithin (after_lines P told lines).trail
  lines-within told [] all = all
  lines-within told (line ∷ lines) all = lines-within (answered P told line) lines (answered-within told line all)

  pub called-within : (i : Invocation) → IsWithin (told_in P i).trail
  called-within i = lines-within (begun P i.text i.before i.answers) i.lines (run-within (from_state (restarted i.before) i.answers) (opening_events i.text (restarted i.before)) tt)

  pub called-grows : (i : Invocation) → Grows P i.before (told_in P i).trail.state.history
  called-grows i =
      grows-trans P i.before (begun P i.text i.before i.answers).trail.state.history (told_in P i).trail.state.history (begun-grows P i.text i.before i.answers) (lines-come P (begun P i.text i.before i.answers) i.lines).grows

pub whole-goes : WholeGoes
whole-goes P i whole =
    let last : List Entry = (told_in P i).trail.state.history in
    record {
      len = length last;
      within = omega arith;
      held_kept = max-le (grows-longer P i.before last (called-grows P i)) (owed-within (told_in P i).trail.marks i.said i.asked (length last) (called-within P i));
      left_is = whole ∙ sym (take-length last);
    }
