-- What a call leaves of a history that was made was made.
use Rattle.std.proofs.Common.{◌≡◌, ◌≢◌, ℕ, suc, zero, ◌+◌, ◌-◌, ◌≤◌, ◌^◌, true, false, Bool, List, [], ◌∷◌, ◌++◌, take, drop, length, map, Option, Some, None, refl, sym, subst, ap, arith, take-append-drop, length-append}
use Rattle.std.specs.Prelude.{if◌then◌else◌, nat_lt, slice_get}
use Rattle.std.specs.List.{AllByRecursion}
use Rattle.r3_value.specs.declared.value.Outcome.{Outcome}
use Rattle.r3_entry.specs.declared.entry.Entry.{Entry}
use Rattle.r3_entry.specs.Bytes.{entry, list, read, size}
use Rattle.sys_flow.specs.declared.command.Command.TheVariants.{Recover}
use Rattle.r3_model.specs.Acts.{program_entry}
use Rattle.r3_model.specs.Language.{Text, Language, Queue}
use Rattle.r3_model.specs.Lawful.{IsLawful}
use Rattle.r3_model.specs.Event.{Event, Append, Run, Turn, Dequeue, ShowStatus, GetRow, Nothing, Limit, Bytes, Reply, Idle, Spent, NotRead, NotForm}
use Rattle.r3_model.specs.Event as reply
use Rattle.r3_model.specs.Laws.{IsOfDrain}
use Rattle.r3_model.specs.Machine.{entered, full_of, first_of}
use Rattle.r3_model.specs.Made.{IsMade}
use Rattle.r3_model.specs.Run.{Trail, from_state, restarted, next, run, pending_ids}
use Rattle.r3_model.specs.Drain.{Form, Plain, Drained, round, rounds, drained}
use Rattle.r3_model.specs.Script.{Line, Does, Drain, Unread, Unformed, Told, answered, opened, saying}
use Rattle.r3_model.specs.Valid.{AreOpen}
use Rattle.r3_model.proofs.Drains.{drained-run}
use Rattle.r3_laws.specs.OfHistories.{CommitsOnce, ExpectsAll}
use Rattle.r3_laws.proofs.Agreeing.{Suits}
use Rattle.r3_laws.proofs.KeepsOpen.{stepped-open}
use Rattle.r3_laws.proofs.Reaches.{stepped-made, restarted-open}
use Rattle.r3_laws.proofs.Replays.{made-before}
use Rattle.r3_repeats.specs.Invocations.{Invocation, told_in, GoesByMachine, AreOnOneStore}
use Rattle.r3_repeats.specs.Steps.{IsOfScript, KeepsLimits, IsOneOnStore, LeavesMade, StoresStepsOnce, IsExpected, ExpectsEachTurn}
use Rattle.r3_repeats.proofs.Expecting.{stepped-expected}
use Rattle.r3_repeats.proofs.Growing.{grows-longer, next-grows, run-grows}
use Rattle.r3_repeats.proofs.Placing.{after_lines, answered-grows, begun}

-- ---- the first entry of a store has room

not-below : (a b : ℕ) → b ≤ a → nat_lt a b ≡ false
not-below a b le = grind arith

by_room : (b : Bool) → b ≡ false → (if b then Some Bytes else None) ≡ None
by_room true is = absurd cc
by_room false is = refl

program-long : (text : Text) → length (entry (program_entry [] text)) ≡ length text + 17
program-long text =
    let none : List ℕ = list read [] in
    omega (arith, length-append text none, length-append (text ++ none) none, length-append ((text ++ none) ++ none) none)

short-room : (text : Text) → length text ≤ 2 ^ 20 → full_of [] (program_entry [] text) ≡ None
short-room text short =
    let e : Entry = program_entry [] text in
    by_room (nat_lt (2 ^ 30) (size [] + 5 + length (entry e))) (not-below (2 ^ 30) (size [] + 5 + length (entry e)) (omega (arith, short, program-long text)))

-- ---- states whose history was made

-- and all that was answered meanwhile was expected
pub record Good (P : Language) (t : Trail) : Type 0 where
  pub snapshots : AreOpen P t.state
  pub made : IsMade P t.state.history
  pub expects : ExpectsAll → IsLawful P → AllByRecursion IsExpected t.replies × IsExpected t.last

pub record GoodTold (P : Language) (told : Told) : Type 0 where
  pub trail : Good P told.trail
  pub said : ExpectsAll → IsLawful P → AllByRecursion IsExpected told.said

all-push : (rs : List Reply) (r : Reply) → AllByRecursion IsExpected rs → IsExpected r → AllByRecursion IsExpected (rs ++ r ∷ [])
all-push [] r all is = (is, tt)
all-push (x ∷ rs) r all is = (all.0, all-push rs r all.1 is)

-- a drain's reply is of no turn
abbrev TellsDrain : Drained → Type 0
TellsDrain d = IsExpected d.reply

rounds-expected : (go : Trail → Event → Trail) (queues : List Queue) (form : Form) (n m left : ℕ) (t : Trail) → TellsDrain (rounds go queues form n m left t)
rounds-expected go queues form n zero left t = tt
rounds-expected go queues form n (suc more) left t =
    let r = round go queues form left t in
    let later = rounds go queues form n more r.left r.trail in
    let after : TellsDrain later = rounds-expected go queues form n more r.left r.trail in
    elim r.cut as (λ b. TellsDrain (elim b [ true ↦ record { trail = r.trail; reply = Spent n } | false ↦ elim r.changed [ false ↦ record { trail = r.trail; reply = Idle (n - r.left) } | true ↦ elim r.left [ zero ↦ record { trail = r.trail; reply = Spent n } | suc left ↦ later ] ] ])) [
      | true ↦ tt
      | false ↦ elim r.changed as (λ b. TellsDrain (elim b [ false ↦ record { trail = r.trail; reply = Idle (n - r.left) } | true ↦ elim r.left [ zero ↦ record { trail = r.trail; reply = Spent n } | suc left ↦ later ] ])) [
        | false ↦ tt
        | true ↦ elim r.left as (λ k. TellsDrain (elim k [ zero ↦ record { trail = r.trail; reply = Spent n } | suc left ↦ later ])) [ zero ↦ tt | suc left ↦ after ]
      ]
    ]

some : (h : List Entry) → 1 ≤ length h → h ≢ []
some h le none = omega (arith, le, ap (λ (x : List Entry). length x) none)

line-suits : (h : List Entry) (ev : Event) → 1 ≤ length h → IsOfScript (Does ev) → Suits h ev
line-suits h (Append text) le is = absurd is
line-suits h (Run command) le is = (some h le, is)
line-suits h (Turn id) le is = tt
line-suits h (Dequeue queue) le is = tt
line-suits h (ShowStatus id) le is = tt
line-suits h (GetRow table key) le is = tt
line-suits h Nothing le is = tt

drain-suits : (h : List Entry) (ev : Event) → IsOfDrain ev → Suits h ev
drain-suits h (Append text) is = absurd is
drain-suits h (Run command) is = absurd is
drain-suits h (Turn id) is = tt
drain-suits h (Dequeue queue) is = tt
drain-suits h (ShowStatus id) is = absurd is
drain-suits h (GetRow table key) is = absurd is
drain-suits h Nothing is = absurd is

module _ (P : Language) where
  next-good : (t : Trail) (ev : Event) → Suits t.state.history ev → Good P t → Good P (next P t ev)
  next-good t ev suits good = record {
    snapshots = stepped-open P t.state good.snapshots ev (first_of t.answers);
    made = stepped-made P t.state good.snapshots ev (first_of t.answers) suits good.made;
    expects = λ law lawful.
        let is : IsExpected (next P t ev).last = stepped-expected P law lawful t.state ev (first_of t.answers) good.made in
        (all-push t.replies (next P t ev).last (good.expects law lawful).0 is, is);
  }

  drain-good : (t : Trail) (evs : List Event) → AllByRecursion IsOfDrain evs → Good P t → Good P (run P t evs)
  drain-good t [] all good = good
  drain-good t (ev ∷ evs) all good = drain-good (next P t ev) evs all.1 (next-good t ev (drain-suits t.state.history ev all.0) good)

  saying-good : (told : Told) (t : Trail) (r : Reply) → GoodTold P told → Good P t → (ExpectsAll → IsLawful P → IsExpected r) → GoodTold P (saying told t r)
  saying-good told t r good now is = record {
    trail = record { snapshots = now.snapshots; made = now.made; expects = now.expects };
    said = λ law lawful. all-push told.said r (good.said law lawful) (is law lawful);
  }

  line-good : (told : Told) (line : Line) → IsOfScript line → 1 ≤ length told.trail.state.history → GoodTold P told → GoodTold P (answered P told line)
  line-good told (Does ev) is le good =
      let now : Good P (next P told.trail ev) = next-good told.trail ev (line-suits told.trail.state.history ev le is) good.trail in
      saying-good told (next P told.trail ev) (next P told.trail ev).last good now (λ law lawful. (now.expects law lawful).1)
  line-good told (Drain turns) is le good =
      let d = drained-run P Plain turns told.trail in
      let Of : Trail → Type 0 = λ u. Good P u in
      let now : Good P (drained (next P) P.queues Plain turns told.trail).trail = subst Of (sym d.3) (drain-good told.trail d.0 d.1 good.trail) in
      saying-good told (drained (next P) P.queues Plain turns told.trail).trail (drained (next P) P.queues Plain turns told.trail).reply good now
      (λ law lawful. rounds-expected (next P) P.queues Plain turns (turns + 1) turns told.trail)
  line-good told Unread is le good = saying-good told told.trail NotRead good good.trail (λ law lawful. tt)
  line-good told Unformed is le good = saying-good told told.trail NotForm good good.trail (λ law lawful. tt)

  lines-good : (told : Told) (lines : List Line) → AllByRecursion IsOfScript lines → 1 ≤ length told.trail.state.history → GoodTold P told → GoodTold P (after_lines P told lines)
  lines-good told [] all le good = good
  lines-good told (line ∷ lines) all le good =
      let longer : length told.trail.state.history ≤ length (answered P told line).trail.state.history = grows-longer P told.trail.state.history (answered P told line).trail.state.history (answered-grows P told line) in
      lines-good (answered P told line) lines all.1 (omega (arith, le, longer)) (line-good told line all.0 le good)

  -- ---- the opening

  recoveries-good : (t : Trail) (ids : List Text) → 1 ≤ length t.state.history → Good P t → Good P (run P t (map (λ (id : Text). Run (Recover id)) ids))
  recoveries-good t [] le good = good
  recoveries-good t (id ∷ ids) le good =
      let u : Trail = next P t (Run (Recover id)) in
      let longer : length t.state.history ≤ length u.state.history = grows-longer P t.state.history u.state.history (next-grows P t (Run (Recover id))) in
      recoveries-good u ids (omega (arith, le, longer)) (next-good t (Run (Recover id)) (some t.state.history le, tt) good)

  pub record Begins (text : Text) (h : List Entry) (answers : List (Option Outcome)) : Type 0 where
    pub good : Good P (opened P text h answers)
    pub begun_is : 1 ≤ length (opened P text h answers).state.history

  opened-good : (text : Text) (h : List Entry) (answers : List (Option Outcome)) → length text ≤ 2 ^ 20 → IsMade P h → Begins text h answers
  opened-good text [] answers short made =
      let t : Trail = from_state (restarted []) answers in
      let e : Entry = program_entry [] text in
      let room : (next P t (Append text)).state.history ≡ e ∷ [] = ap (λ (o : Option Limit). (entered (restarted []) e (reply.Entry 1) o).0.history) (short-room text short) in
      record {
        good = next-good t (Append text) refl (record { snapshots = restarted-open P []; made = made; expects = λ law lawful. (tt, tt) });
        begun_is = omega (arith, ap (λ (x : List Entry). length x) room);
      }
  opened-good text (e ∷ es) answers short made =
      let t : Trail = from_state (restarted (e ∷ es)) answers in
      let ids : List Text = pending_ids (restarted (e ∷ es)) in
      let longer : length (e ∷ es) ≤ length (opened P text (e ∷ es) answers).state.history =
      grows-longer P (e ∷ es) (opened P text (e ∷ es) answers).state.history (run-grows P t (map (λ (id : Text). Run (Recover id)) ids)) in
      record {
        good = recoveries-good t ids (omega arith) (record { snapshots = restarted-open P (e ∷ es); made = made; expects = λ law lawful. (tt, tt) });
        begun_is = omega (arith, longer);
      }

  -- ---- calls

  called-good : (i : Invocation) → KeepsLimits i → IsMade P i.before → GoodTold P (told_in P i)
  called-good i limits made =
      let b : Begins i.text i.before i.answers = opened-good i.text i.before i.answers limits.text made in
      lines-good (begun P i.text i.before i.answers) i.lines limits.lines b.begun_is (record { trail = b.good; said = λ law lawful. tt })

  call-made : (i : Invocation) → GoesByMachine P i → KeepsLimits i → IsMade P i.before → IsMade P i.left
  call-made i goes limits made =
      let last : List Entry = (told_in P i).trail.state.history in
      let Of : List Entry → Type 0 = λ x. IsMade P x in
      subst Of (sym goes.left_is) (made-before P (take goes.len last) (drop goes.len last) (subst Of (sym (take-append-drop goes.len last)) (called-good i limits made).trail.made))

  -- each call is begun on what was made
  begins-made : (h : List Entry) (calls : List Invocation) (a : ℕ) (i : Invocation) → IsMade P h → AreOnOneStore P h calls → AllByRecursion KeepsLimits calls → slice_get calls a ≡ Some i
      → IsMade P i.before × GoesByMachine P i × KeepsLimits i
  begins-made h [] a i made are limits is = absurd (let z : None ≡ Some i = is in cc)
  begins-made h (x ∷ xs) zero i made are limits is =
      let same : x ≡ i = (let z : Some x ≡ Some i = is in cc) in
      let Of : List Entry → Type 0 = λ g. IsMade P g in
      let At : Invocation → Type 0 = λ y. IsMade P y.before × GoesByMachine P y × KeepsLimits y in
      subst At same (subst Of (sym are.0) made, are.1, limits.0)
  begins-made h (x ∷ xs) (suc a) i made are limits is =
      let Of : List Entry → Type 0 = λ g. IsMade P g in
      begins-made x.left xs a i (call-made x are.1 limits.0 (subst Of (sym are.0) made)) are.2 limits.1 is

  one-made : (i : Invocation) (one : IsOneOnStore P i) → IsMade P i.before × GoesByMachine P i × KeepsLimits i
  one-made i one = begins-made one.first one.calls one.place i one.made one.on_store one.limits one.is

pub leaves-made : LeavesMade
leaves-made P i one =
    let b = one-made P i one in
    call-made P i b.1 b.2 b.0

pub stores-once : CommitsOnce → StoresStepsOnce
stores-once law P i lawful one =
    let once = law P i.left lawful (leaves-made P i one) in
    record { once = once.0; with_writes = once.1 }

pub expects-turns : ExpectsAll → ExpectsEachTurn
expects-turns law P i lawful one =
    let b = one-made P i one in
    let good : GoodTold P (told_in P i) = called-good P i b.2 b.0 in
    (good.said law lawful, (good.trail.expects law lawful).0)
