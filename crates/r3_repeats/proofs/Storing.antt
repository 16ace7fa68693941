-- The laws of calls on one store.
use Rattle.std.proofs.Common.{◌≡◌, inl, inr, ℕ, suc, zero, ◌+◌, ◌-◌, ◌<◌, ◌≤◌, List, [], ◌∷◌, ◌++◌, drop, take, length, Option, Some, None, sym, subst, ap, ◌∙◌, arith, length-append}
use Rattle.std.specs.Prelude.{flat_map, slice_get}
use Rattle.std.proofs.Math.Nat.{le-max_left, le-max_right}
use Rattle.std.proofs.lemmas.Bool.{cases_lt}
use Rattle.r3_rows.specs.declared.rows.FlowRow.{FlowRow}
use Rattle.r3_entry.specs.declared.entry.Entry.{Entry}
use Rattle.sys_flow.specs.declared.command.Refusal.TheVariants.{UnknownId}
use Rattle.r3_model.specs.Language.{Text, Language}
use Rattle.r3_model.specs.Event.{Run, ShowStatus, Reply, EntryOf, Row, Refused}
use Rattle.r3_model.specs.Held.{owed}
use Rattle.r3_model.specs.Machine.{shown}
use Rattle.r3_model.specs.Replies.{reply_text}
use Rattle.r3_model.specs.Run.{next}
use Rattle.r3_model.specs.Script.{Line, Does, Told}
use Rattle.r3_laws.proofs.Overlap.{drop-at, take-next}
use Rattle.r3_repeats.specs.Flows.{row_now}
use Rattle.r3_repeats.specs.Starting.{IsStartOf}
use Rattle.r3_repeats.specs.Invocations.{Invocation, told_in, GoesByMachine, AreOnOneStore, Replied, IsAcknowledged, Outlives, in_one_call, acknowledged, whole}
use Rattle.r3_repeats.specs.Laws.{AreLines, RepeatsAreAlike, AcceptedIsAccepted, AcceptedIsShown, ResultsAreAlike, StoresOneStart}
use Rattle.r3_repeats.proofs.Growing.{AllGiven, Grows, Stays, grows-refl, grows-trans, grows-at, grows-take, grows-keeps, grows-between, given-at, made-given, given-append}
use Rattle.r3_repeats.proofs.Bringing.{start-finds_none, start-brings}
use Rattle.r3_repeats.proofs.Telling.{accepted, accepts-again, named-starts}
use Rattle.r3_repeats.proofs.Placing.{line-done, after_lines, lines-come, Place, place, place-reply, place-before, place-owed, begun, begun-counted, begun-grows}

module _ (P : Language) where
  -- ---- one call

  abbrev begins : Invocation → Told
  begins i = begun P i.text i.before i.answers

  abbrev last_history : Invocation → List Entry
  last_history i = (told_in P i).trail.state.history

  abbrev PlaceIn : Invocation → ℕ → Line → Type 0
  PlaceIn i k line = Place P (begins i) i.lines k line

  -- what stands when line k was done
  abbrev done_at : (i : Invocation) (k : ℕ) (line : Line) → PlaceIn i k line → List Entry
  done_at i k line p = (line-done P p.before line).trail.state.history

  place-last : (i : Invocation) (k : ℕ) (line : Line) (p : PlaceIn i k line) → Grows P (done_at i k line p) (last_history i)
  place-last i k line p =
      let d = line-done P p.before line in
      let c = lines-come P (after_lines P p.before (line ∷ [])) p.rest in
      let At : Told → Type 0 = λ u. Grows P u.trail.state.history (last_history i) in
      let To : Told → Type 0 = λ u. Grows P (after_lines P p.before (line ∷ [])).trail.state.history u.trail.state.history in
      subst At d.is (subst To (sym p.last) c.grows)

  call-last : (i : Invocation) → Grows P i.before (last_history i)
  call-last i = grows-trans P i.before (begins i).trail.state.history (last_history i) (begun-grows P i.text i.before i.answers) (lines-come P (begins i) i.lines).grows

  call-grows : (i : Invocation) → GoesByMachine P i → Grows P i.before i.left
  call-grows i goes =
      let enough : length i.before ≤ goes.len = omega (arith, goes.held_kept, le-max_left (length i.before) (owed (told_in P i).trail.marks i.said i.asked)) in
      grows-at P i.before (take goes.len (last_history i)) i.left (sym goes.left_is) (grows-take P i.before (last_history i) goes.len (call-last i) enough)

  -- once a byte of its reply was said, what stood then is left
  place-left : (i : Invocation) (k : ℕ) (line : Line) (p : PlaceIn i k line) → GoesByMachine P i → IsAcknowledged P i k → Grows P (done_at i k line p) i.left
  place-left i k line p goes acked =
      let zero_said : k ≡ 0 + k = omega arith in
      let before : take k (told_in P i).said ≡ p.before.said = place-before P (begins i) i.lines k k line p zero_said in
      let lt : length (flat_map reply_text p.before.said) < i.said = omega (arith, ap (λ (rs : List Reply). length (flat_map reply_text rs)) before, acked) in
      let owes : length (done_at i k line p) ≤ owed (told_in P i).trail.marks i.said i.asked = place-owed P (begins i) i.lines k line p i.said i.asked (begun-counted P i.text i.before i.answers) lt in
      let enough : length (done_at i k line p) ≤ goes.len = omega (arith, owes, goes.held_kept, le-max_right (length i.before) (owed (told_in P i).trail.marks i.said i.asked)) in
      grows-at P (done_at i k line p) (take goes.len (last_history i)) i.left (sym goes.left_is) (grows-take P (done_at i k line p) (last_history i) goes.len (place-last i k line p) enough)

  -- ---- call after call

  record CallAt (h : List Entry) (calls : List Invocation) (a : ℕ) (i : Invocation) : Type 0 where
    reached : Grows P h i.before
    goes : GoesByMachine P i
    rest : AreOnOneStore P i.left (drop (suc a) calls)

  call-at : (h : List Entry) (calls : List Invocation) (a : ℕ) (i : Invocation) → AreOnOneStore P h calls → slice_get calls a ≡ Some i → CallAt h calls a i
  call-at h [] a i are is = absurd (let z : None ≡ Some i = is in cc)
  call-at h (x ∷ xs) zero i are is =
      let same : x ≡ i = (let z : Some x ≡ Some i = is in cc) in
      let Of : Invocation → Type 0 = λ y. CallAt h (x ∷ xs) 0 y in
      subst Of same (record { reached = grows-at P h h x.before (sym are.0) (grows-refl P h); goes = are.1; rest = are.2 })
  call-at h (x ∷ xs) (suc a) i are is =
      let c : CallAt x.left xs a i = call-at x.left xs a i are.2 is in
      let From : List Entry → Type 0 = λ g. Grows P g x.left in
      record {
        reached = grows-trans P h x.left i.before (subst From are.0 (call-grows x are.1)) c.reached;
        goes = c.goes;
        rest = c.rest;
      }

  -- what stood when the one line was done stands when the other is begun
  pub record Lasts (one two : Line) (r s : Reply) : Type 0 where
    pub early : Told
    pub late : Told
    pub early_reply : (line-done P early one).reply ≡ r
    pub late_reply : (line-done P late two).reply ≡ s
    pub grows : Grows P (line-done P early one).trail.state.history late.trail.state.history

  module _ (first : List Entry) (calls : List Invocation) (one two : Line) (r s : Reply) (lines : AreLines P first calls one r two s) where
    place-one : PlaceIn lines.early lines.k one
    place-one = place P (begins lines.early) lines.early.lines lines.k one lines.replied.line_is

    reply-one : (line-done P place-one.before one).reply ≡ r
    reply-one = let z : lines.k ≡ 0 + lines.k = omega arith in place-reply P (begins lines.early) lines.early.lines lines.k lines.k one r place-one z lines.replied.reply_is

    call-one : CallAt first calls lines.a lines.early
    call-one = call-at first calls lines.a lines.early lines.on_store lines.early_is

    -- in a later call
    later : lines.a < lines.b → Grows P (done_at lines.early lines.k one place-one) lines.early.left → Lasts one two r s
    later lt left =
        let n : ℕ = lines.b - suc lines.a in
        let sum : n + suc lines.a ≡ lines.b = omega (arith, lt) in
        let at : slice_get (drop (suc lines.a) calls) n ≡ Some lines.late = drop-at (suc lines.a) n calls ∙ ap (λ (m : ℕ). slice_get calls m) sum ∙ lines.late_is in
        let c : CallAt lines.early.left (drop (suc lines.a) calls) n lines.late = call-at lines.early.left (drop (suc lines.a) calls) n lines.late call-one.rest at in
        let p : PlaceIn lines.late lines.l two = place P (begins lines.late) lines.late.lines lines.l two lines.replied'.line_is in
        let z : lines.l ≡ 0 + lines.l = omega arith in
        let old : List Entry = done_at lines.early lines.k one place-one in
        let to_call : Grows P old lines.late.before = grows-trans P old lines.early.left lines.late.before left c.reached in
        let to_begin : Grows P old (begins lines.late).trail.state.history = grows-trans P old lines.late.before (begins lines.late).trail.state.history to_call (begun-grows P lines.late.text lines.late.before lines.late.answers) in
        record {
          early = place-one.before;
          late = p.before;
          early_reply = reply-one;
          late_reply = place-reply P (begins lines.late) lines.late.lines lines.l lines.l two s p z lines.replied'.reply_is;
          grows = grows-trans P old (begins lines.late).trail.state.history p.before.trail.state.history to_begin p.reached;
        }

    -- in the same call
    within : lines.a ≡ lines.b → lines.k < lines.l → Lasts one two r s
    within same lt =
        let both : Some lines.early ≡ Some lines.late = sym lines.early_is ∙ ap (λ (m : ℕ). slice_get calls m) same ∙ lines.late_is in
        let one_call : lines.early ≡ lines.late = cc in
        let Of : Invocation → Type 0 = λ i. Replied P i lines.l two s in
        let replied : Replied P lines.early lines.l two s = subst Of (sym one_call) lines.replied' in
        let n : ℕ = lines.l - suc lines.k in
        let sum : n + suc lines.k ≡ lines.l = omega (arith, lt) in
        let at : slice_get place-one.rest n ≡ Some two = ap (λ (xs : List Line). slice_get xs n) place-one.rest_is ∙ drop-at (suc lines.k) n lines.early.lines ∙ ap (λ (m : ℕ). slice_get lines.early.lines m) sum ∙ replied.line_is in
        let now : Told = after_lines P place-one.before (one ∷ []) in
        let d = line-done P place-one.before one in
        let p : Place P now place-one.rest n two = place P now place-one.rest n two at in
        let said : length now.said ≡ lines.k + 1 = ap (λ (u : Told). length u.said) d.is ∙ omega (arith, length-append place-one.before.said (d.reply ∷ []), place-one.count) in
        let From : Told → Type 0 = λ u. Grows P u.trail.state.history p.before.trail.state.history in
        record {
          early = place-one.before;
          late = p.before;
          early_reply = reply-one;
          late_reply = place-reply P now place-one.rest n lines.l two s p (omega (arith, said, sum)) (ap (λ (u : Told). slice_get u.said lines.l) (sym place-one.last) ∙ replied.reply_is);
          grows = subst From d.is p.reached;
        }

    by_outlives : Outlives P lines.early lines.a lines.k lines.b lines.l → Lasts one two r s
    by_outlives (in_one_call same lt) = within same lt
    by_outlives (acknowledged lt acked) = later lt (place-left lines.early lines.k one place-one call-one.goes acked)
    by_outlives (whole lt is) = later lt (grows-at P (done_at lines.early lines.k one place-one) (last_history lines.early) lines.early.left (sym is) (place-last lines.early lines.k one place-one))

    pub lasts : Lasts one two r s
    lasts = by_outlives lines.outlives

-- ---- the laws

same_number : (n m : ℕ) (id id' : Text) → EntryOf n id ≡ EntryOf m id' → n ≡ m
same_number n m id id' is = cc

one_row : (a b : FlowRow) → Some a ≡ Some b → a ≡ b
one_row a b is = cc

pub repeats-alike : RepeatsAreAlike
unfolding line-done
repeats-alike P first calls one two n m id starts_one starts_two lines =
    let l = lasts P first calls (Does (Run one)) (Does (Run two)) (EntryOf n id) (EntryOf m id) lines in
    let a = accepted P l.early.trail.state one l.early.trail.answers n id starts_one l.early_reply in
    let b = accepted P l.late.trail.state two l.late.trail.answers m id starts_two l.late_reply in
    let old : List Entry = (next P l.early.trail (Run one)).state.history in
    let to : Grows P old (next P l.late.trail (Run two)).state.history =
    grows-trans P old l.late.trail.state.history (next P l.late.trail (Run two)).state.history l.grows (line-done P l.late (Does (Run two))).grows in
    let s : Stays (next P l.late.trail (Run two)).state.history id a.row = grows-keeps P old (next P l.late.trail (Run two)).state.history id a.row to a.there in
    let same : s.0 ≡ b.row = one_row s.0 b.row (sym s.1 ∙ b.there) in
    sym b.number ∙ ap (λ (row : FlowRow). row.started) (sym same) ∙ s.2.started ∙ a.number

pub accepted-accepted : AcceptedIsAccepted
unfolding line-done
accepted-accepted P first calls command n id reply named lines =
    let l = lasts P first calls (Does (Run command)) (Does (Run command)) (EntryOf n id) reply lines in
    let a = accepted P l.early.trail.state command l.early.trail.answers n id (named-starts command named) l.early_reply in
    let s : Stays l.late.trail.state.history id a.row = grows-keeps P (next P l.early.trail (Run command)).state.history l.late.trail.state.history id a.row l.grows a.there in
    sym l.late_reply ∙ accepts-again P l.early.trail.state l.early.trail.answers command n id named a l.late.trail.state l.late.trail.answers s

shown-there : (id : Text) (row : FlowRow) (o : Option FlowRow) → shown id o ≡ Row id row → o ≡ Some row
shown-there id row None is = absurd (let z : Refused UnknownId ≡ Row id row = is in cc)
shown-there id row (Some r) is = let z : Row id r ≡ Row id row = is in cc

pub accepted-shown : AcceptedIsShown
unfolding line-done
accepted-shown P first calls command n id reply starts lines =
    let l = lasts P first calls (Does (Run command)) (Does (ShowStatus id)) (EntryOf n id) reply lines in
    let a = accepted P l.early.trail.state command l.early.trail.answers n id starts l.early_reply in
    let s : Stays l.late.trail.state.history id a.row = grows-keeps P (next P l.early.trail (Run command)).state.history l.late.trail.state.history id a.row l.grows a.there in
    (s.0, sym l.late_reply ∙ ap (λ (o : Option FlowRow). shown id o) s.1, s.2.started ∙ a.number)

pub results-alike : ResultsAreAlike
unfolding line-done
results-alike P first calls id row reply ended lines =
    let l = lasts P first calls (Does (ShowStatus id)) (Does (ShowStatus id)) (Row id row) reply lines in
    let there : row_now l.early.trail.state.history id ≡ Some row = shown-there id row (row_now l.early.trail.state.history id) l.early_reply in
    let s : Stays l.late.trail.state.history id row = grows-keeps P l.early.trail.state.history l.late.trail.state.history id row l.grows there in
    sym l.late_reply ∙ ap (λ (o : Option FlowRow). shown id o) (s.1 ∙ ap (λ (r : FlowRow). Some r) (s.2.ended ended))

-- ---- one start

module _ (P : Language) (h : List Entry) (given_all : AllGiven P [] h) (id : Text) where
  -- an entry that starts a workflow comes before no other
  no-later : {A : Type 0} (i j : ℕ) (e f : Entry) → slice_get h i ≡ Some e → slice_get h j ≡ Some f → IsStartOf id e.act → IsStartOf id f.act → i < j → A
  no-later i j e f at_i at_j one two lt =
      let b = start-brings P (take i h) id e one (given-at P [] h i e given_all at_i) in
      let at_next : row_now (take (i + 1) h) id ≡ Some b.0 = ap (λ (x : List Entry). row_now x id) (take-next i h e at_i) ∙ b.1 in
      let s = grows-keeps P (take (i + 1) h) (take j h) id b.0 (grows-between P [] h (i + 1) j given_all (omega (arith, lt))) at_next in
      let none : row_now (take j h) id ≡ None = start-finds_none P (take j h) id f two (given-at P [] h j f given_all at_j) in
      absurd (let z : Some s.0 ≡ None = sym s.1 ∙ none in cc)

  once : (i j : ℕ) (e f : Entry) → slice_get h i ≡ Some e → slice_get h j ≡ Some f → IsStartOf id e.act → IsStartOf id f.act → i ≡ j
  once i j e f at_i at_j one two =
      elim (cases_lt i j) [
        | inl lt ↦ no-later i j e f at_i at_j one two lt
        | inr ge ↦ elim (cases_lt j i) [ inl gt ↦ no-later j i f e at_j at_i two one gt | inr le ↦ omega (arith, ge, le) ]
      ]

pub one-start : StoresOneStart
one-start P first calls a i made are at =
    let c = call-at P first calls a i are at in
    let to : Grows P first i.left = grows-trans P first i.before i.left c.reached (call-grows P i c.goes) in
    let whole_given : AllGiven P [] (first ++ to.entries) = given-append P [] first to.entries (made-given P first made) to.given in
    let Of : List Entry → Type 0 = λ h. AllGiven P [] h in
    let all : AllGiven P [] i.left = subst Of (sym to.is) whole_given in
    λ id. once P i.left all id
