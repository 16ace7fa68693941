-- The lines of a call one after another: what stands when each is answered, and what is owed once its reply was said.
use Rattle.std.proofs.Common.{◌≡◌, ℕ, suc, zero, ◌+◌, ◌-◌, ◌<◌, ◌≤◌, List, [], ◌∷◌, ◌++◌, map, drop, take, length, Option, Some, None, refl, sym, subst, ap, ◌∙◌, arith, length-append}
use Rattle.std.specs.Prelude.{fold, flat_map, slice_get}
use Rattle.std.proofs.Math.Nat.{le-max_left, le-max_right}
use Rattle.std.proofs.lemmas.Grind.{flat_map-append}
use Rattle.std.proofs.lemmas.List.{append_assoc, append-nil, take_at}
use Rattle.r3_value.specs.declared.value.Outcome.{Outcome}
use Rattle.r3_entry.specs.declared.entry.Entry.{Entry}
use Rattle.r3_model.specs.Language.{Text, Language}
use Rattle.r3_model.specs.Event.{Event, Reply, Call, NotRead, NotForm}
use Rattle.r3_model.specs.Held.{Mark, Said, Asked, said_by, due, owed, asks_of}
use Rattle.r3_model.specs.Machine.{step}
use Rattle.r3_model.specs.Replies.{reply_text}
use Rattle.r3_model.specs.Run.{Trail, from_state, restarted, next, run, opening_events}
use Rattle.r3_model.specs.Script.{Line, Does, Drain, Unread, Unformed, Told, saying, answered, opened}
use Rattle.r3_model.specs.Drain.{Plain, drained}
use Rattle.r3_model.proofs.Drains.{drained-run}
use Rattle.r3_repeats.proofs.Growing.{Grows, grows-refl, grows-trans, next-grows, run-grows, drain-grows}

-- ---- marks of calls alone

pub record Asks (t u : Trail) : Type 0 where
  pub more : List Mark
  pub is : u.marks ≡ t.marks ++ more
  pub silent : said_by more ≡ 0

said-append : (a b : List Mark) → said_by (a ++ b) ≡ said_by a + said_by b
said-append [] b = let z : said_by b ≡ 0 + said_by b = omega arith in z
said-append (Said bytes kept ∷ a) b = omega (arith, said-append a b)
said-append (Asked kept ∷ a) b = said-append a b

asks-silent : (n : ℕ) (calls : List Call) → said_by (map (λ (c : Call). Asked n) calls) ≡ 0
asks-silent n [] = refl
asks-silent n (c ∷ cs) = asks-silent n cs

pub asks-refl : (t : Trail) → Asks t t
asks-refl t = record { more = []; is = sym (append-nil t.marks); silent = refl }

asks-trans : (t u v : Trail) → Asks t u → Asks u v → Asks t v
asks-trans t u v one two = record {
  more = one.more ++ two.more;
  is = two.is ∙ ap (λ (ms : List Mark). ms ++ two.more) one.is ∙ append_assoc t.marks one.more two.more;
  silent = omega (arith, said-append one.more two.more, one.silent, two.silent);
}

module _ (P : Language) where
  pub next-asks : (t : Trail) (ev : Event) → Asks t (next P t ev)
  next-asks t ev = record { more = asks_of t.state (step P t.state ev t.answers); is = refl; silent = asks-silent (length t.state.history) (step P t.state ev t.answers).calls }

  run-asks : (t : Trail) (evs : List Event) → Asks t (run P t evs)
  run-asks t [] = asks-refl t
  run-asks t (ev ∷ evs) = asks-trans t (next P t ev) (run P (next P t ev) evs) (next-asks t ev) (run-asks (next P t ev) evs)

  pub drain-asks : (n : ℕ) (t : Trail) → Asks t (drained (next P) P.queues Plain n t).trail
  drain-asks n t =
      let d = drained-run P Plain n t in
      let Of : Trail → Type 0 = λ u. Asks t u in
      subst Of (sym d.3) (run-asks t d.0)

  -- ---- one line

  -- its events are done, and then its reply is said
  pub record DoesLine (told : Told) (line : Line) : Type 0 where
    pub trail : Trail
    pub reply : Reply
    pub is : answered P told line ≡ saying told trail reply
    pub grows : Grows P told.trail.state.history trail.state.history
    pub asks : Asks told.trail trail

  unfoldable pub line-done : (told : Told) (line : Line) → DoesLine told line
  line-done told (Does ev) = record {
    trail = next P told.trail ev;
    reply = (next P told.trail ev).last;
    is = refl;
    grows = next-grows P told.trail ev;
    asks = next-asks told.trail ev;
  }
  line-done told (Drain turns) = record {
    trail = (drained (next P) P.queues Plain turns told.trail).trail;
    reply = (drained (next P) P.queues Plain turns told.trail).reply;
    is = refl;
    grows = drain-grows P Plain turns told.trail;
    asks = drain-asks turns told.trail;
  }
  line-done told Unread = record { trail = told.trail; reply = NotRead; is = refl; grows = grows-refl P told.trail.state.history; asks = asks-refl told.trail }
  line-done told Unformed = record { trail = told.trail; reply = NotForm; is = refl; grows = grows-refl P told.trail.state.history; asks = asks-refl told.trail }

  -- the marks tell how many bytes were said
  abbrev pub Counted : Told → Type 0
  Counted told = said_by told.trail.marks ≡ length (flat_map reply_text told.said)

  said-more : (replies : List Reply) (r : Reply) → length (flat_map reply_text (replies ++ r ∷ [])) ≡ length (flat_map reply_text replies) + length (reply_text r)
  said-more replies r =
      ap (λ (s : Text). length s) (flat_map-append reply_text replies (r ∷ []) ∙ ap (λ (s : Text). flat_map reply_text replies ++ s) (append-nil (reply_text r)))
      ∙ length-append (flat_map reply_text replies) (reply_text r)

  saying-counted : (told : Told) (t : Trail) (r : Reply) → Asks told.trail t → Counted told → Counted (saying told t r)
  saying-counted told t r asks counted =
      let marks : said_by t.marks ≡ said_by told.trail.marks = omega (arith, ap (λ (ms : List Mark). said_by ms) asks.is, said-append told.trail.marks asks.more, asks.silent) in
      let last : said_by (Said (length (reply_text r)) (length t.state.history) ∷ []) ≡ length (reply_text r) = omega arith in
      omega (arith, said-append t.marks (Said (length (reply_text r)) (length t.state.history) ∷ []), last, marks, counted, said-more told.said r)

  pub answered-counted : (told : Told) (line : Line) → Counted told → Counted (answered P told line)
  answered-counted told line counted =
      let d = line-done told line in
      subst Counted (sym d.is) (saying-counted told d.trail d.reply d.asks counted)

  pub lines-counted : (told : Told) (lines : List Line) → Counted told → Counted (fold (answered P) told lines)
  lines-counted told [] counted = counted
  lines-counted told (line ∷ lines) counted = lines-counted (answered P told line) lines (answered-counted told line counted)

  pub answered-grows : (told : Told) (line : Line) → Grows P told.trail.state.history (answered P told line).trail.state.history
  answered-grows told line =
      let d = line-done told line in
      let Of : Told → Type 0 = λ u. Grows P told.trail.state.history u.trail.state.history in
      subst Of (sym d.is) d.grows

  answered-length : (told : Told) (line : Line) → length (answered P told line).said ≡ length told.said + 1
  answered-length told line =
      let d = line-done told line in
      ap (λ (u : Told). length u.said) d.is ∙ length-append told.said (d.reply ∷ [])

  -- ---- all lines

  abbrev pub after_lines : Told → List Line → Told
  after_lines told lines = fold (answered P) told lines

  pub record Comes (told to : Told) : Type 0 where
    pub grows : Grows P told.trail.state.history to.trail.state.history
    pub marks : List Mark
    pub marks_are : to.trail.marks ≡ told.trail.marks ++ marks
    pub replies : List Reply
    pub replies_are : to.said ≡ told.said ++ replies

  comes-refl : (told : Told) → Comes told told
  comes-refl told = record { grows = grows-refl P told.trail.state.history; marks = []; marks_are = sym (append-nil told.trail.marks); replies = []; replies_are = sym (append-nil told.said) }

  comes-trans : (a b c : Told) → Comes a b → Comes b c → Comes a c
  comes-trans a b c one two = record {
    grows = grows-trans P a.trail.state.history b.trail.state.history c.trail.state.history one.grows two.grows;
    marks = one.marks ++ two.marks;
    marks_are = two.marks_are ∙ ap (λ (ms : List Mark). ms ++ two.marks) one.marks_are ∙ append_assoc a.trail.marks one.marks two.marks;
    replies = one.replies ++ two.replies;
    replies_are = two.replies_are ∙ ap (λ (rs : List Reply). rs ++ two.replies) one.replies_are ∙ append_assoc a.said one.replies two.replies;
  }

  line-comes : (told : Told) (line : Line) → Comes told (answered P told line)
  line-comes told line =
      let d = line-done told line in
      let said : List Mark = Said (length (reply_text d.reply)) (length d.trail.state.history) ∷ [] in
      let Of : Told → Type 0 = λ u. Comes told u in
      subst Of (sym d.is) (record {
        grows = d.grows;
        marks = d.asks.more ++ said;
        marks_are = ap (λ (ms : List Mark). ms ++ said) d.asks.is ∙ append_assoc told.trail.marks d.asks.more said;
        replies = d.reply ∷ [];
        replies_are = refl;
      })

  pub lines-come : (told : Told) (lines : List Line) → Comes told (after_lines told lines)
  lines-come told [] = comes-refl told
  lines-come told (line ∷ lines) = comes-trans told (answered P told line) (after_lines (answered P told line) lines) (line-comes told line) (lines-come (answered P told line) lines)

  -- ---- line k

  pub record Place (told : Told) (lines : List Line) (k : ℕ) (line : Line) : Type 0 where
    pub before : Told
    pub rest : List Line
    pub rest_is : rest ≡ drop (suc k) lines
    pub reached : Grows P told.trail.state.history before.trail.state.history
    pub counted : Counted told → Counted before
    pub count : length before.said ≡ length told.said + k
    pub last : after_lines told lines ≡ after_lines (answered P before line) rest

  pub place : (told : Told) (lines : List Line) (k : ℕ) (line : Line) → slice_get lines k ≡ Some line → Place told lines k line
  place told [] k line is = absurd (let z : None ≡ Some line = is in cc)
  place told (x ∷ xs) zero line is =
      let same : x ≡ line = (let z : Some x ≡ Some line = is in cc) in
      record {
        before = told;
        rest = xs;
        rest_is = refl;
        reached = grows-refl P told.trail.state.history;
        counted = λ counted. counted;
        count = (let z : length told.said ≡ length told.said + 0 = omega arith in z);
        last = ap (λ (y : Line). after_lines (answered P told y) xs) same;
      }
  place told (x ∷ xs) (suc k) line is =
      let next_told : Told = answered P told x in
      let p : Place next_told xs k line = place next_told xs k line is in
      record {
        before = p.before;
        rest = p.rest;
        rest_is = p.rest_is;
        reached = grows-trans P told.trail.state.history next_told.trail.state.history p.before.trail.state.history (answered-grows told x) p.reached;
        counted = λ counted. p.counted (answered-counted told x counted);
        count = omega (arith, p.count, answered-length told x);
        last = p.last;
      }

  -- its reply stands at place k
  nth : {X : Type 0} (xs ys : List X) (x : X) (n : ℕ) → n ≡ length xs → slice_get ((xs ++ x ∷ []) ++ ys) n ≡ Some x
  nth [] ys x zero is = refl
  nth [] ys x (suc n) is = absurd (omega (arith, is))
  nth (y ∷ xs) ys x zero is = absurd (omega (arith, is))
  nth (y ∷ xs) ys x (suc n) is = nth xs ys x n (omega (arith, is))

  pub place-said : (told : Told) (lines : List Line) (k : ℕ) (line : Line) (p : Place told lines k line) → (after_lines told lines).said ≡ (p.before.said ++ (line-done p.before line).reply ∷ []) ++ (lines-come (answered P p.before line) p.rest).replies
  place-said told lines k line p =
      let d = line-done p.before line in
      let c = lines-come (answered P p.before line) p.rest in
      ap (λ (u : Told). u.said) p.last ∙ c.replies_are ∙ ap (λ (u : Told). u.said ++ c.replies) d.is

  pub place-reply : (told : Told) (lines : List Line) (k n : ℕ) (line : Line) (reply : Reply) (p : Place told lines k line) → n ≡ length told.said + k → slice_get (after_lines told lines).said n ≡ Some reply → (line-done p.before line).reply ≡ reply
  place-reply told lines k n line reply p n_is is =
      let d = line-done p.before line in
      let c = lines-come (answered P p.before line) p.rest in
      let at : slice_get (after_lines told lines).said n ≡ Some d.reply = ap (λ (rs : List Reply). slice_get rs n) (place-said told lines k line p) ∙ nth p.before.said c.replies d.reply n (omega (arith, n_is, p.count)) in
      let both : Some d.reply ≡ Some reply = sym at ∙ is in
      cc

  -- those before it are the first k
  pub place-before : (told : Told) (lines : List Line) (k n : ℕ) (line : Line) (p : Place told lines k line) → n ≡ length told.said + k → take n (after_lines told lines).said ≡ p.before.said
  place-before told lines k n line p n_is =
      let d = line-done p.before line in
      let c = lines-come (answered P p.before line) p.rest in
      ap (λ (rs : List Reply). take n rs) (place-said told lines k line p ∙ append_assoc p.before.said (d.reply ∷ []) c.replies)
      ∙ take_at p.before.said (d.reply ∷ [] ++ c.replies) n (omega (arith, n_is, p.count))

  -- ---- what is owed

  owed-said : (first : List Mark) (bytes kept : ℕ) (later : List Mark) (n m : ℕ) → said_by first < n → kept ≤ owed (first ++ Said bytes kept ∷ later) n m
  owed-said [] bytes kept later zero m lt = absurd (omega (arith, lt))
  owed-said [] bytes kept later (suc n) m lt = le-max_left kept (owed later (suc n - bytes) m)
  owed-said (Said b k ∷ first) bytes kept later n m lt =
      let rest : kept ≤ owed (first ++ Said bytes kept ∷ later) (n - b) m = owed-said first bytes kept later (n - b) m (omega (arith, lt)) in
      omega (arith, rest, le-max_right (due n k) (owed (first ++ Said bytes kept ∷ later) (n - b) m))
  owed-said (Asked k ∷ first) bytes kept later n m lt =
      let rest : kept ≤ owed (first ++ Said bytes kept ∷ later) n (m - 1) = owed-said first bytes kept later n (m - 1) lt in
      omega (arith, rest, le-max_right (due m k) (owed (first ++ Said bytes kept ∷ later) n (m - 1)))

  -- once a byte of its reply was said, all that stood then is owed
  pub place-owed : (told : Told) (lines : List Line) (k : ℕ) (line : Line) (p : Place told lines k line) (n m : ℕ) → Counted told → length (flat_map reply_text p.before.said) < n
      → length (line-done p.before line).trail.state.history ≤ owed (after_lines told lines).trail.marks n m
  place-owed told lines k line p n m counted lt =
      let d = line-done p.before line in
      let c = lines-come (answered P p.before line) p.rest in
      let said : Mark = Said (length (reply_text d.reply)) (length d.trail.state.history) in
      let marks : (after_lines told lines).trail.marks ≡ d.trail.marks ++ said ∷ c.marks =
      ap (λ (u : Told). u.trail.marks) p.last ∙ c.marks_are ∙ ap (λ (u : Told). u.trail.marks ++ c.marks) d.is ∙ append_assoc d.trail.marks (said ∷ []) c.marks in
      let first : said_by d.trail.marks ≡ length (flat_map reply_text p.before.said) =
      (let same : said_by d.trail.marks ≡ said_by p.before.trail.marks = omega (arith, ap (λ (ms : List Mark). said_by ms) d.asks.is, said-append p.before.trail.marks d.asks.more, d.asks.silent) in same ∙ p.counted counted) in
      let enough : length d.trail.state.history ≤ owed (d.trail.marks ++ said ∷ c.marks) n m = owed-said d.trail.marks (length (reply_text d.reply)) (length d.trail.state.history) c.marks n m (omega (arith, first, lt)) in
      let Of : List Mark → Type 0 = λ ms. length d.trail.state.history ≤ owed ms n m in
      subst Of (sym marks) enough

  -- ---- a call begins

  abbrev pub begun : Text → List Entry → List (Option Outcome) → Told
  begun text h answers = record { trail = opened P text h answers; said = [] }

  pub begun-counted : (text : Text) (h : List Entry) (answers : List (Option Outcome)) → Counted (begun text h answers)
  begun-counted text h answers =
      let a = run-asks (from_state (restarted h) answers) (opening_events text (restarted h)) in
      ap (λ (ms : List Mark). said_by ms) a.is ∙ a.silent

  pub begun-grows : (text : Text) (h : List Entry) (answers : List (Option Outcome)) → Grows P h (begun text h answers).trail.state.history
  begun-grows text h answers = run-grows P (from_state (restarted h) answers) (opening_events text (restarted h))
