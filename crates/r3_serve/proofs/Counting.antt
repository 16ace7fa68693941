-- Along a run of the machine: its marks count the bytes said and the calls asked, none is of more entries than there
-- are, and the history only grows.
use Rattle.std.proofs.Common.{◌≡◌, ℕ, ◌+◌, ◌≤◌, List, [], ◌∷◌, ◌++◌, map, length, flat_map, fold, Option, refl, sym, ap, ◌∙◌, subst, arith, append-nil, length-append}
use Rattle.std.proofs.lemmas.List.{append_assoc}
use Rattle.std.proofs.lemmas.List.Concat.{flat_map-append}
use Rattle.r3_value.specs.declared.value.Outcome.{Outcome}
use Rattle.r3_entry.specs.declared.entry.Entry.{Entry}
use Rattle.r3_model.specs.Language.{Language, Text}
use Rattle.r3_model.specs.Event.{Event, Reply, Call, NotRead, NotForm}
use Rattle.r3_model.specs.Held.{Mark, Said, Asked, said_by, asked_by, asks_of}
use Rattle.r3_model.specs.Laws.{OnlyAppends, DrainsByTurns}
use Rattle.r3_model.specs.Machine.{State, Out, step}
use Rattle.r3_model.specs.Replies.{reply_text}
use Rattle.r3_model.specs.Run.{Trail, from_state, restarted, next, run, opening_events}
use Rattle.r3_model.specs.Drain.{Plain, drained}
use Rattle.r3_model.specs.Script.{Line, Does, Drain, Unread, Unformed, Told, saying, answered, opened, called}
use Rattle.r3_serve.proofs.Owing.{AreWithin, within-more, within-higher, said-more, asked-more}

-- a trail whose history grew from this one, and whose marks are of so many bytes said
pub record Counts (h : List Entry) (bytes : ℕ) (t : Trail) : Type 0 where
  pub more : List Entry
  pub grown : t.state.history ≡ h ++ more
  pub said : said_by t.marks ≡ bytes
  pub asked : asked_by t.marks ≡ length t.calls
  pub within : AreWithin (length t.state.history) t.marks

-- with all replies that were said
abbrev pub IsCounted : List Entry → Told → Type 0
IsCounted h told = Counts h (length (flat_map reply_text told.said)) told.trail

on-said : (kept : ℕ) (calls : List Call) → said_by (map (λ (c : Call). Asked kept) calls) ≡ 0
on-said kept [] = refl
on-said kept (c ∷ cs) = on-said kept cs

on-asked : (kept : ℕ) (calls : List Call) → asked_by (map (λ (c : Call). Asked kept) calls) ≡ length calls
on-asked kept [] = refl
on-asked kept (c ∷ cs) = omega (arith, on-asked kept cs)

on-within : (kept most : ℕ) (calls : List Call) → kept ≤ most → AreWithin most (map (λ (c : Call). Asked kept) calls)
on-within kept most [] le = tt
on-within kept most (c ∷ cs) le = (le, on-within kept most cs le)

pub counts-start : (st : State) (answers : List (Option Outcome)) → Counts st.history 0 (from_state st answers)
counts-start st answers = record { more = []; grown = sym (append-nil st.history); said = refl; asked = refl; within = tt }

module _ (appends : OnlyAppends) (drains : DrainsByTurns) (P : Language) (h : List Entry) where
  counts-next : (bytes : ℕ) (t : Trail) (ev : Event) → Counts h bytes t → Counts h bytes (next P t ev)
  counts-next bytes t ev c =
      let o : Out = step P t.state ev t.answers in
      let kept : ℕ = length t.state.history in
      let law = appends P t.state ev t.answers in
      let higher : kept ≤ length o.state.history = omega (arith, ap (λ (es : List Entry). length es) law.2, length-append t.state.history law.0) in
      record {
        more = c.more ++ law.0;
        grown = law.2 ∙ ap (λ (es : List Entry). es ++ law.0) c.grown ∙ append_assoc h c.more law.0;
        said = omega (arith, said-more t.marks (asks_of t.state o), on-said kept o.calls, c.said);
        asked = omega (arith, asked-more t.marks (asks_of t.state o), on-asked kept o.calls, c.asked, length-append t.calls o.calls);
        within = within-more (length o.state.history) t.marks (asks_of t.state o)
            (within-higher kept (length o.state.history) t.marks higher c.within) (on-within kept (length o.state.history) o.calls higher);
      }

  counts-run : (bytes : ℕ) (evs : List Event) (t : Trail) → Counts h bytes t → Counts h bytes (run P t evs)
  counts-run bytes [] t c = c
  counts-run bytes (ev ∷ evs) t c = counts-run bytes evs (next P t ev) (counts-next bytes t ev c)

  pub counts-drained : (bytes turns : ℕ) (t : Trail) → Counts h bytes t → Counts h bytes (drained (next P) P.queues Plain turns t).trail
  counts-drained bytes turns t c =
      let law = drains P Plain turns t in
      subst (λ (u : Trail). Counts h bytes u) (sym law.3) (counts-run bytes law.0 t c)

  counts-saying : (told : Told) (u : Trail) (reply : Reply) → Counts h (length (flat_map reply_text told.said)) u → IsCounted h (saying told u reply)
  counts-saying told u reply c =
      let mark : List Mark = Said (length (reply_text reply)) (length u.state.history) ∷ [] in
      let text : flat_map reply_text (told.said ++ reply ∷ []) ≡ flat_map reply_text told.said ++ (reply_text reply ++ []) = flat_map-append reply_text told.said (reply ∷ []) in
      let bytes : length (flat_map reply_text (told.said ++ reply ∷ [])) ≡ length (flat_map reply_text told.said) + length (reply_text reply) =
      ap (λ (t : Text). length t) (text ∙ ap (λ (t : Text). flat_map reply_text told.said ++ t) (append-nil (reply_text reply)))
      ∙ length-append (flat_map reply_text told.said) (reply_text reply) in
      record {
        more = c.more;
        grown = c.grown;
        said = omega (arith, said-more u.marks mark, c.said, bytes);
        asked = omega (arith, asked-more u.marks mark, c.asked);
        within = within-more (length u.state.history) u.marks mark c.within (omega arith, tt);
      }

  pub counts-line : (line : Line) (told : Told) → IsCounted h told → IsCounted h (answered P told line)
  counts-line (Does ev) told c = counts-saying told (next P told.trail ev) (next P told.trail ev).last (counts-next (length (flat_map reply_text told.said)) told.trail ev c)
  counts-line (Drain turns) told c =
      let d = drained (next P) P.queues Plain turns told.trail in
      counts-saying told d.trail d.reply (counts-drained (length (flat_map reply_text told.said)) turns told.trail c)
  counts-line Unread told c = counts-saying told told.trail NotRead c
  counts-line Unformed told c = counts-saying told told.trail NotForm c

  counts-lines : (lines : List Line) (told : Told) → IsCounted h told → IsCounted h (fold (answered P) told lines)
  counts-lines [] told c = c
  counts-lines (line ∷ lines) told c = counts-lines lines (answered P told line) (counts-line line told c)

pub counts-called : OnlyAppends → DrainsByTurns → (P : Language) (text : Text) (h : List Entry) (lines : List Line) (answers : List (Option Outcome))
    → IsCounted h (called P text h lines answers)
counts-called appends drains P text h lines answers =
    counts-lines appends drains P h lines (record { trail = opened P text h answers; said = [] })
    (counts-run appends drains P h 0 (opening_events text (restarted h)) (from_state (restarted h) answers) (counts-start (restarted h) answers))
