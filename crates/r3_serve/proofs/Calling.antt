-- The machine's call with one more line, and what its calls, marks and replies count.
use Rattle.std.proofs.Common.{◌≡◌, inr, ⊎_elim, ℕ, List, [], ◌∷◌, ◌++◌, length, fold, Option, refl, sym, ap, ◌∙◌, subst, append-nil}
use Rattle.std.proofs.lemmas.List.{append_assoc, map-append}
use Rattle.r3_value.specs.declared.value.Outcome.{Outcome}
use Rattle.r3_entry.specs.declared.entry.Entry.{Entry}
use Rattle.r3_model.specs.Language.{Language, Text}
use Rattle.r3_model.specs.Event.{Reply, Call, NotRead, NotForm}
use Rattle.r3_model.specs.Held.{Mark, Said, said_by, asked_by}
use Rattle.r3_model.specs.Laws.{OnlyAppends, DrainsByTurns}
use Rattle.r3_model.specs.Machine.{State}
use Rattle.r3_model.specs.Replies.{reply_text}
use Rattle.r3_model.specs.Run.{Trail, from_state, next}
use Rattle.r3_model.specs.Drain.{Plain, drained}
use Rattle.r3_model.specs.Script.{Line, Does, Drain, Unread, Unformed, Told, saying, answered, called}
use Rattle.r3_recover.specs.Drained.{Drains, answers_of}
use Rattle.r3_session.specs.Answered.{AnswersTo, IsPart}
use Rattle.r3_serve.specs.Served.{IsTold, Calls, Loud, said_of}
use Rattle.r3_serve.proofs.Owing.{AreWithin}
use Rattle.r3_serve.proofs.Counting.{Counts, IsCounted, counts-start, counts-drained, counts-line, counts-called}

-- ---- one more line

lines-more : (P : Language) (told : Told) (lines : List Line) (line : Line) → fold (answered P) told (lines ++ line ∷ []) ≡ answered P (fold (answered P) told lines) line
lines-more P told [] line = refl
lines-more P told (l ∷ ls) line = lines-more P (answered P told l) ls line

answers-more : (calls more : List Call) (rest : List (Option Outcome)) → answers_of (calls ++ more) ++ rest ≡ answers_of calls ++ (answers_of more ++ rest)
answers-more calls more rest =
    ap (λ (os : List (Option Outcome)). os ++ rest) (map-append (λ (c : Call). c.answer) calls more)
    ∙ append_assoc (answers_of calls) (answers_of more) rest

module _ (P : Language) (text : Text) (h : List Entry) (lines : List Line) (line : Line) where
  pub calls-more : (before after : State) (calls more : List Call) (marks made : List Mark) (replies : List Reply) (reply : Reply)
      → Calls P text h lines before calls marks replies → AnswersTo P line before after more made reply
      → Calls P text h (lines ++ line ∷ []) after (calls ++ more) (marks ++ (made ++ Said (length (reply_text reply)) (length after.history) ∷ [])) (replies ++ reply ∷ [])
  calls-more before after calls more marks made replies reply come goes = λ rest.
      let answers : List (Option Outcome) = answers_of calls ++ (answers_of more ++ rest) in
      let told : Told = called P text h lines answers in
      let was = come (answers_of more ++ rest) in
      let x = goes told rest (was.state, was.answers) in
      let u : Trail = x.0 in
      let mark : List Mark = Said (length (reply_text reply)) (length u.state.history) ∷ [] in
      let is : called P text h (lines ++ line ∷ []) (answers_of (calls ++ more) ++ rest) ≡ saying told u reply =
      ap (λ (os : List (Option Outcome)). called P text h (lines ++ line ∷ []) os) (answers-more calls more rest)
      ∙ lines-more P (called P text h [] answers) lines line ∙ x.2 in
      subst (λ (t : Told). IsTold t after (calls ++ more) (marks ++ (made ++ Said (length (reply_text reply)) (length after.history) ∷ [])) (replies ++ reply ∷ []) rest) (sym is)
      (record {
        state = x.1.state;
        calls_are = x.1.calls_are ∙ ap (λ (cs : List Call). cs ++ more) was.calls_are;
        marks_are =
            ap (λ (ms : List Mark). ms ++ mark) (x.1.marks_are ∙ ap (λ (ms : List Mark). ms ++ made) was.marks_are)
            ∙ append_assoc marks made mark
            ∙ ap (λ (st : State). marks ++ (made ++ Said (length (reply_text reply)) (length st.history) ∷ [])) x.1.state;
        answers = x.1.answers;
        replies_are = ap (λ (rs : List Reply). rs ++ reply ∷ []) was.replies_are;
      })

-- ---- what it counts

pub record Facts (h : List Entry) (after : State) (calls : List Call) (marks : List Mark) (replies : List Reply) : Type 0 where
  pub more : List Entry
  pub grown : after.history ≡ h ++ more
  pub said : said_by marks ≡ length (said_of Loud replies)
  pub asked : asked_by marks ≡ length calls
  pub within : AreWithin (length after.history) marks

pub facts : OnlyAppends → DrainsByTurns → (P : Language) (text : Text) (h : List Entry) (lines : List Line) (after : State) (calls : List Call) (marks : List Mark) (replies : List Reply)
    → Calls P text h lines after calls marks replies → Facts h after calls marks replies
facts appends drains P text h lines after calls marks replies come =
    let told : Told = called P text h lines (answers_of calls ++ []) in
    let is = come [] in
    let c : IsCounted h told = counts-called appends drains P text h lines (answers_of calls ++ []) in
    record {
      more = c.more;
      grown = ap (λ (st : State). st.history) (sym is.state) ∙ c.grown;
      said = ap (λ (ms : List Mark). said_by ms) (sym is.marks_are) ∙ c.said ∙ ap (λ (rs : List Reply). length (said_of Loud rs)) is.replies_are;
      asked = ap (λ (ms : List Mark). asked_by ms) (sym is.marks_are) ∙ c.asked ∙ ap (λ (cs : List Call). length cs) is.calls_are;
      within = subst (λ (st : State). AreWithin (length st.history) marks) is.state
          (subst (λ (ms : List Mark). AreWithin (length told.trail.state.history) ms) is.marks_are c.within);
    }

-- ---- a history only grows

abbrev pub Grows : State → State → Type 0
Grows old new = (more : List Entry) × (new.history ≡ old.history ++ more)

module _ (appends : OnlyAppends) (drains : DrainsByTurns) (P : Language) (old new : State) (calls : List Call) (marks : List Mark) where
  abbrev first : Trail
  first = from_state old (answers_of calls ++ [])

  pub answers-grow : (line : Line) (reply : Reply) → AnswersTo P line old new calls marks reply → Grows old new
  answers-grow line reply goes =
      let told : Told = record { trail = from_state old (answers_of calls ++ []); said = [] } in
      let x = goes told [] (refl, refl) in
      let c : IsCounted old.history (answered P told line) = counts-line appends drains P old.history line told (counts-start old (answers_of calls ++ [])) in
      let same : (answered P told line).trail.state ≡ new = ap (λ (t : Told). t.trail.state) x.2 ∙ x.1.state in
      (c.more, ap (λ (st : State). st.history) (sym same) ∙ c.grown)

  drains-grow : (turns : ℕ) → Drains P turns old new calls marks → Grows old new
  drains-grow turns goes =
      let t : Trail = from_state old (answers_of calls ++ []) in
      let x = goes t [] (refl, refl) in
      let c : Counts old.history 0 (drained (next P) P.queues Plain turns t).trail = counts-drained appends drains P old.history 0 turns t (counts-start old (answers_of calls ++ [])) in
      (c.more, ap (λ (st : State). st.history) (sym x.state) ∙ c.grown)

  none-grow : new ≡ old → Grows old new
  none-grow same = ([], ap (λ (st : State). st.history) same ∙ sym (append-nil old.history))

  pub part-grows : (line : Line) (last : List Call) → IsPart P line old new calls marks last → Grows old new
  part-grows (Does ev) last part = ⊎_elim (λ a. none-grow a.0.0) (λ w. answers-grow (Does ev) w.0 w.1) part
  part-grows (Drain turns) last part = ⊎_elim (λ a. drains-grow a.0 a.2) (λ w. answers-grow (Drain turns) w.0 w.1) part
  part-grows Unread last part = none-grow part.0.0
  part-grows Unformed last part = none-grow part.0.0

-- ---- a line that was done whole

nothing-behind : (ms : List Mark) (a b : Mark) → a ∷ [] ≡ ms ++ b ∷ [] → ms ≡ []
nothing-behind [] a b is = refl
nothing-behind (m ∷ []) a b is = absurd (let e : a ∷ [] ≡ m ∷ b ∷ [] = is in cc)
nothing-behind (m ∷ n ∷ ms) a b is = absurd (let e : a ∷ [] ≡ m ∷ n ∷ (ms ++ b ∷ []) = is in cc)

-- where the machine does nothing, nothing was done
stays : (P : Language) (line : Line) (old new : State) (calls : List Call) (marks : List Mark) (reply said : Reply)
    → ((told : Told) → answered P told line ≡ saying told told.trail said) → AnswersTo P line old new calls marks reply
    → (new ≡ old) × (calls ≡ []) × (marks ≡ [])
stays P line old new calls marks reply said idle goes =
    let told : Told = record { trail = from_state old (answers_of calls ++ []); said = [] } in
    let x = goes told [] (refl, refl) in
    let u : Trail = x.0 in
    let same : saying told told.trail said ≡ saying told u reply = sym (idle told) ∙ x.2 in
    let at : old ≡ u.state = ap (λ (t : Told). t.trail.state) same in
    let asked : [] ≡ u.calls = ap (λ (t : Told). t.trail.calls) same in
    let made : Said (length (reply_text said)) (length old.history) ∷ [] ≡ u.marks ++ Said (length (reply_text reply)) (length u.state.history) ∷ [] =
    ap (λ (t : Told). t.trail.marks) same in (
      sym x.1.state ∙ sym at,
      sym (asked ∙ x.1.calls_are),
      sym x.1.marks_are ∙ nothing-behind u.marks (Said (length (reply_text said)) (length old.history)) (Said (length (reply_text reply)) (length u.state.history)) made,
    )

pub part-whole : (P : Language) (line : Line) (old new : State) (calls : List Call) (marks : List Mark) (reply : Reply)
    → AnswersTo P line old new calls marks reply → IsPart P line old new calls marks []
part-whole P (Does ev) old new calls marks reply goes = inr (reply, goes, refl)
part-whole P (Drain turns) old new calls marks reply goes = inr (reply, goes, refl)
part-whole P Unread old new calls marks reply goes = (stays P Unread old new calls marks reply NotRead (λ told. refl) goes, refl)
part-whole P Unformed old new calls marks reply goes = (stays P Unformed old new calls marks reply NotForm (λ told. refl) goes, refl)
