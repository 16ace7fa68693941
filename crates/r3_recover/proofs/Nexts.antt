-- One more event of a run, of which the machine's step is known.
use Rattle.std.proofs.Common.{◌≡◌, List, [], ◌∷◌, ◌++◌, length, drop, Option, refl, sym, ap, ◌∙◌, append-nil}
use Rattle.std.proofs.lemmas.List.{append_assoc, map-append}
use Rattle.r3_value.specs.declared.value.Outcome.{Outcome}
use Rattle.r3_model.specs.Language.{Language}
use Rattle.r3_model.specs.Event.{Event, Reply, Call}
use Rattle.r3_model.specs.Goes.{Steps}
use Rattle.r3_model.specs.Held.{Mark, asks_of}
use Rattle.r3_model.specs.Machine.{State, Out, step}
use Rattle.r3_model.specs.Run.{Trail, next}
use Rattle.r3_recover.specs.Drained.{Comes, IsAt, answers_of}
use Rattle.r3_recover.specs.Kept.{marks_on}
use Rattle.r3_recover.proofs.Asking.{step-steps}

drop-answers : (calls : List Call) (rest : List (Option Outcome)) → drop (length calls) (answers_of calls ++ rest) ≡ rest
drop-answers [] rest = refl
drop-answers (c ∷ cs) rest = drop-answers cs rest

module _ (P : Language) where
  -- the run goes on by the event's calls
  pub record Next (t u : Trail) (new : State) (reply : Reply) (calls : List Call) (marks : List Mark) (rest : List (Option Outcome)) : Type 0 where
    pub comes : Comes t u new calls marks rest
    pub last : u.last ≡ reply

  pub next-comes : (t : Trail) (rest : List (Option Outcome)) (st new : State) (ev : Event) (reply : Reply) (calls : List Call) → Steps P st ev reply calls new → IsAt st calls rest t
      → Next t (next P t ev) new reply calls (marks_on st.history calls) rest
  next-comes t rest st new ev reply calls s here =
      let o : step P t.state ev t.answers ≡ record { state = new; reply = reply; calls = calls } =
      ap (λ (x : State). step P x ev t.answers) here.0 ∙ ap (λ (xs : List (Option Outcome)). step P st ev xs) here.1 ∙ step-steps P st new ev reply calls rest s in
      record {
        comes = record {
          state = ap (λ (x : Out). x.state) o;
          calls_are = ap (λ (x : Out). t.calls ++ x.calls) o;
          marks_are = ap (λ (x : Out). t.marks ++ asks_of t.state x) o ∙ ap (λ (x : State). t.marks ++ marks_on x.history calls) here.0;
          answers = ap (λ (x : Out). drop (length x.calls) t.answers) o ∙ ap (λ (xs : List (Option Outcome)). drop (length calls) xs) here.1 ∙ drop-answers calls rest;
        };
        last = ap (λ (x : Out). x.reply) o;
      }

  -- one stretch of a run after another
  pub comes-then : (t u v : Trail) (mid new : State) (ks ks' : List Call) (ms ms' : List Mark) (rest : List (Option Outcome))
      → Comes t u mid ks ms (answers_of ks' ++ rest) → Comes u v new ks' ms' rest → Comes t v new (ks ++ ks') (ms ++ ms') rest
  comes-then t u v mid new ks ks' ms ms' rest first second = record {
    state = second.state;
    calls_are = second.calls_are ∙ ap (λ (x : List Call). x ++ ks') first.calls_are ∙ append_assoc t.calls ks ks';
    marks_are = second.marks_are ∙ ap (λ (x : List Mark). x ++ ms') first.marks_are ∙ append_assoc t.marks ms ms';
    answers = second.answers;
  }

  -- the answers of the first calls come first
  pub at-first : (st : State) (ks ks' : List Call) (rest : List (Option Outcome)) (t : Trail) → IsAt st (ks ++ ks') rest t → IsAt st ks (answers_of ks' ++ rest) t
  at-first st ks ks' rest t here = (
    here.0,
    here.1 ∙ ap (λ (x : List (Option Outcome)). x ++ rest) (map-append (λ (c : Call). c.answer) ks ks') ∙ append_assoc (answers_of ks) (answers_of ks') rest,
  )

  pub nothing-comes : (t : Trail) (st : State) (rest : List (Option Outcome)) → IsAt st [] rest t → Comes t t st [] [] rest
  nothing-comes t st rest here = record { state = here.0; calls_are = sym (append-nil t.calls); marks_are = sym (append-nil t.marks); answers = here.1 }
