-- The machine's answer to a line of one event, and to a line that does nothing.
use Rattle.std.proofs.Common.{◌≡◌, List, [], ◌∷◌, ◌++◌, length, drop, Option, refl, sym, ap, ◌∙◌, append-nil}
use Rattle.r3_value.specs.declared.value.Outcome.{Outcome}
use Rattle.r3_model.specs.Language.{Language}
use Rattle.r3_model.specs.Event.{Event, Reply, Call, NotRead, NotForm}
use Rattle.r3_model.specs.Goes.{Steps}
use Rattle.r3_model.specs.Held.{asks_of}
use Rattle.r3_model.specs.Machine.{State, Out, step}
use Rattle.r3_model.specs.Run.{Trail, next}
use Rattle.r3_model.specs.Script as script
use Rattle.r3_recover.specs.Drained.{Comes, IsAt, answers_of}
use Rattle.r3_recover.specs.Kept.{marks_on}
use Rattle.r3_session.specs.Answered.{AnswersTo}
use Rattle.r3_session.proofs.Asking.{step-steps}

drop-answers : (calls : List Call) (rest : List (Option Outcome)) → drop (length calls) (answers_of calls ++ rest) ≡ rest
drop-answers [] rest = refl
drop-answers (c ∷ cs) rest = drop-answers cs rest

module _ (P : Language) where
  pub steps-answer : (st new : State) (ev : Event) (reply : Reply) (calls : List Call) → Steps P st ev reply calls new
      → AnswersTo P (script.Does ev) st new calls (marks_on st.history calls) reply
  steps-answer st new ev reply calls s = λ told rest here.
      let t : Trail = told.trail in
      let u : Trail = next P t ev in
      let o : step P t.state ev t.answers ≡ record { state = new; reply = reply; calls = calls } =
      ap (λ (x : State). step P x ev t.answers) here.0 ∙ ap (λ (xs : List (Option Outcome)). step P st ev xs) here.1 ∙ step-steps P st new ev reply calls rest s in
      let comes : Comes t u new calls (marks_on st.history calls) rest = record {
        state = ap (λ (x : Out). x.state) o;
        calls_are = ap (λ (x : Out). t.calls ++ x.calls) o;
        marks_are = ap (λ (x : Out). t.marks ++ asks_of t.state x) o ∙ ap (λ (x : State). t.marks ++ marks_on x.history calls) here.0;
        answers = ap (λ (x : Out). drop (length x.calls) t.answers) o ∙ ap (λ (xs : List (Option Outcome)). drop (length calls) xs) here.1 ∙ drop-answers calls rest;
      } in
      (u, comes, ap (λ (x : Out). script.saying told u x.reply) o)

pub nothing-comes : (t : Trail) (st : State) (rest : List (Option Outcome)) → IsAt st [] rest t → Comes t t st [] [] rest
nothing-comes t st rest here = record { state = here.0; calls_are = sym (append-nil t.calls); marks_are = sym (append-nil t.marks); answers = here.1 }

pub unread-answers : (P : Language) (st : State) → AnswersTo P script.Unread st st [] [] NotRead
unread-answers P st = λ told rest here. (told.trail, nothing-comes told.trail st rest here, refl)

pub unformed-answers : (P : Language) (st : State) → AnswersTo P script.Unformed st st [] [] NotForm
unformed-answers P st = λ told rest here. (told.trail, nothing-comes told.trail st rest here, refl)
