-- The machine's answers to lines that do nothing.
use Rattle.std.proofs.Common.{◌≡◌, ℕ, ◌||◌, Bool, true, false, cond, List, [], ◌∷◌, map, length, Option, Some, None, Result, Ok, Err, IfOk, OnErr, refl, sym, ap, ◌∙◌}
use Rattle.std.specs.Prelude.{find, if◌then◌else◌}
use Rattle.std.specs.List.{list_any}
use Rattle.std.specs.Str.{bytes_eq}
use Rattle.r3_value.specs.declared.value.Val.{Val}
use Rattle.r3_rows.specs.declared.rows.FlowRow.{FlowRow}
use Rattle.sys_flow.specs.declared.command.Refusal.TheVariants.{UnknownId, UnknownQueue, UnknownTable}
use Rattle.r3_model.specs.Event.{Event, Reply, Call, Turn, Dequeue, ShowStatus, GetRow, Refused}
use Rattle.r3_model.specs.Given.{Given, Answers}
use Rattle.r3_model.specs.Goes.{Steps}
use Rattle.r3_model.specs.Language.{Language, Queue, Text}
use Rattle.r3_model.specs.Machine.{State, came, calls_of, call_with, given, got, shown, snap_of}
use Rattle.r3_model.specs.Queues.{dequeued_from}
use Rattle.r3_model.specs.Replies.{reply_text}
use Rattle.r3_model.specs.Rows.{flow_at, row_at}
use Rattle.r3_model.specs.Script as script
use Rattle.r3_model.specs.Turns.{calls_row, turned_row}
use Rattle.r3_session.specs.Answered.{AnswersTo}
use Rattle.r3_session.specs.Done.{IsTold}
use Rattle.r3_session.proofs.Nexts.{steps-answer}

module _ (P : Language) (st : State) where
  -- what is given is an answer alone, and nothing is called
  answers-alone : (ev : Event) (reply : Reply) → given P st.history ev (snap_of st.begun ev) None ≡ Answers reply
      → calls_of P st.history ev None ≡ [] → (came st ev (Answers reply)).0 ≡ st → AnswersTo P (script.Does ev) st st [] [] reply
  answers-alone ev reply is none same =
      let s : Steps P st ev reply [] st = record {
        answer = None;
        is = ap (λ (g : Given). record { state = (came st ev g).0; reply = (came st ev g).1; calls = calls_of P st.history ev None }) is
            ∙ ap (λ (cs : List Call). record { state = (came st ev (Answers reply)).0; reply = reply; calls = cs }) none
            ∙ ap (λ (x : State). record { state = x; reply = reply; calls = [] }) same;
      } in
      steps-answer P st st ev reply [] s

  pub turn-unknown : (id : Text) → flow_at st.history (length st.history) id ≡ None → AnswersTo P (script.Does (Turn id)) st st [] [] (Refused UnknownId)
  turn-unknown id none =
      answers-alone (Turn id) (Refused UnknownId)
      (ap (λ (o : Option FlowRow). turned_row P st.history id (snap_of st.begun (Turn id)) None o) none)
      (ap (λ (o : Option FlowRow). call_with P st.history id None (calls_row P st.history id o)) none)
      refl

  pub status-is : (id : Text) (row : Option FlowRow) → row ≡ flow_at st.history (length st.history) id → AnswersTo P (script.Does (ShowStatus id)) st st [] [] (shown id row)
  status-is id row is =
      answers-alone (ShowStatus id) (shown id row) (ap (λ (o : Option FlowRow). Answers (shown id o)) (sym is)) refl refl

  no-first : (x : Queue) (b rest : Bool) (later : Option Queue) → (rest ≡ false → later ≡ None) → (b || rest) ≡ false → cond b (Some x) later ≡ None
  no-first x true rest later more none = absurd cc
  no-first x false rest later more none = more none

  none-found : (test : Queue → Bool) (qs : List Queue) → list_any test qs ≡ false → find test qs ≡ None
  none-found test [] none = refl
  none-found test (q ∷ qs) none = no-first q (test q) (list_any test qs) (find test qs) (none-found test qs) none

  pub queue-unknown : (queue : Text) → list_any (λ (q : Queue). bytes_eq q.name queue) P.queues ≡ false → AnswersTo P (script.Does (Dequeue queue)) st st [] [] (Refused UnknownQueue)
  queue-unknown queue none =
      answers-alone (Dequeue queue) (Refused UnknownQueue)
      (ap (λ (o : Option Queue). dequeued_from st.history o) (none-found (λ (q : Queue). bytes_eq q.name queue) P.queues none)) refl refl

  pub row-is : (table key : Text) (value : Option Val) → P.has_table table ≡ true → value ≡ row_at st.history (length st.history) table key
      → AnswersTo P (script.Does (GetRow table key)) st st [] [] (got value)
  row-is table key value declared is =
      answers-alone (GetRow table key) (got value)
      (ap (λ (b : Bool). if b then Answers (got (row_at st.history (length st.history) table key)) else Answers (Refused UnknownTable)) declared
      ∙ ap (λ (o : Option Val). Answers (got o)) (sym is)) refl refl

  pub table-unknown : (table key : Text) → P.has_table table ≡ false → AnswersTo P (script.Does (GetRow table key)) st st [] [] (Refused UnknownTable)
  table-unknown table key none =
      answers-alone (GetRow table key) (Refused UnknownTable)
      (ap (λ (b : Bool). if b then Answers (got (row_at st.history (length st.history) table key)) else Answers (Refused UnknownTable)) none) refl refl

-- a text is that of the machine's answer
pub told-by : {V E : Type 0} (items : V → List ℕ) (r : Result V E) (P : Language) (st : State) (line : script.Line) (reply : Reply) → AnswersTo P line st st [] [] reply
    → IfOk r (λ v. items v ≡ reply_text reply) → IfOk r (λ v. IsTold P st line (items v))
told-by items (Ok v) P st line reply answers is = (reply, is, answers)
told-by items (Err e) P st line reply answers is = tt

-- whether a name is one of the queues' names
pub any-names : (name : Text) (qs : List Queue) → list_any (λ (n : Text). bytes_eq n name) (map (λ (q : Queue). q.name) qs) ≡ list_any (λ (q : Queue). bytes_eq q.name name) qs
any-names name [] = refl
any-names name (q ∷ qs) = ap (λ (b : Bool). bytes_eq q.name name || b) (any-names name qs)

pub get-same : (t t' k k' : Text) → t ≡ t' → k ≡ k' → script.Does (GetRow t k) ≡ script.Does (GetRow t' k')
get-same t t' k k' e f = ap (λ (x : Text). script.Does (GetRow x k)) e ∙ ap (λ (x : Text). script.Does (GetRow t' x)) f

pub on-err : {V E A : Type 0} (r : Result V E) → A → OnErr r A
on-err (Ok v) a = tt
on-err (Err e) a = a
