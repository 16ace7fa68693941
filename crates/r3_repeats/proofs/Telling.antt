-- The laws of one start: what it is answered, and what it leaves.
use Rattle.std.proofs.Common.{◌≡◌, inl, inr, ℕ, ◌+◌, Bool, true, List, [], ◌∷◌, ◌++◌, length, Option, Some, None, refl, sym, subst, ap, ◌∙◌}
use Rattle.std.specs.Prelude.{if◌then◌else◌}
use Rattle.std.proofs.lemmas.Slice.Eq.{bytes_eq-Decides}
use Rattle.r3_value.specs.declared.value.Val.{Val}
use Rattle.r3_value.specs.declared.value.Outcome.{Outcome}
use Rattle.r3_rows.specs.declared.rows.FlowRow.{FlowRow}
use Rattle.r3_entry.specs.declared.entry.Entry.{Entry}
use Rattle.sys_flow.specs.declared.command.Command.{Command}
use Rattle.sys_flow.specs.declared.command.Command.TheVariants.{Load, Start, Enqueue, Cancel, Resume, Fork, Recover}
use Rattle.sys_flow.specs.declared.command.Refusal.{Refusal}
use Rattle.sys_flow.specs.declared.command.Refusal.TheVariants as refusals
use Rattle.sys_flow.specs.Repeats.{repeat_of}
use Rattle.r3_model.specs.Language.{Text, Language}
use Rattle.r3_model.specs.Event.{Run, Reply, EntryOf, Refused}
use Rattle.r3_model.specs.Given.{Given, Enters, Answers, unless, once}
use Rattle.r3_model.specs.Commands.{commanded}
use Rattle.r3_model.specs.Machine.{State, step, came}
use Rattle.r3_model.specs.Run.{Trail, next, run}
use Rattle.r3_repeats.specs.Flows.{row_now, IsSameFlow}
use Rattle.r3_repeats.specs.Starting.{id_of_start, is_start, is_named, call_of_start, tests_of_start, reply_unless, repeat_reply, IsStartOf}
use Rattle.r3_repeats.specs.Laws.{TellsRepeats, AcceptedStands, AcceptedIsFirst, AddsNothing, AcceptsAgain}
use Rattle.r3_repeats.proofs.Growing.{Stays, grows-keeps, run-grows}
use Rattle.r3_repeats.proofs.Beginning.{Begins, BeginsOrNot, IsFresh, starts-begin, id-starts, repeat-comes, repeat-said, fresh-said}

one_id : (a b : Text) → Some a ≡ Some b → a ≡ b
one_id a b is = cc

one_call : (a b : Text × Val) → Some a ≡ Some b → a ≡ b
one_call a b is = cc

module _ (P : Language) (st : State) (command : Command) where
  abbrev Comes : Given → State × Reply
  Comes g = came st (Run command) g

  reply-of : (answers : List (Option Outcome)) (r : Reply) → commanded P st.history command ≡ Answers r → (step P st (Run command) answers).reply ≡ r
  reply-of answers r is = ap (λ (g : Given). (came st (Run command) g).1) is

  state-of : (answers : List (Option Outcome)) (r : Reply) → commanded P st.history command ≡ Answers r → (step P st (Run command) answers).state ≡ st
  state-of answers r is = ap (λ (g : Given). (came st (Run command) g).0) is

  -- ---- the ID is there

  at_own : (b : Begins P st.history command) (id : Text) (row : FlowRow) → id_of_start st.history command ≡ Some id → row_now st.history id ≡ Some row → row_now st.history b.own ≡ Some row
  at_own b id row id_is there = ap (λ (x : Text). row_now st.history x) (one_id b.own id (sym b.id_is ∙ id_is)) ∙ there

  tells : (answers : List (Option Outcome)) (id : Text) (row : FlowRow) (call : Text × Val) → id_of_start st.history command ≡ Some id → call_of_start st.history command ≡ Some call → row_now st.history id ≡ Some row
      → BeginsOrNot P st.history command → (step P st (Run command) answers).reply ≡ reply_unless (tests_of_start P st.history command) (repeat_reply id row call.0)
  tells answers id row call id_is call_is there (inr not) = absurd (let z : None ≡ Some call = sym not.1 ∙ call_is in cc)
  tells answers id row call id_is call_is there (inl b) =
      reply-of answers _ (repeat-comes P st.history command b row (at_own b id row id_is there))
      ∙ ap (λ (x : Text). reply_unless (tests_of_start P st.history command) (repeat_reply x row b.call.0)) (one_id b.own id (sym b.id_is ∙ id_is))
      ∙ ap (λ (c : Text × Val). reply_unless (tests_of_start P st.history command) (repeat_reply id row c.0)) (one_call b.call call (sym b.call_is ∙ call_is))

  adds : (answers : List (Option Outcome)) (id : Text) (row : FlowRow) → id_of_start st.history command ≡ Some id → row_now st.history id ≡ Some row → BeginsOrNot P st.history command → (step P st (Run command) answers).state ≡ st
  adds answers id row id_is there (inr not) = state-of answers _ not.0
  adds answers id row id_is there (inl b) = state-of answers _ (repeat-comes P st.history command b row (at_own b id row id_is there))

  -- ---- what was accepted

  -- its workflow is there, and no test holds
  pub record IsAccepted (answers : List (Option Outcome)) (n : ℕ) (id : Text) : Type 0 where
    pub row : FlowRow
    pub call : Text × Val
    pub id_is : id_of_start st.history command ≡ Some id
    pub call_is : call_of_start st.history command ≡ Some call
    pub there : row_now (step P st (Run command) answers).state.history id ≡ Some row
    pub number : row.started ≡ n
    pub function : row.function ≡ call.0
    pub passes : (r : Reply) → reply_unless (tests_of_start P st.history command) r ≡ r

  -- the given entry, where the ID is new
  fresh-of : (answers : List (Option Outcome)) (n : ℕ) (id : Text) (b : Begins P st.history command) → row_now st.history b.own ≡ None → (step P st (Run command) answers).reply ≡ EntryOf n id
      → IsFresh st b.entry b.own (tests_of_start P st.history command) n id (step P st (Run command) answers).state
  fresh-of answers n id b gone said =
      let tests : List (Bool × Refusal) = tests_of_start P st.history command in
      let g : Given = unless tests (Enters b.entry (EntryOf (length st.history + 1) b.own)) in
      let is : commanded P st.history command ≡ g = b.comes ∙ ap (λ (o : Option FlowRow). unless tests (once (repeat_of o b.call.0) b.own (Enters b.entry (EntryOf (length st.history + 1) b.own)))) gone in
      let f : IsFresh st b.entry b.own tests n id (came st (Run command) g).0 = fresh-said st command b.entry b.own n id tests (sym (ap (λ (x : Given). (came st (Run command) x).1) is) ∙ said) in
      let Of : State → Type 0 = λ s. IsFresh st b.entry b.own tests n id s in
      subst Of (sym (ap (λ (x : Given). (came st (Run command) x).0) is)) f

  by_row : (answers : List (Option Outcome)) (n : ℕ) (id : Text) (b : Begins P st.history command) (o : Option FlowRow) → row_now st.history b.own ≡ o → (step P st (Run command) answers).reply ≡ EntryOf n id → IsAccepted answers n id
  by_row answers n id b (Some row) there said =
      let is = repeat-comes P st.history command b row there in
      let s = repeat-said (tests_of_start P st.history command) b.own row b.call.0 n id (sym (reply-of answers _ is) ∙ said) in
      record {
        row = row;
        call = b.call;
        id_is = b.id_is ∙ ap (λ (x : Text). Some x) s.0;
        call_is = b.call_is;
        there = ap (λ (x : State). row_now x.history id) (state-of answers _ is) ∙ ap (λ (x : Text). row_now st.history x) (sym s.0) ∙ there;
        number = s.1;
        function = s.2;
        passes = s.3;
      }
  by_row answers n id b None gone said =
      let f = fresh-of answers n id b gone said in
      record {
        row = b.row;
        call = b.call;
        id_is = b.id_is ∙ ap (λ (x : Text). Some x) f.same_id;
        call_is = b.call_is;
        there = ap (λ (h : List Entry). row_now h id) f.history ∙ ap (λ (x : Text). row_now (st.history ++ b.entry ∷ []) x) (sym f.same_id) ∙ b.there;
        number = b.number ∙ sym f.number;
        function = b.function;
        passes = f.passes;
      }

  accepted_by : (answers : List (Option Outcome)) (n : ℕ) (id : Text) → BeginsOrNot P st.history command → (step P st (Run command) answers).reply ≡ EntryOf n id → IsAccepted answers n id
  accepted_by answers n id (inr not) said = absurd (let z : Refused refusals.UnknownId ≡ EntryOf n id = sym (reply-of answers _ not.0) ∙ said in cc)
  accepted_by answers n id (inl b) said = by_row answers n id b (row_now st.history b.own) refl said

  pub accepted : (answers : List (Option Outcome)) (n : ℕ) (id : Text) → is_start command ≡ true → (step P st (Run command) answers).reply ≡ EntryOf n id → IsAccepted answers n id
  accepted answers n id starts said = accepted_by answers n id (starts-begin P st.history command starts) said

  abbrev FirstOf : List (Option Outcome) → ℕ → Text → Type 0
  FirstOf answers n id = (row : FlowRow) × (entry : Entry) × ((step P st (Run command) answers).state.history ≡ st.history ++ entry ∷ []) × IsStartOf id entry.act
      × (n ≡ length st.history + 1) × (row_now (st.history ++ entry ∷ []) id ≡ Some row)
      × (call_of_start st.history command ≡ Some (row.function, row.args))

  first_by : (answers : List (Option Outcome)) (n : ℕ) (id : Text) → row_now st.history id ≡ None → (step P st (Run command) answers).reply ≡ EntryOf n id → BeginsOrNot P st.history command → FirstOf answers n id
  first_by answers n id gone said (inr not) = absurd (let z : Refused refusals.UnknownId ≡ EntryOf n id = sym (reply-of answers _ not.0) ∙ said in cc)
  first_by answers n id gone said (inl b) =
      let a : IsAccepted answers n id = accepted_by answers n id (inl b) said in
      let own : b.own ≡ id = one_id b.own id (sym b.id_is ∙ a.id_is) in
      let f = fresh-of answers n id b (ap (λ (x : Text). row_now st.history x) own ∙ gone) said in
      let Act : Text → Type 0 = λ x. IsStartOf x b.entry.act in (
        b.row,
        b.entry,
        f.history,
        subst Act own b.act,
        f.number,
        (ap (λ (x : Text). row_now (st.history ++ b.entry ∷ []) x) (sym own) ∙ b.there),
        (b.call_is ∙ ap (λ (x : Text). Some (x, b.call.1)) (sym b.function) ∙ ap (λ (x : Val). Some (b.row.function, x)) (sym b.args)),
      )

-- ---- the laws

pub tells-repeats : TellsRepeats
tells-repeats P st command answers id row call id_is call_is there =
    tells P st command answers id row call id_is call_is there (starts-begin P st.history command (id-starts st.history command id id_is))

pub accepted-stands : AcceptedStands
accepted-stands P st command answers n id starts said =
    let a = accepted P st command answers n id starts said in
    (a.row, a.call, a.id_is, a.call_is, a.there, a.number, a.function)

pub accepted-first : AcceptedIsFirst
accepted-first P st command answers n id starts gone said = first_by P st command answers n id gone said (starts-begin P st.history command starts)

pub adds-nothing : AddsNothing
adds-nothing P st command answers id row id_is there = (adds P st command answers id row id_is there (starts-begin P st.history command (id-starts st.history command id id_is)), refl)

-- ---- a start that was given its ID

pub named-starts : (command : Command) → is_named command ≡ true → is_start command ≡ true
named-starts (Load table rows) is = absurd cc
named-starts (Start None function args) is = absurd cc
named-starts (Start (Some id) function args) is = refl
named-starts (Enqueue None queue function args) is = absurd cc
named-starts (Enqueue (Some id) queue function args) is = refl
named-starts (Cancel id) is = absurd cc
named-starts (Resume id) is = absurd cc
named-starts (Fork source below to) is = absurd cc
named-starts (Recover id) is = absurd cc

-- its ID, its call and its tests are the same on each history
record IsAlike (P : Language) (g h : List Entry) (command : Command) : Type 0 where
  ids : id_of_start h command ≡ id_of_start g command
  calls : call_of_start h command ≡ call_of_start g command
  tests : tests_of_start P h command ≡ tests_of_start P g command

named-alike : (P : Language) (g h : List Entry) (command : Command) → is_named command ≡ true → IsAlike P g h command
named-alike P g h (Load table rows) is = absurd cc
named-alike P g h (Start None function args) is = absurd cc
named-alike P g h (Start (Some id) function args) is = record { ids = refl; calls = refl; tests = refl }
named-alike P g h (Enqueue None queue function args) is = absurd cc
named-alike P g h (Enqueue (Some id) queue function args) is = record { ids = refl; calls = refl; tests = refl }
named-alike P g h (Cancel id) is = absurd cc
named-alike P g h (Resume id) is = absurd cc
named-alike P g h (Fork source below to) is = absurd cc
named-alike P g h (Recover id) is = absurd cc

own_reply : (own : Text) (row : FlowRow) (function : Text) → row.function ≡ function → repeat_reply own row function ≡ EntryOf row.started own
own_reply own row function same = ap (λ (b : Bool). if b then EntryOf row.started own else Refused refusals.Conflict) ((bytes_eq-Decides row.function function).1 same)

-- accepted on one state, it is accepted on a later one
pub accepts-again : (P : Language) (st : State) (answers : List (Option Outcome)) (command : Command) (n : ℕ) (id : Text) → is_named command ≡ true → (a : IsAccepted P st command answers n id)
    → (st' : State) (answers' : List (Option Outcome)) → Stays st'.history id a.row → (step P st' (Run command) answers').reply ≡ EntryOf n id
accepts-again P st answers command n id named a st' answers' stays =
    let alike = named-alike P st.history st'.history command named in
    let later : FlowRow = stays.0 in
    let same : IsSameFlow a.row later = stays.2 in
    tells-repeats P st' command answers' id later a.call (alike.ids ∙ a.id_is) (alike.calls ∙ a.call_is) stays.1
    ∙ ap (λ (tests : List (Bool × Refusal)). reply_unless tests (repeat_reply id later a.call.0)) alike.tests
    ∙ a.passes (repeat_reply id later a.call.0)
    ∙ own_reply id later a.call.0 (same.function ∙ a.function)
    ∙ ap (λ (m : ℕ). EntryOf m id) (same.started ∙ a.number)

pub accepts-after : AcceptsAgain
accepts-after P t command evs n id named said =
    let u : Trail = next P t (Run command) in
    let a : IsAccepted P t.state command t.answers n id = accepted P t.state command t.answers n id (named-starts command named) said in
    let v : Trail = run P u evs in
    accepts-again P t.state t.answers command n id named a v.state v.answers (grows-keeps P u.state.history v.state.history id a.row (run-grows P u evs) a.there)
