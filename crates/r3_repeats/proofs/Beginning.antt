-- What a command that starts a workflow comes to: an entry that brings it, or its own reply where it is there.
use Rattle.std.proofs.Common.{◌≡◌, ◌⊎◌, inl, inr, ℕ, ◌+◌, Bool, true, false, cond, List, [], ◌∷◌, ◌++◌, take, length, Option, Some, None, refl, sym, ap, ◌∙◌}
use Rattle.std.specs.Prelude.{option_and_then, option_map, if◌then◌else◌, bytes_eq}
use Rattle.std.proofs.lemmas.Slice.Eq.{bytes_eq-Decides}
use Rattle.r3_value.specs.declared.value.Val.{Val}
use Rattle.r3_rows.specs.declared.rows.Key.TheVariants as keys
use Rattle.r3_rows.specs.declared.rows.Cell.{Cell}
use Rattle.r3_rows.specs.declared.rows.Cell.TheVariants as cells
use Rattle.r3_rows.specs.declared.rows.FlowRow.{FlowRow}
use Rattle.r3_rows.specs.declared.rows.Status.TheVariants as status
use Rattle.r3_entry.specs.declared.entry.Entry.{Entry}
use Rattle.r3_entry.specs.History.{cell_at}
use Rattle.sys_flow.specs.declared.command.Command.{Command}
use Rattle.sys_flow.specs.declared.command.Command.TheVariants.{Load, Start, Enqueue, Cancel, Resume, Fork, Recover}
use Rattle.sys_flow.specs.declared.command.Refusal.{Refusal}
use Rattle.sys_flow.specs.declared.command.Refusal.TheVariants as refusals
use Rattle.sys_flow.specs.declared.repeats.Repeat.TheVariants.{Known, Fresh}
use Rattle.sys_flow.specs.declared.repeats.Repeat.TheVariants as repeats
use Rattle.sys_flow.specs.Repeats.{repeat_of}
use Rattle.r3_model.specs.Language.{Text, Language}
use Rattle.r3_model.specs.Event.{Run, Reply, EntryOf, Refused, Full, Limit}
use Rattle.r3_model.specs.Given.{Given, Enters, Answers, unless, once}
use Rattle.r3_model.specs.Rows.{flow_of, steps_at}
use Rattle.r3_model.specs.Acts.{Writes, flow_write, started, start_entry, enqueue_entry, fork_entry}
use Rattle.r3_model.specs.Commands.{commanded, id_or_made, forked}
use Rattle.r3_model.specs.Machine.{State, came, entered, full_of}
use Rattle.r3_laws.proofs.After.{after, cell-after, copies-flow}
use Rattle.r3_laws.proofs.Tells.{tie-refl}
use Rattle.r3_repeats.specs.Flows.{row_now}
use Rattle.r3_repeats.specs.Starting.{id_of_start, is_start, call_of_start, tests_of_start, reply_unless, repeat_reply, IsStartOf}

-- ---- an entry whose first write is a workflow's row

pub brought : (h : List Entry) (e : Entry) (own : Text) (row : FlowRow) (rest : Writes) → e.writes ≡ flow_write own row ∷ rest
    → after rest (keys.Flow own) (Some (cells.Flow row)) ≡ Some (cells.Flow row) → row_now (h ++ e ∷ []) own ≡ Some row
brought h e own row rest writes kept =
    let old : Option Cell = cell_at h (length h) (keys.Flow own) in
    ap (λ (c : Option Cell). option_and_then flow_of c)
    (cell-after h e (keys.Flow own)
    ∙ ap (λ (ws : Writes). after ws (keys.Flow own) old) writes
    ∙ ap (λ (b : Bool). after rest (keys.Flow own) (cond b (Some (cells.Flow row)) old)) (tie-refl (keys.Flow own))
    ∙ kept)

-- ---- a command that starts a workflow

pub record Begins (P : Language) (h : List Entry) (command : Command) : Type 0 where
  pub own : Text
  pub call : Text × Val
  pub entry : Entry
  pub row : FlowRow
  pub id_is : id_of_start h command ≡ Some own
  pub call_is : call_of_start h command ≡ Some call
  pub comes : commanded P h command ≡ unless (tests_of_start P h command) (once (repeat_of (row_now h own) call.0) own (Enters entry (EntryOf (length h + 1) own)))
  pub act : IsStartOf own entry.act
  pub there : row_now (h ++ entry ∷ []) own ≡ Some row
  pub function : row.function ≡ call.0
  pub args : row.args ≡ call.1
  pub number : row.started ≡ length h + 1

-- or the fork's source isn't there
abbrev pub BeginsOrNot : Language → List Entry → Command → Type 0
BeginsOrNot P h command = Begins P h command ⊎ ((commanded P h command ≡ Answers (Refused refusals.UnknownId)) × (call_of_start h command ≡ None))

module _ (P : Language) (h : List Entry) where
  forks-begin : (source : Text) (below : ℕ) (to : Option Text) (o : Option FlowRow) → row_now h source ≡ o → BeginsOrNot P h (Fork source below to)
  forks-begin source below to None is =
      inr (ap (λ (o : Option FlowRow). forked P h (id_or_made h to) source below o) is, ap (λ (o : Option FlowRow). option_map (λ (row : FlowRow). (row.function, row.args)) o) is)
  forks-begin source below to (Some row) is =
      let own : Text = id_or_made h to in
      let new : FlowRow = started status.Pending row.function row.args None (length h + 1) None in
      inl (record {
        own = own;
        call = (row.function, row.args);
        entry = fork_entry h own source row below;
        row = new;
        id_is = refl;
        call_is = ap (λ (o : Option FlowRow). option_map (λ (row : FlowRow). (row.function, row.args)) o) is;
        comes = ap (λ (o : Option FlowRow). forked P h own source below o) is;
        act = refl;
        there = brought h (fork_entry h own source row below) own new _ refl (copies-flow own 0 (take below (steps_at h (length h) source)) (Some (cells.Flow new)));
        function = refl;
        args = refl;
        number = refl;
      })

  pub starts-begin : (command : Command) → is_start command ≡ true → BeginsOrNot P h command
  starts-begin (Load table rows) is = absurd cc
  starts-begin (Cancel id) is = absurd cc
  starts-begin (Resume id) is = absurd cc
  starts-begin (Recover id) is = absurd cc
  starts-begin (Fork source below to) is = forks-begin source below to (row_now h source) refl
  starts-begin (Start id function args) is =
      let own : Text = id_or_made h id in
      let new : FlowRow = started status.Pending function args None (length h + 1) None in
      inl (record {
        own = own;
        call = (function, args);
        entry = start_entry h own function args;
        row = new;
        id_is = refl;
        call_is = refl;
        comes = refl;
        act = refl;
        there = brought h (start_entry h own function args) own new [] refl refl;
        function = refl;
        args = refl;
        number = refl;
      })
  starts-begin (Enqueue id queue function args) is =
      let own : Text = id_or_made h id in
      let new : FlowRow = started status.Enqueued function args (Some queue) (length h + 1) None in
      inl (record {
        own = own;
        call = (function, args);
        entry = enqueue_entry h own queue function args;
        row = new;
        id_is = refl;
        call_is = refl;
        comes = refl;
        act = refl;
        there = brought h (enqueue_entry h own queue function args) own new [] refl refl;
        function = refl;
        args = refl;
        number = refl;
      })

-- a command that has an ID to start under starts workflows
pub id-starts : (h : List Entry) (command : Command) (id : Text) → id_of_start h command ≡ Some id → is_start command ≡ true
id-starts h (Load table rows) id is = absurd (let z : None ≡ Some id = is in cc)
id-starts h (Cancel i) id is = absurd (let z : None ≡ Some id = is in cc)
id-starts h (Resume i) id is = absurd (let z : None ≡ Some id = is in cc)
id-starts h (Recover i) id is = absurd (let z : None ≡ Some id = is in cc)
id-starts h (Start i function args) id is = refl
id-starts h (Enqueue i queue function args) id is = refl
id-starts h (Fork source below to) id is = refl

-- ---- a workflow of the ID is there

unless-answers : (tests : List (Bool × Refusal)) (r : Reply) → unless tests (Answers r) ≡ Answers (reply_unless tests r)
unless-answers [] r = refl
unless-answers ((true, w) ∷ tests) r = refl
unless-answers ((false, w) ∷ tests) r = unless-answers tests r

once-answers : (b : Bool) (n : ℕ) (own : Text) (g : Given) → once (if b then Known n else repeats.Conflict) own g ≡ Answers (if b then EntryOf n own else Refused refusals.Conflict)
once-answers true n own g = refl
once-answers false n own g = refl

pub repeat-comes : (P : Language) (h : List Entry) (command : Command) (b : Begins P h command) (row : FlowRow) → row_now h b.own ≡ Some row
    → commanded P h command ≡ Answers (reply_unless (tests_of_start P h command) (repeat_reply b.own row b.call.0))
repeat-comes P h command b row there =
    let g : Given = Enters b.entry (EntryOf (length h + 1) b.own) in
    let tests : List (Bool × Refusal) = tests_of_start P h command in
    b.comes
    ∙ ap (λ (o : Option FlowRow). unless tests (once (repeat_of o b.call.0) b.own g)) there
    ∙ ap (λ (x : Given). unless tests x) (once-answers (bytes_eq row.function b.call.0) row.started b.own g)
    ∙ unless-answers tests (repeat_reply b.own row b.call.0)

-- what was accepted passed all tests
pub repeat-said : (tests : List (Bool × Refusal)) (own : Text) (row : FlowRow) (function : Text) (n : ℕ) (id : Text) → reply_unless tests (repeat_reply own row function) ≡ EntryOf n id
    → (own ≡ id) × (row.started ≡ n) × (row.function ≡ function) × ((r : Reply) → reply_unless tests r ≡ r)
repeat-said [] own row function n id is = by_name (bytes_eq row.function function) refl is where
  by_name : (b : Bool) → bytes_eq row.function function ≡ b → (if b then EntryOf row.started own else Refused refusals.Conflict) ≡ EntryOf n id
      → (own ≡ id) × (row.started ≡ n) × (row.function ≡ function) × ((r : Reply) → r ≡ r)
  by_name true same said = (
    (let z : EntryOf row.started own ≡ EntryOf n id = said in cc),
    (let z : EntryOf row.started own ≡ EntryOf n id = said in cc),
    (bytes_eq-Decides row.function function).0 same,
    (λ r. refl),
  )
  by_name false same said = absurd (let z : Refused refusals.Conflict ≡ EntryOf n id = said in cc)
repeat-said ((true, w) ∷ tests) own row function n id is = absurd (let z : Refused w ≡ EntryOf n id = is in cc)
repeat-said ((false, w) ∷ tests) own row function n id is = repeat-said tests own row function n id is

-- ---- the ID is new

pub record IsFresh (st : State) (entry : Entry) (own : Text) (tests : List (Bool × Refusal)) (n : ℕ) (id : Text) (after : State) : Type 0 where
  pub same_id : own ≡ id
  pub number : n ≡ length st.history + 1
  pub history : after.history ≡ st.history ++ entry ∷ []
  pub passes : (r : Reply) → reply_unless tests r ≡ r

module _ (st : State) (command : Command) (entry : Entry) (own : Text) (n : ℕ) (id : Text) where
  abbrev fresh_given : Given
  fresh_given = Enters entry (EntryOf (length st.history + 1) own)

  by_room : (limit : Option Limit) → (entered st entry (EntryOf (length st.history + 1) own) limit).1 ≡ EntryOf n id
      → IsFresh st entry own [] n id (entered st entry (EntryOf (length st.history + 1) own) limit).0
  by_room (Some limit) is = absurd (let z : Full limit ≡ EntryOf n id = is in cc)
  by_room None is = record {
    same_id = (let z : EntryOf (length st.history + 1) own ≡ EntryOf n id = is in cc);
    number = sym (let z : EntryOf (length st.history + 1) own ≡ EntryOf n id = is in cc);
    history = refl;
    passes = λ r. refl;
  }

  pub fresh-said : (tests : List (Bool × Refusal)) → (came st (Run command) (unless tests fresh_given)).1 ≡ EntryOf n id → IsFresh st entry own tests n id (came st (Run command) (unless tests fresh_given)).0
  fresh-said [] is = by_room (full_of st.history entry) is
  fresh-said ((true, w) ∷ tests) is = absurd (let z : Refused w ≡ EntryOf n id = is in cc)
  fresh-said ((false, w) ∷ tests) is =
      let f = fresh-said tests is in
      record { same_id = f.same_id; number = f.number; history = f.history; passes = f.passes }
