-- What the replay repeats was made.
use Rattle.std.proofs.Common.{◌≡◌, ◌≢◌, ℕ, ◌+◌, ◌≤◌, ◌^◌, ◌&&◌, Bool, true, false, List, [], ◌∷◌, ◌++◌, length, map, Option, Some, None, refl, sym, subst, ap, ◌∙◌, arith}
use Rattle.std.specs.Prelude.{filter_map, flat_map, fold, option_map, option_and_then, if◌then◌else◌, nat_le, nat_lt, bytes_eq, ⊤}
use Rattle.std.specs.List.{enumerate_from, list_all, AllByRecursion, cons_option}
use Rattle.r3_value.specs.declared.value.Val.{Val}
use Rattle.r3_value.specs.declared.value.Outcome.{Outcome}
use Rattle.std.proofs.lemmas.List.{length-map}
use Rattle.r3_rows.specs.declared.rows.Key.{Key}
use Rattle.r3_rows.specs.declared.rows.Cell.{Cell}
use Rattle.r3_rows.specs.declared.rows.FlowRow.{FlowRow}
use Rattle.r3_entry.specs.declared.entry.Act.{Act}
use Rattle.r3_entry.specs.declared.entry.Act.TheVariants as acts
use Rattle.r3_entry.specs.declared.entry.Entry.{Entry}
use Rattle.r3_entry.specs.Formed.{IsFormed, FollowEachOther, IsProgramFirst, is_program}
use Rattle.r3_entry.specs.Bytes.{entry, size}
use Rattle.r3_entry.specs.Limits.{IsEntry, IsAct, IsSized}
use Rattle.sys_flow.specs.declared.command.Command.TheVariants.{Load, Start, Enqueue}
use Rattle.r3_model.specs.Language.{Text, Language}
use Rattle.r3_model.specs.Event.{Event, Append, Run, Turn, Dequeue, ShowStatus, GetRow, Nothing, Limit, Bytes}
use Rattle.r3_model.specs.Event as reply
use Rattle.r3_model.specs.Acts.{program_entry}
use Rattle.r3_model.specs.Machine.{State, Begun, stepped, entered, full_of, first_of, calls_of}
use Rattle.r3_model.specs.Run.{Trail, from_state, empty, next_by, run_by}
use Rattle.r3_model.specs.Schedule.{or_nothing, load_of, row_written, flow_written, enqueue_of, dequeue_of, event_of, event_of_act, begun_by, begins, schedule}
use Rattle.r3_model.specs.Made.{IsMade}
use Rattle.r3_model.specs.Valid.{AreOpen}
use Rattle.r3_model.specs.Verdict.{replay_answer, replayed}
use Rattle.r3_laws.specs.OfEvents.{HasRows}
use Rattle.r3_laws.proofs.Agreeing.{Suits}
use Rattle.r3_laws.proofs.KeepsOpen.{stepped-open}
use Rattle.r3_laws.proofs.Reaches.{stepped-made, restarted-open}
use Rattle.r3_model.proofs.Steps.{step-appends}
use Rattle.r3_laws.proofs.Sizes.{payload-few}

-- ---- the events behind the first

-- the event isn't a program's, and a load has some rows
abbrev pub IsLater : Event → Type 0
IsLater (Append text) = ⊥
IsLater (Run command) = HasRows (Run command)
IsLater ev = ⊤

later-suits : (h : List Entry) (ev : Event) → h ≢ [] → IsLater ev → Suits h ev
later-suits h (Append text) some is = absurd is
later-suits h (Run command) some is = (some, is)
later-suits h ev some is = tt

ways : (o : Option Event) → ((ev : Event) → o ≡ Some ev → IsLater ev) → IsLater (or_nothing o)
ways None is = tt
ways (Some ev) is = is ev refl

-- at most as many rows as writes
kept : (o : Option (Text × (Text × Val))) (rs : List (Text × (Text × Val))) (n : ℕ) → length rs ≤ n → length (cons_option o rs) ≤ 1 + n
kept None rs n le = omega arith
kept (Some r) rs n le = omega arith

rows-few : (ws : List (Key × Option Cell)) → length (filter_map row_written ws) ≤ length ws
rows-few [] = omega arith
rows-few (w ∷ ws) = omega (arith, kept (row_written w) (filter_map row_written ws) (length ws) (rows-few ws))

test-three : (a b c : Bool) → (a && b && c) ≡ true → c ≡ true
test-three true true c is = is
test-three true false c is = absurd cc
test-three false b c is = absurd cc

load-by : (table : Text) (rows : List (Text × Val)) (b : Bool) → (b ≡ true → HasRows (Run (Load table rows))) → (ev : Event) → (if b then Some (Run (Load table rows)) else None) ≡ Some ev → IsLater ev
load-by table rows true has ev is = let same : Run (Load table rows) ≡ ev = (let z : Some (Run (Load table rows)) ≡ Some ev = is in cc) in subst IsLater same (has refl)
load-by table rows false has ev is = absurd (let z : None ≡ Some ev = is in cc)

few-from : (n : ℕ) → nat_le n 1024 ≡ true → n ≤ 1024
few-from n is = grind arith

load-later : (ws : List (Key × Option Cell)) (rs : List (Text × (Text × Val))) → length rs ≤ length ws → (ev : Event) → load_of ws rs ≡ Some ev → IsLater ev
load-later ws [] le ev is = absurd (let z : None ≡ Some ev = is in cc)
load-later ws (r ∷ rs) le ev is =
    let a : Bool = list_all (λ (q : Text × (Text × Val)). bytes_eq q.0 r.0) rs in
    let b : Bool = nat_le (length ws) (length (r ∷ rs)) in
    let c : Bool = nat_le (length ws) 1024 in
    load-by r.0 (map (λ (q : Text × (Text × Val)). q.1) (r ∷ rs)) (a && b && c)
    (λ t. (omega (arith, length-map rs (λ (q : Text × (Text × Val)). q.1)), omega (arith, length-map rs (λ (q : Text × (Text × Val)). q.1), le, few-from (length ws) (test-three a b c t)))) ev is

mapped-later : {X : Type 0} (f : X → Event) → ((x : X) → IsLater (f x)) → (o : Option X) → IsLater (or_nothing (option_map f o))
mapped-later f each None = tt
mapped-later f each (Some x) = each x

enqueue-later : (id : Text) (o : Option FlowRow) → IsLater (or_nothing (option_and_then (enqueue_of id) o))
enqueue-later id None = tt
enqueue-later id (Some row) = mapped-later (λ q. Run (Enqueue (Some id) q row.function row.args)) (λ q. tt) row.queue

dequeue-later : (o : Option FlowRow) → IsLater (or_nothing (option_and_then dequeue_of o))
dequeue-later None = tt
dequeue-later (Some row) = mapped-later (λ q. Dequeue q) (λ q. tt) row.queue

act-later : (e : Entry) (a : Act) → is_program a ≡ false → IsLater (event_of_act e a)
act-later e (acts.Program text) is = absurd cc
act-later e acts.Load is = ways (load_of e.writes (filter_map row_written e.writes)) (λ ev some. load-later e.writes (filter_map row_written e.writes) (rows-few e.writes) ev some)
act-later e (acts.Start id) is = mapped-later (λ (row : FlowRow). Run (Start (Some id) row.function row.args)) (λ row. tt) (flow_written e id)
act-later e (acts.Enqueue id) is = enqueue-later id (flow_written e id)
act-later e (acts.Dequeue id) is = dequeue-later (flow_written e id)
act-later e (acts.Txn id n args) is = tt
act-later e (acts.Outside id n args) is = tt
act-later e (acts.Child id n child) is = tt
act-later e (acts.Await id n on) is = tt
act-later e (acts.Finish id) is = tt
act-later e (acts.Cancel id) is = tt
act-later e (acts.Resume id) is = tt
act-later e (acts.Fork id from below) is = tt
act-later e (acts.Recover id) is = tt

-- ---- the turns that begin

abbrev IsTurn : Event → Type 0
IsTurn (Turn id) = ⊤
IsTurn ev = ⊥

cons-turn : (o : Option Event) (evs : List Event) → ((ev : Event) → o ≡ Some ev → IsTurn ev) → AllByRecursion IsTurn evs → AllByRecursion IsTurn (cons_option o evs)
cons-turn None evs is all = all
cons-turn (Some ev) evs is all = (is ev refl, all)

turn-by : (id : Text) (b : Bool) (ev : Event) → (if b then Some (Turn id) else None) ≡ Some ev → IsTurn ev
turn-by id true ev is = let same : Turn id ≡ ev = (let z : Some (Turn id) ≡ Some ev = is in cc) in subst IsTurn same tt
turn-by id false ev is = absurd (let z : None ≡ Some ev = is in cc)

no-turn : (ev : Event) → None ≡ Some ev → IsTurn ev
no-turn ev is = absurd (let z : None ≡ Some ev = is in cc)

begun-turn : (i : ℕ) (a : Act) (snap : ℕ) (ev : Event) → begun_by i a snap ≡ Some ev → IsTurn ev
begun-turn i (acts.Txn id n args) snap ev is = turn-by id (nat_le i snap && nat_le snap i) ev is
begun-turn i (acts.Program text) snap ev is = no-turn ev is
begun-turn i acts.Load snap ev is = no-turn ev is
begun-turn i (acts.Start id) snap ev is = no-turn ev is
begun-turn i (acts.Enqueue id) snap ev is = no-turn ev is
begun-turn i (acts.Dequeue id) snap ev is = no-turn ev is
begun-turn i (acts.Outside id n args) snap ev is = no-turn ev is
begun-turn i (acts.Child id n child) snap ev is = no-turn ev is
begun-turn i (acts.Await id n on) snap ev is = no-turn ev is
begun-turn i (acts.Finish id) snap ev is = no-turn ev is
begun-turn i (acts.Cancel id) snap ev is = no-turn ev is
begun-turn i (acts.Resume id) snap ev is = no-turn ev is
begun-turn i (acts.Fork id from below) snap ev is = no-turn ev is
begun-turn i (acts.Recover id) snap ev is = no-turn ev is

all-turns : (i : ℕ) (es : List Entry) → AllByRecursion IsTurn (begins es i)
all-turns i [] = tt
all-turns i (e ∷ es) = cons-turn (begun_by i e.act e.snap) (begins es i) (begun-turn i e.act e.snap) (all-turns i es)

-- ---- the run

pub some-more : (xs ys : List Entry) → xs ≢ [] → xs ++ ys ≢ []
some-more [] ys some = absurd (some refl)
some-more (x ∷ xs) ys some = λ clash. (let z : x ∷ (xs ++ ys) ≡ [] = clash in cc)

fold-over : {S E : Type 0} (f : S → E → S) (s : S) (xs ys : List E) → fold f s (xs ++ ys) ≡ fold f (fold f s xs) ys
fold-over f s [] ys = refl
fold-over f s (x ∷ xs) ys = fold-over f (f s x) xs ys

-- the text of a program has room
not-below : (a b : ℕ) → b ≤ a → nat_lt a b ≡ false
not-below a b le = grind arith

by_room : (b : Bool) → b ≡ false → (if b then Some Bytes else None) ≡ None
by_room true is = absurd cc
by_room false is = refl

pub program-room : (text : Text) → IsSized 0 1048576 text → full_of [] (program_entry [] text) ≡ None
program-room text fits =
    let e : Entry = program_entry [] text in
    let limits : IsEntry e = record { act = fits; snap = omega arith; reads_fit = omega arith; reads = tt; writes_fit = omega arith; writes = tt; rising = refl } in
    let small : length (entry e) ≤ 2 ^ 23 = payload-few e limits (omega arith) (omega arith) (omega arith) in
    by_room (nat_lt (2 ^ 30) (size [] + 5 + length (entry e))) (not-below (2 ^ 30) (size [] + 5 + length (entry e)) (omega (arith, small)))

record Good (P : Language) (st : State) : Type 0 where
  snapshots : AreOpen P st
  made : IsMade P st.history

module _ (P : Language) (h : List Entry) where
  abbrev one : State → Event → State
  one st ev = (stepped P st ev (first_of (map (replay_answer h) (calls_of P st.history ev None)))).state

  abbrev go : State → List Event → State
  go st evs = fold one st evs

  good-step : (st : State) (ev : Event) → Suits st.history ev → Good P st → Good P (one st ev)
  good-step st ev suits good = record {
    snapshots = stepped-open P st good.snapshots ev _;
    made = stepped-made P st good.snapshots ev _ suits good.made;
  }

  some-step : (st : State) (ev : Event) → st.history ≢ [] → (one st ev).history ≢ []
  some-step st ev some =
      let x = step-appends P st ev (map (replay_answer h) (calls_of P st.history ev None)) in
      let Of : List Entry → Type 0 = λ g. g ≢ [] in
      subst Of (sym x.2) (some-more st.history x.0 some)

  turn-suits : (g : List Entry) (ev : Event) → IsTurn ev → Suits g ev
  turn-suits g (Turn id) is = tt
  turn-suits g (Append text) is = absurd is
  turn-suits g (Run c) is = absurd is
  turn-suits g (Dequeue q) is = absurd is
  turn-suits g (ShowStatus id) is = absurd is
  turn-suits g (GetRow table key) is = absurd is
  turn-suits g Nothing is = absurd is

  good-turns : (st : State) (evs : List Event) → AllByRecursion IsTurn evs → Good P st → Good P (go st evs)
  good-turns st [] all good = good
  good-turns st (ev ∷ evs) all good = good-turns (one st ev) evs all.1 (good-step st ev (turn-suits st.history ev all.0) good)

  some-turns : (st : State) (evs : List Event) → st.history ≢ [] → (go st evs).history ≢ []
  some-turns st [] some = some
  some-turns st (ev ∷ evs) some = some-turns (one st ev) evs (some-step st ev some)

  -- a turn on an empty history changes nothing
  turn-empty : (g : List Entry) (b : Begun) (id : Text) (answer : Option Outcome) → g ≡ [] → (stepped P (record { history = g; begun = b }) (Turn id) answer).state.history ≡ []
  turn-empty g b id answer is =
      let Of : List Entry → Type 0 = λ x. (stepped P (record { history = x; begun = b }) (Turn id) answer).state.history ≡ [] in
      subst Of (sym is) refl

  event-empty : (st : State) (ev : Event) → IsTurn ev → st.history ≡ [] → (one st ev).history ≡ []
  event-empty st (Turn id) is empty_now = turn-empty st.history st.begun id _ empty_now
  event-empty st (Append text) is empty_now = absurd is
  event-empty st (Run c) is empty_now = absurd is
  event-empty st (Dequeue q) is empty_now = absurd is
  event-empty st (ShowStatus id) is empty_now = absurd is
  event-empty st (GetRow table key) is empty_now = absurd is
  event-empty st Nothing is empty_now = absurd is

  turns-empty : (st : State) (evs : List Event) → AllByRecursion IsTurn evs → st.history ≡ [] → (go st evs).history ≡ []
  turns-empty st [] all is = is
  turns-empty st (ev ∷ evs) all is = turns-empty (one st ev) evs all.1 (event-empty st ev all.0 is)

  -- a program makes the history begin
  begun-by : (g : List Entry) (b : Begun) (text : Text) (answer : Option Outcome) → IsSized 0 1048576 text → g ≡ [] → (stepped P (record { history = g; begun = b }) (Append text) answer).state.history ≢ []
  begun-by g b text answer fits is =
      let Of : List Entry → Type 0 = λ x. (stepped P (record { history = x; begun = b }) (Append text) answer).state.history ≢ [] in
      let At : Option Limit → Type 0 = λ o. (entered (record { history = []; begun = b }) (program_entry [] text) (reply.Entry 1) o).0.history ≢ [] in
      subst Of (sym is) (subst At (sym (program-room text fits)) (λ clash. (let z : program_entry [] text ∷ [] ≡ [] = clash in cc)))

  abbrev events_from : ℕ → List Entry → List Event
  events_from i es = flat_map (λ (p : ℕ × Entry). begins h p.0 ++ event_of p.1 ∷ []) (enumerate_from i es)

  -- the events behind the first
  later-good : (i : ℕ) (es : List Entry) (st : State) → AllByRecursion (λ (e : Entry). is_program e.act ≡ false) es → st.history ≢ [] → Good P st → Good P (go st (events_from i es))
  later-good i [] st all some good = good
  later-good i (e ∷ es) st all some good =
      let mid : State = go st (begins h i) in
      let mid_some : mid.history ≢ [] = some-turns st (begins h i) some in
      let mid_good : Good P mid = good-turns st (begins h i) (all-turns i h) good in
      let next_good : Good P (one mid (event_of e)) = good-step mid (event_of e) (later-suits mid.history (event_of e) mid_some (act-later e e.act all.0)) mid_good in
      let rest : Good P (go (one mid (event_of e)) (events_from (i + 1) es)) = later-good (i + 1) es (one mid (event_of e)) all.1 (some-step mid (event_of e) mid_some) next_good in
      let joined : go st (events_from i (e ∷ es)) ≡ go (one mid (event_of e)) (events_from (i + 1) es) =
      fold-over one st (begins h i ++ event_of e ∷ []) (events_from (i + 1) es)
      ∙ ap (λ (s : State). go s (events_from (i + 1) es)) (fold-over one st (begins h i) (event_of e ∷ [])) in
      subst (Good P) (sym joined) rest

  run-is : (t : Trail) (evs : List Event) → (run_by P (replay_answer h) t evs).state ≡ go t.state evs
  run-is t [] = refl
  run-is t (ev ∷ evs) = run-is (next_by P (replay_answer h) t ev) evs

no-programs : (g es : List Entry) → g ≢ [] → FollowEachOther g es → AllByRecursion (λ (e : Entry). is_program e.act ≡ false) es
no-programs g [] some all = tt
no-programs g (e ∷ es) some all = (not-a-program g e some all.0.program, no-programs (g ++ e ∷ []) es (some-more g (e ∷ []) some) all.1) where
  not-a-program : (g : List Entry) (e : Entry) → g ≢ [] → IsProgramFirst g e → is_program e.act ≡ false
  not-a-program [] e some is = absurd (some refl)
  not-a-program (x ∷ xs) e some is = is

program-event : (e : Entry) (a : Act) → is_program a ≡ true → IsAct a → (text : Text) × (event_of_act e a ≡ Append text) × IsSized 0 1048576 text
program-event e (acts.Program text) is fits = (text, refl, fits)
program-event e acts.Load is fits = absurd cc
program-event e (acts.Start id) is fits = absurd cc
program-event e (acts.Enqueue id) is fits = absurd cc
program-event e (acts.Dequeue id) is fits = absurd cc
program-event e (acts.Txn id n args) is fits = absurd cc
program-event e (acts.Outside id n args) is fits = absurd cc
program-event e (acts.Child id n child) is fits = absurd cc
program-event e (acts.Await id n on) is fits = absurd cc
program-event e (acts.Finish id) is fits = absurd cc
program-event e (acts.Cancel id) is fits = absurd cc
program-event e (acts.Resume id) is fits = absurd cc
program-event e (acts.Fork id from below) is fits = absurd cc
program-event e (acts.Recover id) is fits = absurd cc

run-good : (P : Language) (e : Entry) (es : List Entry) → IsFormed (e ∷ es) → Good P (go P (e ∷ es) empty (schedule (e ∷ es)))
run-good P e es formed =
    let h : List Entry = e ∷ es in
    let first : Good P empty = record { snapshots = restarted-open P []; made = tt } in
    let mid : State = go P h empty (begins h 0) in
    let mid_good : Good P mid = good-turns P h empty (begins h 0) (all-turns 0 h) first in
    let mid_empty : mid.history ≡ [] = turns-empty P h empty (begins h 0) (all-turns 0 h) refl in
    let p = program-event e e.act formed.entries.0.program.0 formed.limits.0.act in
    let Suiting : Event → Type 0 = λ ev. Suits mid.history ev in
    let Beginning : Event → Type 0 = λ ev. (one P h mid ev).history ≢ [] in
    let begun : State = one P h mid (event_of e) in
    let begun_good : Good P begun = good-step P h mid (event_of e) (subst Suiting (sym p.1) mid_empty) mid_good in
    let begun_some : begun.history ≢ [] = subst Beginning (sym p.1) (begun-by P h mid.history mid.begun p.0 (first_of (map (replay_answer h) (calls_of P mid.history (Append p.0) None))) p.2 mid_empty) in
    let programs : AllByRecursion (λ (x : Entry). is_program x.act ≡ false) es = no-programs (e ∷ []) es (λ clash. (let z : e ∷ [] ≡ [] = clash in cc)) formed.entries.1 in
    let rest : Good P (go P h begun (events_from P h 1 es)) = later-good P h 1 es begun programs begun_some begun_good in
    let joined : go P h empty (schedule h) ≡ go P h begun (events_from P h 1 es) =
    fold-over (one P h) empty (begins h 0 ++ event_of e ∷ []) (events_from P h 1 es)
    ∙ ap (λ (s : State). go P h s (events_from P h 1 es)) (fold-over (one P h) empty (begins h 0) (event_of e ∷ [])) in
    subst (Good P) (sym joined) rest

pub made-by-replay : (P : Language) (h : List Entry) → IsFormed h → replayed P h ≡ h → IsMade P h
made-by-replay P [] formed same = tt
made-by-replay P (e ∷ es) formed same =
    let h : List Entry = e ∷ es in
    let good : Good P (run_by P (replay_answer h) (from_state empty []) (schedule h)).state = subst (Good P) (sym (run-is P h (from_state empty []) (schedule h))) (run-good P e es formed) in
    let Of : List Entry → Type 0 = λ g. IsMade P g in
    subst Of same good.made
