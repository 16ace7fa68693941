-- In a made history the least record of an outside call is the entry of that call.
use Rattle.std.proofs.Common.{◌≡◌, ℕ, suc, zero, Bool, true, false, cond, ◌&&◌, ◌||◌, List, [], ◌∷◌, take, Option, Some, None, refl, sym, subst, ap, ◌∙◌, arith}
use Rattle.std.specs.Prelude.{find, slice_get, bytes_eq, option_and_then, unwrap_or, option_map, ◌==◌, if◌then◌else◌}
use Rattle.std.specs.Ordering.{eq_by_cmp}
use Rattle.std.proofs.lemmas.Bool.{eqb-true, eq-eqb}
use Rattle.std.proofs.lemmas.Slice.Eq.{bytes_eq-Decides}
use Rattle.r3_value.specs.declared.value.Outcome.{Outcome}
use Rattle.r3_rows.specs.declared.rows.Key.TheVariants as keys
use Rattle.r3_rows.specs.declared.rows.Cell.{Cell}
use Rattle.r3_rows.specs.declared.rows.Cell.TheVariants as cells
use Rattle.r3_rows.specs.declared.rows.StepRow.{StepRow}
use Rattle.r3_rows.specs.declared.rows.StepKind.TheVariants as kinds
use Rattle.r3_entry.specs.declared.entry.Act.{Act}
use Rattle.r3_entry.specs.declared.entry.Act.TheVariants as acts
use Rattle.r3_entry.specs.declared.entry.Entry.{Entry}
use Rattle.r3_entry.specs.Bytes.{val}
use Rattle.r3_rows.specs.Keys.{key_cmp}
use Rattle.r3_entry.specs.History.{writes_key}
use Rattle.r3_model.specs.Language.{Text, Language}
use Rattle.fn_tree.specs.declared.flow.Request.{Request}
use Rattle.r3_model.specs.Event.{Event, Call}
use Rattle.r3_model.specs.Rows.{step_of}
use Rattle.r3_model.specs.Acts.{outside_entry, step_row}
use Rattle.r3_model.specs.Schedule.{step_written}
use Rattle.r3_model.specs.Made.{IsMade, recorded}
use Rattle.r3_model.specs.Lawful.{IsLawful}
use Rattle.r3_model.specs.Verdict.{is_record, same_val, outcome_for, recorded_answer, replay_answer, unrecorded}
use Rattle.r3_laws.proofs.Cases.{AskCase, commits, hears, bears, links, awaits, finishes, goes_on, Case, programs, loads, starts, enqueues, dequeues, turns, cancels, resumes, forks, recovers}
use Rattle.r3_laws.proofs.Committed.{made-at}
use Rattle.r3_laws.proofs.Once.{made-once}
use Rattle.r3_laws.proofs.Tells.{tie-refl}
use Rattle.r3_laws.proofs.ToldMade.{agrees-case}

own-refl : (s : List ℕ) → bytes_eq s s ≡ true
own-refl s = (bytes_eq-Decides s s).1 refl

-- the one element that passes a test is found
find-one : {X : Type 0} (test : X → Bool) (xs : List X) (i : ℕ) (x : X) → slice_get xs i ≡ Some x → test x ≡ true → ((j : ℕ) (y : X) → slice_get xs j ≡ Some y → test y ≡ true → j ≡ i) → find test xs ≡ Some x
find-one test [] i x at passes one = absurd (let z : None ≡ Some x = at in cc)
find-one test (y ∷ ys) zero x at passes one =
    let same : y ≡ x = (let z : Some y ≡ Some x = at in cc) in
    ap (λ (b : Bool). cond b (Some y) (find test ys)) (ap test same ∙ passes) ∙ at
find-one {X = X} test (y ∷ ys) (suc i) x at passes one = by_first (test y) refl (find-one test ys i x at passes (λ j z at_j passes_j. let e : suc j ≡ suc i = one (suc j) z at_j passes_j in omega arith)) where
  by_first : (b : Bool) → test y ≡ b → find test ys ≡ Some x → cond (test y) (Some y) (find test ys) ≡ Some x
  by_first true is rest = absurd (let e : 0 ≡ suc i = one 0 y refl is in omega arith)
  by_first false is rest = ap (λ (b : Bool). cond b (Some y) (find test ys)) is ∙ rest

-- ---- what records a call writes its step

abbrev pub IsOutsideOf : Text → ℕ → Act → Type 0
IsOutsideOf id n (acts.Outside i m args) = (i ≡ id) × (m ≡ n)
IsOutsideOf id n act = ⊥

three : (a b c : Bool) → (a && b && c) ≡ true → (a ≡ true) × (b ≡ true)
three true true c is = (refl, refl)
three true false c is = absurd cc
three false b c is = absurd cc

record-of : (c : Call) (act : Act) → is_record c act ≡ true → IsOutsideOf c.id c.n act
record-of c (acts.Outside id n args) is = let t = three (bytes_eq id c.id) (n == c.n) (same_val args c.args) is in ((bytes_eq-Decides id c.id).0 t.0, eqb-true n c.n t.1)
record-of c (acts.Program text) is = absurd cc
record-of c acts.Load is = absurd cc
record-of c (acts.Start i) is = absurd cc
record-of c (acts.Enqueue i) is = absurd cc
record-of c (acts.Dequeue i) is = absurd cc
record-of c (acts.Txn i n args) is = absurd cc
record-of c (acts.Child i n child) is = absurd cc
record-of c (acts.Await i n on) is = absurd cc
record-of c (acts.Finish i) is = absurd cc
record-of c (acts.Cancel i) is = absurd cc
record-of c (acts.Resume i) is = absurd cc
record-of c (acts.Fork i from below) is = absurd cc
record-of c (acts.Recover i) is = absurd cc

module _ (P : Language) (g : List Entry) (e : Entry) (id : Text) (n : ℕ) (out : IsOutsideOf id n e.act) where
  out-so : (e0 : Entry) → e ≡ e0 → IsOutsideOf id n e0.act
  out-so e0 is = let Of : Entry → Type 0 = λ x. IsOutsideOf id n x.act in subst Of is out

  abbrev Writes_it : Type 0
  Writes_it = writes_key e (keys.Step id n) ≡ true

  ask-writes : {s : Option ℕ} {a : Option Outcome} (own : Text) (q : Request) → AskCase P g own q s a e → Writes_it
  ask-writes own q (commits k kind begun none is) = absurd (out-so _ is)
  ask-writes own q (hears o kind got is) =
      let parts = out-so _ is in
      ap (λ (x : Entry). writes_key x (keys.Step id n)) is
      ∙ ap (λ (i : Text). eq_by_cmp key_cmp (keys.Step i n) (keys.Step own q.n) || false) (sym parts.0)
      ∙ ap (λ (m : ℕ). eq_by_cmp key_cmp (keys.Step own m) (keys.Step own q.n) || false) (sym parts.1)
      ∙ ap (λ (b : Bool). b || false) (tie-refl (keys.Step own q.n))
  ask-writes own q (bears kind gone few is) = absurd (out-so _ is)
  ask-writes own q (links child o kind child_is o_is is) = absurd (out-so _ is)
  ask-writes own q (awaits o kind found is) = absurd (out-so _ is)

  pub case-writes : {ev : Event} {s : Option ℕ} {a : Option Outcome} → Case P g ev s a e → Writes_it
  case-writes (programs text ev is) = absurd (out-so _ is)
  case-writes (loads table rows ev is) = absurd (out-so _ is)
  case-writes (starts given function args ev gone tests is) = absurd (out-so _ is)
  case-writes (enqueues given queue function args ev gone tests is) = absurd (out-so _ is)
  case-writes (dequeues queue f ev there waits is) = absurd (out-so _ is)
  case-writes (turns own row ev there runs (finishes o ends is)) = absurd (out-so _ is)
  case-writes (turns own row ev there runs (goes_on q ends c)) = ask-writes own q c
  case-writes (cancels own row ev there may is) = absurd (out-so _ is)
  case-writes (resumes own row ev there may is) = absurd (out-so _ is)
  case-writes (forks given source below row ev gone there tests is) = absurd (out-so _ is)
  case-writes (recovers own row ev there runs is) = absurd (out-so _ is)

-- ---- the answer of a replay

module _ (P : Language) (lawful : IsLawful P) (h : List Entry) (made : IsMade P h) (i : ℕ) (e : Entry) (at : slice_get h i ≡ Some e) (g : List Entry) (id : Text) (q : Request) (o : Outcome) (is : e ≡ outside_entry g id q o) where
  abbrev call : Call
  call = record { id = id; n = q.n; name = q.name; args = q.args; answer = None }

  all_three : (a b c : Bool) → a ≡ true → b ≡ true → c ≡ true → (a && b && c) ≡ true
  all_three a b c x y z = rw (x, y, z) refl

  records-it : is_record call e.act ≡ true
  records-it = ap (λ (x : Entry). is_record call x.act) is ∙ all_three (bytes_eq id id) (q.n == q.n) (same_val q.args q.args) (own-refl id) (eq-eqb q.n q.n refl) (own-refl (val q.args))

  one-record : (j : ℕ) (f : Entry) → slice_get h j ≡ Some f → is_record call f.act ≡ true → j ≡ i
  one-record j f at_j records =
      made-once P lawful h made id q.n j i f e at_j at
      (case-writes P (take j h) f id q.n (record-of call f.act records) (agrees-case P (take j h) f (made-at P h j f made at_j)))
      (case-writes P (take i h) e id q.n (record-of call e.act records-it) (agrees-case P (take i h) e (made-at P h i e made at)))

  found : find (λ (x : Entry). is_record call x.act) h ≡ Some e
  found = find-one (λ (x : Entry). is_record call x.act) h i e at records-it one-record

  abbrev row : StepRow
  row = step_row q.name kinds.Outside o

  step-there : step_written e id q.n ≡ Some row
  step-there =
      ap (λ (x : Entry). step_written x id q.n) is
      ∙ ap (λ (b : Bool). option_and_then step_of (option_and_then (λ (c : Option Cell). c) (cond b (Some (Some (cells.Step row))) None))) (tie-refl (keys.Step id q.n))

  pub heard-again : replay_answer h call ≡ recorded e e.act
  heard-again =
      let answer : recorded_answer h call ≡ Some o =
      ap (λ (f : Option Entry). option_and_then (outcome_for call) (option_and_then (λ (x : Entry). step_written x id q.n) f)) found
      ∙ ap (λ (r : Option StepRow). option_and_then (outcome_for call) r) step-there
      ∙ ap (λ (b : Bool). (if b then Some o else None)) (own-refl q.name) in
      let told : recorded e e.act ≡ Some o = ap (λ (x : Entry). recorded x x.act) is ∙ ap (λ (r : Option StepRow). option_map (λ (r : StepRow). r.outcome) r) (ap (λ (x : Entry). step_written x id q.n) (sym is) ∙ step-there) in
      ap (λ (a : Option Outcome). Some (unwrap_or a unrecorded)) answer ∙ sym told
