-- What the turn of a workflow comes to that asks for a transaction.
use Rattle.std.proofs.Common.{◌≡◌, ◌≢◌, ℕ, ◌+◌, ◌<◌, List, [], ◌∷◌, ◌++◌, length, Option, Some, None, arith, refl, sym, ap, ◌∙◌}
use Rattle.std.specs.FinMap.{find}
use Rattle.r3_rows.specs.Keys.{bytes_cmp}
use Rattle.r3_entry.specs.declared.entry.Entry.{Entry}
use Rattle.fn_tree.specs.declared.flow.Request.{Request}
use Rattle.fn_tree.specs.declared.look.TxnRun.{TxnRun}
use Rattle.r3_model.specs.Acts.{txn_entry}
use Rattle.r3_model.specs.Event.{Turn, Call}
use Rattle.r3_model.specs.Event as reply
use Rattle.r3_model.specs.Given.{Given, Enters}
use Rattle.r3_model.specs.Language.{Language, Text}
use Rattle.r3_model.specs.Machine.{State, Begun, after_act, calls_of, came, closed, entered, full_of, given, snap_of, stepped}
use Rattle.r3_model.specs.Turns.{call_of_turn, committed, conflict_keys, run_on, turned, txn_turn, writer_past}
use Rattle.r3_exec.specs.Ends.{limit_of, turn_reply}
use Rattle.r3_exec.specs.Placed.{IsPlaced, Keeping}
use Rattle.r3_exec.specs.Turning.{Comes, begun_after, begun_at, end_of, history_after}
use Rattle.r3_exec.specs.declared.commit.Placed.{Placed}
use Rattle.r3_exec.specs.declared.commit.Placed.TheVariants as placed
use Rattle.r3_exec.specs.declared.exec.Exec.{Exec}
use Rattle.r3_exec.specs.declared.turning.Turning.TheVariants as turns
use Rattle.r3_exec.proofs.TurnGives.{no_call}

pub not_empty : (h : List Entry) → h ≢ [] → 0 < length h
not_empty [] some = absurd (some refl)
not_empty (e ∷ es) some = omega arith

-- a snapshot's transaction that nobody past it has conflicted with
pub none_such : (o : Option ℕ) → ((j : ℕ) → o ≡ Some j → ⊥) → o ≡ None
none_such None never = refl
none_such (Some j) never = absurd (never j refl)

module _ (P : Language) (st : State) (id : Text) (q : Request) (comes : Comes P st.history id (turned P st.history id) (call_of_turn P st.history id) (turns.Commits q)) where
  abbrev run_at : ℕ → TxnRun
  run_at s = run_on P st.history id s q

  -- the step, by what has come
  by_came : (o : State × reply.Reply) → came st (Turn id) (given P st.history (Turn id) (snap_of st.begun (Turn id)) None) ≡ o
      → stepped P st (Turn id) None ≡ record { state = o.0; reply = o.1; calls = [] }
  by_came o is =
      ap (λ (x : State × reply.Reply). record { state = x.0; reply = x.1; calls = calls_of P st.history (Turn id) None }) is
      ∙ ap (λ (cs : List Call). record { state = o.0; reply = o.1; calls = cs }) (no_call P st id None comes.1)

  given_by : (snap : Option ℕ) → find bytes_cmp id st.begun ≡ snap
      → given P st.history (Turn id) (snap_of st.begun (Turn id)) None ≡ txn_turn P st.history id snap q
  given_by snap is = comes.0 (snap_of st.begun (Turn id)) None ∙ ap (λ (x : Option ℕ). txn_turn P st.history id x q) is

  given_past : (s : ℕ) (o : Option ℕ) → find bytes_cmp id st.begun ≡ Some s → writer_past st.history s (conflict_keys (run_at s)) ≡ o
      → given P st.history (Turn id) (snap_of st.begun (Turn id)) None ≡ committed P st.history id s q (run_at s) o
  given_past s o snap is = given_by (Some s) snap ∙ ap (λ (x : Option ℕ). committed P st.history id s q (run_at s) x) is

  -- no snapshot is open: it is opened
  pub begins : find bytes_cmp id st.begun ≡ None
      → stepped P st (Turn id) None ≡ record { state = begun_at id st; reply = reply.Began (length st.history); calls = [] }
  begins none = by_came (begun_at id st, reply.Began (length st.history)) (ap (λ (g : Given). came st (Turn id) g) (given_by None none))

  -- it has lost to a later entry: the snapshot is closed
  pub loses : (s j : ℕ) → find bytes_cmp id st.begun ≡ Some s → writer_past st.history s (conflict_keys (run_at s)) ≡ Some j
      → stepped P st (Turn id) None ≡ record { state = record { history = st.history; begun = closed id st.begun }; reply = reply.Conflicts j; calls = [] }
  loses s j snap is =
      by_came (record { history = st.history; begun = closed id st.begun }, reply.Conflicts j) (ap (λ (g : Given). came st (Turn id) g) (given_past s (Some j) snap is))

  module _ (s : ℕ) (e : Entry) (snap : find bytes_cmp id st.begun ≡ Some s) (made : e ≡ txn_entry st.history id q s (run_on P st.history id s q)) (none : writer_past st.history s (conflict_keys (run_on P st.history id s q)) ≡ None) where
    -- nobody has: its entry is appended, where there is room
    enters_as : (o : Option reply.Limit) → full_of st.history e ≡ o
        → came st (Turn id) (given P st.history (Turn id) (snap_of st.begun (Turn id)) None) ≡ entered st e (reply.Entry (length st.history + 1)) o
    enters_as o is =
        ap (λ (g : Given). came st (Turn id) g) (given_past s None snap none ∙ ap (λ (x : Entry). Enters x (reply.Entry (length st.history + 1))) (sym made))
        ∙ ap (λ (x : Option reply.Limit). entered st e (reply.Entry (length st.history + 1)) x) is

    pub commits : full_of st.history e ≡ None
        → stepped P st (Turn id) None ≡ record { state = record { history = st.history ++ e ∷ []; begun = closed id st.begun }; reply = reply.Entry (length st.history + 1); calls = [] }
    commits fits =
        by_came (record { history = st.history ++ e ∷ []; begun = closed id st.begun }, reply.Entry (length st.history + 1))
        (enters_as None fits ∙ ap (λ (b : Begun). (record { history = st.history ++ e ∷ []; begun = b }, reply.Entry (length st.history + 1))) (ap (λ (x : Entry). after_act x.act st.begun) made))

    pub has_no_room : (l : reply.Limit) → full_of st.history e ≡ Some l → stepped P st (Turn id) None ≡ record { state = st; reply = reply.Full l; calls = [] }
    has_no_room l full = by_came (st, reply.Full l) (enters_as (Some l) full)

-- ---- what became of the entry

module _ {D : Type 0} (size : D → Option ℕ) (image : D → Option (List ℕ)) (may_leave : D → List ℕ → Type 0) (desk : D) (exec : Exec) (h : List Entry) (begun : Begun) (k : ℕ) (e : Entry) where
  pub keeping_after : (p : Placed) → IsPlaced size image may_leave desk exec h begun k e p → Keeping size image may_leave desk exec (history_after h e p) begun k
  keeping_after (placed.Number n) is = is.2
  keeping_after (placed.Full l) is = is.1
  keeping_after (placed.Conflict j) is = is

module _ (P : Language) (st : State) (id : Text) (q : Request) (comes : Comes P st.history id (turned P st.history id) (call_of_turn P st.history id) (turns.Commits q)) (s : ℕ) (e : Entry) (snap : find bytes_cmp id st.begun ≡ Some s) (made : e ≡ txn_entry st.history id q s (run_on P st.history id s q)) where
  abbrev writer : Option ℕ
  writer = writer_past st.history s (conflict_keys (run_on P st.history id s q))

  module _ {D : Type 0} (size : D → Option ℕ) (image : D → Option (List ℕ)) (may_leave : D → List ℕ → Type 0) (desk : D) (exec : Exec) (k : ℕ) where
    -- the machine's step, where a conflict is told just where there is one
    pub step_of : (p : Placed) → IsPlaced size image may_leave desk exec st.history st.begun k e p
        → ((j : ℕ) → p ≡ placed.Conflict j → writer ≡ Some j) → ((j : ℕ) → writer ≡ Some j → p ≡ placed.Conflict j)
        → stepped P st (Turn id) None ≡ record { state = record { history = history_after st.history e p; begun = begun_after id p st.begun }; reply = turn_reply (end_of p); calls = [] }
    step_of (placed.Number n) is told found =
        commits P st id q comes s e snap made (none_such writer (λ j w. absurd (let wrong = found j w in cc))) is.1
        ∙ ap (λ (m : ℕ). record { state = record { history = st.history ++ e ∷ []; begun = closed id st.begun }; reply = reply.Entry m; calls = [] }) (sym is.0)
    step_of (placed.Full l) is told found =
        has_no_room P st id q comes s e snap made (none_such writer (λ j w. absurd (let wrong = found j w in cc))) (limit_of l) is.0
    step_of (placed.Conflict j) is told found = loses P st id q comes s j snap (told j refl)
