-- How far the replay of a made history has come, and its opening turns.
use Rattle.std.proofs.Common.{◌≡◌, ℕ, ◌+◌, ◌<◌, ◌≤◌, List, map, length, take, Option, Some, None, refl, sym, subst, ap, ◌∙◌, arith, inl, inr, length-take}
use Rattle.std.specs.Prelude.{slice_get}
use Rattle.std.specs.FinMap.Entries.{find}
use Rattle.std.proofs.lemmas.Bool.{cases_lt}
use Rattle.std.proofs.lemmas.Option.{slice_get_within}
use Rattle.r3_value.specs.declared.value.Outcome.{Outcome}
use Rattle.r3_entry.specs.declared.entry.Act.{Act}
use Rattle.r3_entry.specs.declared.entry.Act.TheVariants as acts
use Rattle.r3_entry.specs.declared.entry.Entry.{Entry}
use Rattle.r3_rows.specs.Keys.{bytes_cmp}
use Rattle.r3_model.specs.Language.{Text, Language}
use Rattle.fn_tree.specs.declared.flow.AskKind.{AskKind}
use Rattle.fn_tree.specs.declared.flow.FlowEnd.TheVariants.{Asks}
use Rattle.r3_model.specs.Event.{Event, Turn, Began}
use Rattle.r3_model.specs.Given.{Given, Answers}
use Rattle.sys_queue.specs.Rows.{is_pending}
use Rattle.r3_model.specs.Turns.{asked}
use Rattle.r3_model.specs.Machine.{State, given, came, opened, stepped, calls_of, first_of}
use Rattle.r3_model.specs.Made.{Agrees, IsMade}
use Rattle.r3_model.specs.Verdict.{replay_answer}
use Rattle.r3_laws.proofs.Committed.{made-at}
use Rattle.r3_laws.proofs.Overlap.{take-at, take-shorter, between-quiet, asked-then}
use Rattle.r3_laws.proofs.Snapshots.{opened-is, find-opened}
use Rattle.r3_laws.proofs.Spares.{IsClosing}
use Rattle.r3_laws.proofs.ToldMade.{agrees-case}
use Rattle.r3_laws.proofs.TurnCases.{given-pending}
use Rattle.r3_laws.proofs.TxnCases.{IsTxnOf, AsksTxnNow, case-closes}

-- at place i the snapshot s is wanted by a later transaction of id: it was opened before, or by one of the first m entries' turns
pub record Pends (h : List Entry) (i m : ℕ) (id : Text) (s : ℕ) : Type 0 where
  pub index : ℕ
  pub entry : Entry
  pub at : slice_get h index ≡ Some entry
  pub txn : IsTxnOf id entry.act
  pub snap : entry.snap ≡ s
  pub late : i ≤ index
  pub early : s ≤ i
  pub when : s ≡ i → index < m

pub record Stage (h : List Entry) (i m : ℕ) (st : State) : Type 0 where
  pub history : st.history ≡ take i h
  pub wanted : (id : Text) (s : ℕ) → find bytes_cmp id st.begun ≡ Some s → Pends h i m id s
  pub begun : (id : Text) (s : ℕ) → Pends h i m id s → find bytes_cmp id st.begun ≡ Some s

pub txn-closing : (id : Text) (act : Act) → IsTxnOf id act → IsClosing id act
txn-closing id (acts.Txn i n args) txn = txn
txn-closing id act txn = absurd txn

-- the same entry is of one workflow
txn-one : (a b : Text) (act : Act) → IsTxnOf a act → IsTxnOf b act → a ≡ b
txn-one a b (acts.Txn i n args) x y = sym x ∙ y
txn-one a b act x y = absurd x

module _ (P : Language) (h : List Entry) (made : IsMade P h) where
  -- an entry that closes a snapshot of id doesn't stand between a transaction's snapshot and its entry
  pub gap : {A : Type 0} (id : Text) (i k : ℕ) (e f : Entry) → slice_get h i ≡ Some e → slice_get h k ≡ Some f → IsClosing id e.act → IsTxnOf id f.act → i < k → f.snap ≤ i → A
  gap id i k e f at_i at_k closing txn lt le =
      let quiet = between-quiet P (take k h) f (made-at P h k f made at_k) id txn i e le (take-at k i h lt ∙ at_i) in
      absurd (case-closes P (take i h) id e quiet (agrees-case P (take i h) e (made-at P h i e made at_i)) closing)

  -- of the transactions of id that wait at one place there is one
  pub one-waits : {A : Type 0} (i j m : ℕ) (id : Text) (e f : Entry) → slice_get h j ≡ Some e → slice_get h m ≡ Some f → IsTxnOf id e.act → IsTxnOf id f.act → i ≤ j → i ≤ m → e.snap ≤ i → f.snap ≤ i → (j ≡ m → A) → A
  one-waits i j m id e f at_j at_m txn_e txn_f ij im ei fi same =
      elim (cases_lt j m) [
        | inl lt ↦ gap id j m e f at_j at_m (txn-closing id e.act txn_e) txn_f lt (omega arith)
        | inr ge ↦ elim (cases_lt m j) [
          | inl lt ↦ gap id m j f e at_m at_j (txn-closing id f.act txn_f) txn_e lt (omega arith)
          | inr le ↦ same (omega arith)
        ]
      ]

  pub snap-below : (k : ℕ) (e : Entry) → slice_get h k ≡ Some e → e.snap ≤ k
  snap-below k e at = let a : Agrees P (take k h) e = made-at P h k e made at in omega (arith, a.below, length-take k h)

  -- one event of the replay
  abbrev pub answer_at : State → Event → Option Outcome
  answer_at st ev = first_of (map (replay_answer h) (calls_of P st.history ev None))

  abbrev pub one : State → Event → State
  one st ev = (stepped P st ev (answer_at st ev)).state

  -- ---- an opening turn

  module _ (i m : ℕ) (st : State) (stage : Stage h i m st) (e : Entry) (at : slice_get h m ≡ Some e) where
    within : m < length h
    within = slice_get_within h m e at

    more : (id : Text) (s : ℕ) → Pends h i m id s → Pends h i (m + 1) id s
    more id s p = record { index = p.index; entry = p.entry; at = p.at; txn = p.txn; snap = p.snap; late = p.late; early = p.early; when = λ same. let lt : p.index < m = p.when same in omega arith }

    fewer : (id : Text) (s : ℕ) → (IsTxnOf id e.act → e.snap ≡ i → ⊥) → Pends h i (m + 1) id s → Pends h i m id s
    fewer id s other p = record {
      index = p.index;
      entry = p.entry;
      at = p.at;
      txn = p.txn;
      snap = p.snap;
      late = p.late;
      early = p.early;
      when = λ same.
          elim (cases_lt p.index m) [
            | inl lt ↦ lt
            | inr ge ↦
                let lt : p.index < m + 1 = p.when same in
                let here : p.index ≡ m = omega arith in
                let both : Some p.entry ≡ Some e = sym p.at ∙ ap (λ (j : ℕ). slice_get h j) here ∙ at in
                let one_entry : p.entry ≡ e = cc in
                let Of : Entry → Type 0 = λ x. IsTxnOf id x.act in
                absurd (other (subst Of one_entry p.txn) (ap (λ (x : Entry). x.snap) (sym one_entry) ∙ p.snap ∙ same))
          ];
    }

    pub stays : ((id : Text) → IsTxnOf id e.act → e.snap ≡ i → ⊥) → Stage h i (m + 1) st
    stays other = record {
      history = stage.history;
      wanted = λ id s found. more id s (stage.wanted id s found);
      begun = λ id s p. stage.begun id s (fewer id s (other id) p);
    }

    module _ (id : Text) (txn : IsTxnOf id e.act) (snap : e.snap ≡ i) where
      low : i ≤ m
      low = omega (arith, snap-below m e at, snap)

      unbegun : (o : Option ℕ) → find bytes_cmp id st.begun ≡ o → o ≡ None
      unbegun None is = refl
      unbegun (Some s) is =
          let p : Pends h i m id s = stage.wanted id s is in
          absurd (one-waits i p.index m id p.entry e p.at at p.txn txn p.late low (omega (arith, p.snap, p.early)) (omega (arith, snap)) (λ same.
          let both : Some p.entry ≡ Some e = sym p.at ∙ ap (λ (j : ℕ). slice_get h j) same ∙ at in
          let one_entry : p.entry ≡ e = cc in
          let s_is : s ≡ i = sym p.snap ∙ ap (λ (x : Entry). x.snap) one_entry ∙ snap in
          let lt : p.index < m = p.when s_is in
          omega (arith, same, lt)))

      asks_then : AsksTxnNow P st.history id
      asks_then =
          let a : AsksTxnNow P (take e.snap (take m h)) id = asked-then P (take m h) e (made-at P h m e made at) id txn in
          let same : take e.snap (take m h) ≡ st.history = take-shorter e.snap m h (snap-below m e at) ∙ ap (λ (k : ℕ). take k h) snap ∙ sym stage.history in
          let Of : List Entry → Type 0 = λ g. AsksTxnNow P g id in
          subst Of same a

      long : length st.history ≡ i
      long = omega (arith, ap (λ (x : List Entry). length x) stage.history, length-take i h, low, within)

      begins_now : (answer : Option Outcome) → given P st.history (Turn id) None answer ≡ Answers (Began i)
      begins_now answer =
          let a : AsksTxnNow P st.history id = asks_then in
          let Of : AskKind → Type 0 = λ k. asked P st.history id None answer k a.request ≡ Answers (Began (length st.history)) in
          given-pending P st id a.row a.there (ap is_pending a.runs) None answer (Asks a.request) a.asks
          ∙ subst Of (sym a.kind) refl
          ∙ ap (λ (k : ℕ). Answers (Began k)) long

      opens_it : one st (Turn id) ≡ record { history = st.history; begun = opened id i st.begun }
      opens_it =
          ap (λ (o : Option ℕ). (came st (Turn id) (given P st.history (Turn id) o (answer_at st (Turn id)))).0) (unbegun (find bytes_cmp id st.begun) refl)
          ∙ ap (λ (g : Given). (came st (Turn id) g).0) (begins_now (answer_at st (Turn id)))

      this : Pends h i (m + 1) id i
      this = record { index = m; entry = e; at = at; txn = txn; snap = snap; late = low; early = omega arith; when = λ same. omega arith }

      is_this : (s : ℕ) → Pends h i (m + 1) id s → s ≡ i
      is_this s p = one-waits i p.index m id p.entry e p.at at p.txn txn p.late low (omega (arith, p.snap, p.early)) (omega (arith, snap)) (λ same.
          let both : Some p.entry ≡ Some e = sym p.at ∙ ap (λ (j : ℕ). slice_get h j) same ∙ at in
          let one_entry : p.entry ≡ e = cc in
          sym p.snap ∙ ap (λ (x : Entry). x.snap) one_entry ∙ snap)

      pub begins-open : Stage h i (m + 1) (one st (Turn id))
      begins-open =
          let new : Stage h i (m + 1) (record { history = st.history; begun = opened id i st.begun }) = record {
            history = stage.history;
            wanted = λ j s found. opened-is id j i s st.begun found
                (λ same s_is. let Of : Text → Type 0 = λ x. Pends h i (m + 1) x s in let At : ℕ → Type 0 = λ k. Pends h i (m + 1) id k in subst Of (sym same) (subst At (sym s_is) this))
                (λ old. more j s (stage.wanted j s old));
            begun = λ j s p. find-opened id j i s st.begun (λ same. is_this s (let Of : Text → Type 0 = λ x. Pends h i (m + 1) x s in subst Of same p))
                (λ apart. stage.begun j s (fewer j s (λ txn_j snap_j. apart (txn-one j id e.act txn_j txn)) p));
          } in
          subst (Stage h i (m + 1)) (sym opens_it) new
