-- The entry of a transaction is such as the store takes, whether or not it conflicts.
use Rattle.std.proofs.Common.{◌≡◌, ◌≢◌, ℕ, ◌+◌, ◌<◌, ◌≤◌, ◌^◌, Bool, true, false, ◌&&◌, List, [], ◌∷◌, ◌++◌, length, map, Option, Some, None, refl, sym, ap, ◌∙◌, subst, arith}
use Rattle.std.specs.Prelude.{filter, is_some, count_by}
use Rattle.std.specs.List.{AllByRecursion}
use Rattle.std.specs.Ordering.{is_lt}
use Rattle.std.specs.FinMap.Entries.{is_sorted, below_all}
use Rattle.std.proofs.lemmas.List.{length-map}
use Rattle.std.proofs.lemmas.List.Sums.{length-filter}
use Rattle.r3_value.specs.declared.value.Val.{Val}
use Rattle.r3_rows.specs.declared.rows.Key.{Key}
use Rattle.r3_rows.specs.declared.rows.Key.TheVariants as keys
use Rattle.r3_rows.specs.declared.rows.Cell.{Cell}
use Rattle.r3_rows.specs.declared.rows.FlowRow.{FlowRow}
use Rattle.r3_rows.specs.declared.rows.StepRow.{StepRow}
use Rattle.r3_rows.specs.declared.rows.StepKind.TheVariants as kinds
use Rattle.r3_rows.specs.Keys.{key_cmp}
use Rattle.r3_entry.specs.declared.entry.Entry.{Entry}
use Rattle.r3_entry.specs.Bytes.{entry}
use Rattle.r3_entry.specs.Formed.{IsFlowRow, IsNewStep, IsOfKind, IsProgramFirst, IsReadAt, is_program, is_user}
use Rattle.r3_entry.specs.History.{cell_at, version_at}
use Rattle.r3_entry.specs.Limits.{IsEntry}
use Rattle.r3_store.specs.Holds.{MayFollow}
use Rattle.fn_tree.specs.declared.flow.AskKind.TheVariants as asking
use Rattle.fn_tree.specs.declared.flow.FlowEnd.{FlowEnd}
use Rattle.fn_tree.specs.declared.flow.FlowEnd.TheVariants.{Asks}
use Rattle.fn_tree.specs.declared.flow.Request.{Request}
use Rattle.fn_tree.specs.declared.look.Look.{Look}
use Rattle.fn_tree.specs.declared.look.Look.TheVariants.{At, Range}
use Rattle.fn_tree.specs.declared.look.TxnRun.{TxnRun}
use Rattle.fn_tree.specs.Writes.{Write as Put}
use Rattle.r3_model.specs.Acts.{Writes, put_write, read_of, step_row, step_write, txn_entry, value_cell}
use Rattle.r3_model.specs.Language.{Language, Text}
use Rattle.r3_model.specs.Lawful.{Counts, IsLawful, IsLimited, IsLookAt, RunsTrue}
use Rattle.r3_model.specs.Machine.{State}
use Rattle.r3_model.specs.Rows.{answer_of, flow_at, step_at, steps_at, view_at}
use Rattle.r3_model.specs.Turns.{flow_end, run_on}
use Rattle.r3_model.specs.Valid.{IsOpen, IsValid}
use Rattle.r3_laws.specs.OfStates.{flows_in}
use Rattle.r3_laws.proofs.Asks.{steps_at-end}
use Rattle.r3_laws.proofs.Fitted.{IsFitted, txn-fitted}
use Rattle.r3_laws.proofs.Fitting.{txn-fits}
use Rattle.r3_laws.proofs.InOrder.{parts}
use Rattle.r3_laws.proofs.Ranges.{range-paired}
use Rattle.r3_laws.proofs.Sizes.{payload-few, reads-number}
use Rattle.r3_laws.proofs.StepRows.{flow-stays, some-flow, version-none}

-- ---- what a body writes, with its step behind it

abbrev Of : Type 1
Of = Key × Option Cell → Type 0

all_puts : (Is : Of) → ((p : Put) (v : Option Val) → Is ((put_write p).0, value_cell v)) → (puts : List Put) (rest : Writes) → AllByRecursion Is rest → AllByRecursion Is (map put_write puts ++ rest)
all_puts Is each [] rest all = all
all_puts Is each (p ∷ ps) rest all = (each p p.2, all_puts Is each ps rest all)

put_kind : (p : Put) (v : Option Val) → IsOfKind ((put_write p).0, value_cell v)
put_kind p None = tt {0}
put_kind p (Some v) = tt {0}

put_row : (j : ℕ) (p : Put) (v : Option Val) → IsFlowRow j ((put_write p).0, value_cell v)
put_row j p None = tt {0}
put_row j p (Some v) = tt {0}

put_new : (old new : List Entry) (p : Put) (v : Option Val) → IsNewStep old new ((put_write p).0, value_cell v)
put_new old new p v = tt {0}

few_users : (puts : List Put) (rest : Writes) → length (filter is_user (map put_write puts ++ rest)) ≡ length puts + length (filter is_user rest)
few_users [] rest = omega arith
few_users (p ∷ ps) rest = omega (arith, few_users ps rest)

both : (a b : Bool) → a ≡ true → b ≡ true → (a && b) ≡ true
both true b x y = y
both false b x y = absurd cc

module _ (id : Text) (n : ℕ) (r : StepRow) where
  below_step : (p : Put) (ps : List Put) → below_all key_cmp (put_write p).0 (map put_write ps) ≡ true → below_all key_cmp (put_write p).0 (map put_write ps ++ step_write id n r ∷ []) ≡ true
  below_step p [] below = refl
  below_step p (q ∷ qs) below =
      let t = parts (is_lt (key_cmp (put_write p).0 (put_write q).0)) _ below in
      both (is_lt (key_cmp (put_write p).0 (put_write q).0)) (below_all key_cmp (put_write p).0 (map put_write qs ++ step_write id n r ∷ [])) t.0 (below_step p qs t.1)

  -- a step's key stands behind those of rows
  rises : (ps : List Put) → is_sorted key_cmp (map put_write ps) ≡ true → is_sorted key_cmp (map put_write ps ++ step_write id n r ∷ []) ≡ true
  rises [] sorted = refl
  rises (p ∷ ps) sorted =
      let t = parts (below_all key_cmp (put_write p).0 (map put_write ps)) _ sorted in
      both (below_all key_cmp (put_write p).0 (map put_write ps ++ step_write id n r ∷ [])) (is_sorted key_cmp (map put_write ps ++ step_write id n r ∷ [])) (below_step p ps t.0) (rises ps t.1)

-- ---- what it read

module _ (h : List Entry) (s : ℕ) where
  read_true : (l : Look) → IsLookAt (view_at h s) l → IsReadAt h s (read_of l)
  read_true (At table key version) is = is
  read_true (Range table lo hi found) is = is ∙ range-paired h s table lo hi

  reads_true : (ls : List Look) → AllByRecursion (IsLookAt (view_at h s)) ls → AllByRecursion (IsReadAt h s) (map read_of ls)
  reads_true [] all = tt {0}
  reads_true (l ∷ ls) all = (read_true l all.0, reads_true ls all.1)

-- ---- the entry

behind_first : (h : List Entry) (e : Entry) → h ≢ [] → is_program e.act ≡ false → IsProgramFirst h e
behind_first [] e some other = absurd (some refl)
behind_first (x ∷ xs) e some other = other

-- the step that is asked for has no row
asked_none : (P : Language) → IsLawful P → (h : List Entry) (id : Text) (row : FlowRow) (q : Request) → flow_end P h id row ≡ Asks q → step_at h (length h) id q.n ≡ None
asked_none P lawful h id row q ends =
    let steps : List StepRow = steps_at h (length h) id in
    let Is : FlowEnd → Type 0 = Counts (length (map answer_of steps)) in
    let c : (q.n ≡ length (map answer_of steps)) × (length (map answer_of steps) < 1000) = subst Is ends (lawful.counts row.function row.args (map answer_of steps)) in
    let even : length (map answer_of steps) ≡ length steps = length-map steps answer_of in
    ap (λ (m : ℕ). step_at h (length h) id m) (c.0 ∙ even) ∙ steps_at-end h (length h) id (omega (arith, c.1, even))

module _ (P : Language) (lawful : IsLawful P) (st : State) (valid : IsValid P st) (id : Text) (s : ℕ) (snap : IsOpen P st.history id s) (row : FlowRow) (q : Request) (there : flow_at st.history (length st.history) id ≡ Some row) (ends : flow_end P st.history id row ≡ Asks q) where
  abbrev h : List Entry
  h = st.history

  abbrev run : TxnRun
  run = run_on P st.history id s q

  -- the entry that the transaction commits
  abbrev made : Entry
  made = txn_entry st.history id q s (run_on P st.history id s q)

  abbrev step : StepRow
  step = step_row q.name kinds.Txn run.outcome

  run_true : RunsTrue (view_at st.history s) run
  run_true = lawful.looks_true q.name q.args (view_at st.history s)

  of_kind : AllByRecursion IsOfKind made.writes
  of_kind = all_puts IsOfKind put_kind run.writes (step_write id q.n step ∷ []) (tt {0}, tt {0})

  new_steps : AllByRecursion (IsNewStep h (h ++ made ∷ [])) made.writes
  new_steps =
      let unwritten : version_at h (length h) (keys.Step id q.n) ≡ 0 = version-none h id q.n valid.formed (asked_none P lawful h id row q ends) in
      let flow = some-flow (cell_at (h ++ made ∷ []) (length (h ++ made ∷ [])) (keys.Flow id)) (flow-stays h made id of_kind (ap (λ (o : Option FlowRow). is_some o) there)) in
      all_puts (IsNewStep h (h ++ made ∷ [])) (put_new h (h ++ made ∷ [])) run.writes (step_write id q.n step ∷ []) ((unwritten, flow), tt {0})

  few_rows : count_by is_user made.writes ≤ 1024
  few_rows = omega (arith, sym (length-filter is_user made.writes), few_users run.writes (step_write id q.n step ∷ []), run_true.few_puts)

  -- it may follow the history, but for a conflict
  pub may_follow : MayFollow st.history (txn_entry st.history id q s (run_on P st.history id s q))
  may_follow = record {
    program = behind_first h made valid.begins refl;
    below = snap.past;
    reads = reads_true h s run.reads run_true.looks;
    kinds = of_kind;
    steps = new_steps;
    flows = all_puts (IsFlowRow (length h + 1)) (put_row (length h + 1)) run.writes (step_write id q.n step ∷ []) (tt {0}, tt {0});
    few_rows = few_rows;
    few_reads = run_true.few_looks;
  }

  -- it is within the limits, its payload too, and it writes no workflow's row
  module _ (limited : IsLimited P) (kind : q.kind ≡ asking.Txn) where
    fitted : IsFitted made
    fitted = txn-fitted P h id q s (txn-fits P lawful limited h valid.formed id row q s there ends kind snap.past) run_true.few_puts

    pub is_entry : IsEntry (txn_entry st.history id q s (run_on P st.history id s q))
    is_entry = record {
      act = fitted.act;
      snap = omega (arith, snap.past, valid.formed.few);
      reads_fit = reads-number made.reads run_true.few_looks;
      reads = fitted.reads;
      writes_fit = omega (arith, fitted.few_writes);
      writes = fitted.writes;
      rising = rises id q.n step run.writes run_true.rising;
    }

    pub payload : length (entry (txn_entry st.history id q s (run_on P st.history id s q))) ≤ 2 ^ 23
    payload = payload-few made is_entry run_true.few_looks fitted.few_writes fitted.few_flows

    pub one_flow : flows_in (txn_entry st.history id q s (run_on P st.history id s q)).writes ≤ 1
    one_flow = fitted.few_flows
