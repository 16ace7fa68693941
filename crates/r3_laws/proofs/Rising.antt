-- The keys that an entry writes rise, and it writes few user rows and reads few items.
use Rattle.std.proofs.Common.{◌≡◌, ℕ, ◌+◌, ◌<◌, ◌≤◌, Bool, true, false, ◌&&◌, List, [], ◌∷◌, ◌++◌, map, take, length, Option, None, refl, sym, subst, ap, ◌∙◌, arith}
use Rattle.std.specs.Prelude.{filter, count_by, sum_by, IsTrue}
use Rattle.std.specs.Ordering.{is_lt, nat_cmp, ordering_then}
use Rattle.std.specs.Cmp.{tied_itself}
use Rattle.std.specs.FinMap.Entries.{is_sorted, below_all}
use Rattle.std.specs.declared.cmp.Ordering.{Ordering}
use Rattle.std.specs.declared.cmp.Ordering.TheVariants.{Less}
use Rattle.std.proofs.lemmas.Cmp.{nat_list_cmp_total}
use Rattle.std.proofs.lemmas.List.{length-map}
use Rattle.std.proofs.lemmas.List.Sums.{length-filter, count_by-le-length}
use Rattle.r3_value.specs.declared.value.Val.{Val}
use Rattle.r3_value.specs.declared.value.Outcome.{Outcome}
use Rattle.r3_rows.specs.declared.rows.Key.TheVariants as keys
use Rattle.r3_rows.specs.declared.rows.StepRow.{StepRow}
use Rattle.r3_rows.specs.declared.rows.StepKind.TheVariants as kinds
use Rattle.r3_rows.specs.declared.rows.Status.TheVariants as status
use Rattle.r3_entry.specs.declared.entry.Entry.{Entry}
use Rattle.r3_entry.specs.Formed.{is_user, read_count}
use Rattle.r3_rows.specs.Keys.{key_cmp}
use Rattle.fn_tree.specs.Writes.{Write as Put}
use Rattle.r3_model.specs.Language.{Text, Language}
use Rattle.fn_tree.specs.declared.flow.Request.{Request}
use Rattle.r3_model.specs.Event.{Event, Run}
use Rattle.sys_flow.specs.declared.command.Command.TheVariants.{Load}
use Rattle.r3_model.specs.Rows.{steps_at, view_at}
use Rattle.r3_model.specs.Acts.{Writes, put_write, row_write, step_write, step_row, flow_write, in_order, started}
use Rattle.r3_model.specs.Commands.{id_or_made}
use Rattle.r3_model.specs.Turns.{run_on}
use Rattle.r3_model.specs.Lawful.{IsLawful}
use Rattle.r3_laws.specs.OfEvents.{HasRows}
use Rattle.r3_laws.proofs.After.{copies}
use Rattle.r3_laws.proofs.Cases.{AskCase, commits, hears, bears, links, awaits, finishes, goes_on, Case, programs, loads, starts, enqueues, dequeues, turns, cancels, resumes, forks, recovers}
use Rattle.r3_laws.proofs.InOrder.{parts, sorted-in_order}
use Rattle.r3_laws.proofs.Loads.{AreRows, in_order-rows}

-- ---- in order

both : (a b : Bool) → a ≡ true → b ≡ true → (a && b) ≡ true
both true b x y = y
both false b x y = absurd cc

abbrev rises : Writes → Bool
rises ws = is_sorted key_cmp ws

module _ (id : Text) (n : ℕ) (r : StepRow) where
  below-then : (p : Put) (ps : List Put) → below_all key_cmp (put_write p).0 (map put_write ps) ≡ true → below_all key_cmp (put_write p).0 (map put_write ps ++ step_write id n r ∷ []) ≡ true
  below-then p [] below = refl
  below-then p (q ∷ qs) below =
      let t = parts (is_lt (key_cmp (put_write p).0 (put_write q).0)) _ below in
      both (is_lt (key_cmp (put_write p).0 (put_write q).0)) (below_all key_cmp (put_write p).0 (map put_write qs ++ step_write id n r ∷ [])) t.0 (below-then p qs t.1)

  puts-rise : (ps : List Put) → rises (map put_write ps) ≡ true → rises (map put_write ps ++ step_write id n r ∷ []) ≡ true
  puts-rise [] sorted = refl
  puts-rise (p ∷ ps) sorted =
      let t = parts (below_all key_cmp (put_write p).0 (map put_write ps)) _ sorted in
      both (below_all key_cmp (put_write p).0 (map put_write ps ++ step_write id n r ∷ [])) (rises (map put_write ps ++ step_write id n r ∷ [])) (below-then p ps t.0) (puts-rise ps t.1)

nat-less : (m n : ℕ) → m < n → nat_cmp m n ≡ Less
nat-less m n lt = grind arith

steps-less : (id : Text) (m n : ℕ) → m < n → is_lt (key_cmp (keys.Step id m) (keys.Step id n)) ≡ true
steps-less id m n lt =
    ap (λ (o : Ordering). is_lt (ordering_then o (nat_cmp m n))) (tied_itself nat_list_cmp_total id)
    ∙ ap (λ (o : Ordering). is_lt o) (nat-less m n lt)

module _ (id : Text) where
  below-copies : (m k : ℕ) (rows : List StepRow) → m < k → below_all key_cmp (keys.Step id m) (copies id k rows) ≡ true
  below-copies m k [] lt = refl
  below-copies m k (r ∷ rs) lt = both (is_lt (key_cmp (keys.Step id m) (keys.Step id k))) _ (steps-less id m k lt) (below-copies m (k + 1) rs (omega arith))

  copies-rise : (k : ℕ) (rows : List StepRow) → rises (copies id k rows) ≡ true
  copies-rise k [] = refl
  copies-rise k (r ∷ rs) = both (below_all key_cmp (keys.Step id k) (copies id (k + 1) rs)) _ (below-copies k (k + 1) rs (omega arith)) (copies-rise (k + 1) rs)

  flow-below : (other : Text) (k : ℕ) (rows : List StepRow) → below_all key_cmp (keys.Flow other) (copies id k rows) ≡ true
  flow-below other k [] = refl
  flow-below other k (r ∷ rs) = flow-below other (k + 1) rs

  copies-users : (k : ℕ) (rows : List StepRow) → filter is_user (copies id k rows) ≡ []
  copies-users k [] = refl
  copies-users k (r ∷ rs) = copies-users (k + 1) rs

puts-users : (ps : List Put) (rest : Writes) → length (filter is_user (map put_write ps ++ rest)) ≡ length ps + length (filter is_user rest)
puts-users [] rest = omega arith
puts-users (p ∷ ps) rest = omega (arith, puts-users ps rest)

-- what an entry's sizes keep
pub record IsSmall (e : Entry) : Type 0 where
  pub rising : IsTrue (is_sorted key_cmp e.writes)
  pub few_rows : count_by is_user e.writes ≤ 1024
  pub few_reads : sum_by read_count e.reads ≤ 4096

module _ (P : Language) (lawful : IsLawful P) (h : List Entry) (e : Entry) where
  moved : (e0 : Entry) → e ≡ e0 → IsSmall e0 → IsSmall e
  moved e0 is all = subst IsSmall (sym is) all

  ask-small : {snap : Option ℕ} {answer : Option Outcome} (id : Text) (q : Request) → AskCase P h id q snap answer e → IsSmall e
  ask-small id q (commits s kind snap_is none is) =
      let run = run_on P h id s q in
      let true_run = lawful.looks_true q.name q.args (view_at h s) in
      moved _ is (record {
        rising = puts-rise id q.n _ run.writes true_run.rising;
        few_rows = omega (arith, sym (length-filter is_user (map put_write run.writes ++ step_write id q.n (step_row q.name kinds.Txn run.outcome) ∷ [])), puts-users run.writes (step_write id q.n (step_row q.name kinds.Txn run.outcome) ∷ []), true_run.few_puts);
        few_reads = true_run.few_looks;
      })
  ask-small id q (hears o kind heard is) = moved _ is (record { rising = refl; few_rows = omega arith; few_reads = omega arith })
  ask-small id q (bears kind gone few is) = moved _ is (record { rising = refl; few_rows = omega arith; few_reads = omega arith })
  ask-small id q (links child o kind child_is o_is is) = moved _ is (record { rising = refl; few_rows = omega arith; few_reads = omega arith })
  ask-small id q (awaits o kind found is) = moved _ is (record { rising = refl; few_rows = omega arith; few_reads = omega arith })

  load-small : (table : Text) (rows : List (Text × Val)) → 1 ≤ length rows → length rows ≤ 1024 → count_by is_user (in_order (map (row_write table) rows)) ≤ 1024
  load-small table rows some few =
      let are : AreRows table (length rows) (in_order (map (row_write table) rows)) = in_order-rows table rows some in
      omega (arith, count_by-le-length is_user (in_order (map (row_write table) rows)), ap (λ (ws : Writes). length ws) are.are, length-map are.rows (row_write table), are.few, few)

  pub case-small : {snap : Option ℕ} {answer : Option Outcome} (ev : Event) → HasRows ev → Case P h ev snap answer e → IsSmall e
  case-small ev has (programs text ev_is is) = moved _ is (record { rising = refl; few_rows = omega arith; few_reads = omega arith })
  case-small ev has (loads table rows ev_is is) =
      let fit : HasRows (Run (Load table rows)) = subst HasRows ev_is has in
      moved _ is (record { rising = sorted-in_order (map (row_write table) rows); few_rows = load-small table rows fit.0 fit.1; few_reads = omega arith })
  case-small ev has (starts given function args ev_is gone tests is) = moved _ is (record { rising = refl; few_rows = omega arith; few_reads = omega arith })
  case-small ev has (enqueues given queue function args ev_is gone tests is) = moved _ is (record { rising = refl; few_rows = omega arith; few_reads = omega arith })
  case-small ev has (dequeues queue f ev_is there waits is) = moved _ is (record { rising = refl; few_rows = omega arith; few_reads = omega arith })
  case-small ev has (turns id row ev_is there runs (finishes o ends is)) = moved _ is (record { rising = refl; few_rows = omega arith; few_reads = omega arith })
  case-small ev has (turns id row ev_is there runs (goes_on q ends c)) = ask-small id q c
  case-small ev has (cancels id row ev_is there may is) = moved _ is (record { rising = refl; few_rows = omega arith; few_reads = omega arith })
  case-small ev has (resumes id row ev_is there may is) = moved _ is (record { rising = refl; few_rows = omega arith; few_reads = omega arith })
  case-small ev has (recovers id row ev_is there runs is) = moved _ is (record { rising = refl; few_rows = omega arith; few_reads = omega arith })
  case-small ev has (forks given source below row ev_is gone there tests is) =
      let id = id_or_made h given in
      let rows : List StepRow = take below (steps_at h (length h) source) in
      moved _ is (record {
        rising = both (below_all key_cmp (keys.Flow id) (copies id 0 rows)) (rises (copies id 0 rows)) (flow-below id id 0 rows) (copies-rise id 0 rows);
        few_rows = omega (arith, sym (length-filter is_user (flow_write id (started status.Pending row.function row.args None (length h + 1) None) ∷ copies id 0 rows)), ap (λ (ws : Writes). length ws) (copies-users id 0 rows));
        few_reads = omega arith;
      })
