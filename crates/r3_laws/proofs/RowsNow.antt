-- The rows of all workflows after an entry.
use Rattle.std.proofs.Common.{◌≡◌, ℕ, ◌+◌, Bool, true, false, cond, List, [], ◌∷◌, ◌++◌, map, take, length, Option, Some, None, refl, sym, ap, ◌∙◌, arith}
use Rattle.std.specs.Prelude.{fold, filter_map, option_and_then}
use Rattle.std.specs.List.{AllByRecursion, cons_option, enumerate_from}
use Rattle.std.specs.Ordering.{is_eq, is_lt, ordering_then, eq_by_cmp}
use Rattle.std.specs.declared.cmp.Ordering.{Ordering}
use Rattle.std.specs.declared.cmp.Ordering.TheVariants.{Less, Equal, Greater}
use Rattle.std.specs.FinMap.{nat_cmp-IsAntisymmetric, slice_cmp-IsAntisymmetric, IsAntisymmetric}
use Rattle.std.specs.FinMap.Entries.{find, put, is_sorted, below_all, find-put, is_sorted-put, same_entries}
use Rattle.std.proofs.lemmas.Cmp.{nat_list_cmp_total}
use Rattle.r3_value.specs.declared.value.Val.{Val}
use Rattle.r3_rows.specs.declared.rows.Key.{Key}
use Rattle.r3_rows.specs.declared.rows.Key.TheVariants as keys
use Rattle.r3_rows.specs.declared.rows.Cell.{Cell}
use Rattle.r3_rows.specs.declared.rows.Cell.TheVariants as cells
use Rattle.r3_rows.specs.declared.rows.FlowRow.{FlowRow}
use Rattle.r3_rows.specs.declared.rows.StepRow.{StepRow}
use Rattle.r3_rows.specs.declared.rows.Status.TheVariants as status
use Rattle.r3_rows.specs.declared.rows.StepKind.TheVariants as asked
use Rattle.r3_rows.specs.Keys.{key_cmp, bytes_cmp}
use Rattle.r3_rows.specs.KeyOrder.{key_cmp-total}
use Rattle.r3_entry.specs.declared.entry.Entry.{Entry}
use Rattle.r3_entry.specs.Formed.{IsOfKind}
use Rattle.r3_entry.specs.History.{Write, Map, map_at}
use Rattle.r3_entry.proofs.Append.{map_at-push}
use Rattle.fn_tree.specs.Writes.{Write as Put}
use Rattle.sys_queue.specs.Rows.{Rows}
use Rattle.r3_model.specs.Language.{Text}
use Rattle.r3_model.specs.Rows.{Flow, flow_of, flow_seen, steps_at}
use Rattle.r3_model.specs.Acts.{Writes, row_write, put_write, step_write, step_row, started, in_order}
use Rattle.r3_laws.specs.OfQueues.{rows_of}
use Rattle.r3_laws.specs.OfPending.{RowsRise, RowsTell, RowsFollow, ActsWrite, flow_written, put_all}
use Rattle.r3_laws.proofs.After.{tied}
use Rattle.r3_laws.proofs.Flows.{map_at-sorted}
use Rattle.r3_laws.proofs.InOrder.{parts, less, true_from, from_true}
use Rattle.r3_laws.proofs.Loads.{AreRows, in_order-rows}
use Rattle.r3_laws.proofs.QueueRule.{below-flows, sorted-flows}

exact : IsAntisymmetric bytes_cmp
exact = slice_cmp-IsAntisymmetric nat_cmp-IsAntisymmetric

-- the rows in a map of last writes
abbrev pub rows_in : Map → Rows
rows_in ps = rows_of (filter_map flow_seen ps)

pub rows-rise : RowsRise
rows-rise h k = sorted-flows (map_at h k) (map_at-sorted h k)

-- ---- a row is found where its key is

abbrev row_in : Option Write → Option FlowRow
row_in o = option_and_then flow_of (option_and_then (λ (w : Write). w.1) o)

then-eq : (o : Ordering) → is_eq (ordering_then o Equal) ≡ is_eq o
then-eq Less = refl
then-eq Equal = refl
then-eq Greater = refl

flow-eq : (a b : Text) → eq_by_cmp key_cmp (keys.Flow a) (keys.Flow b) ≡ eq_by_cmp bytes_cmp a b
flow-eq a b = then-eq (bytes_cmp a b)

not_found : (id : Text) (rows : Rows) → below_all bytes_cmp id rows ≡ true → find bytes_cmp id rows ≡ None
not_found id [] below = refl
not_found id (e ∷ es) below =
    let p = parts (is_lt (bytes_cmp id e.0)) (below_all bytes_cmp id es) below in
    ap (λ (o : Ordering). cond (is_eq o) (Some e.1) (find bytes_cmp id es)) (less (bytes_cmp id e.0) p.0) ∙ not_found id es p.1

-- a row, or none, comes before the others
abbrev led : Text → Option FlowRow → List Flow → Rows
led id o fs = rows_of (cons_option (option_and_then (λ (r : FlowRow). Some (record { id = id; row = r })) o) fs)

led-found : (id other : Text) (o : Option FlowRow) (fs : List Flow) (t : Bool) → eq_by_cmp bytes_cmp id other ≡ t → below_all bytes_cmp other (rows_of fs) ≡ true
    → find bytes_cmp id (led other o fs) ≡ cond t o (find bytes_cmp id (rows_of fs))
led-found id other None fs true tie below =
    let same : id ≡ other = exact id other (tied (bytes_cmp id other) tie) in
    ap (λ (x : Text). find bytes_cmp x (rows_of fs)) same ∙ not_found other (rows_of fs) below
led-found id other None fs false tie below = refl
led-found id other (Some r) fs t tie below = ap (λ (b : Bool). cond b (Some r) (find bytes_cmp id (rows_of fs))) tie

find-row : (id : Text) (ps : Map) → is_sorted key_cmp ps ≡ true → find bytes_cmp id (rows_in ps) ≡ row_in (find key_cmp (keys.Flow id) ps)
find-row id [] sorted = refl
find-row id ((keys.User table key, w) ∷ ps) sorted = find-row id ps (parts (below_all key_cmp (keys.User table key) ps) (is_sorted key_cmp ps) sorted).1
find-row id ((keys.Step i n, w) ∷ ps) sorted = find-row id ps (parts (below_all key_cmp (keys.Step i n) ps) (is_sorted key_cmp ps) sorted).1
find-row id ((keys.Flow other, w) ∷ ps) sorted =
    let p = parts (below_all key_cmp (keys.Flow other) ps) (is_sorted key_cmp ps) sorted in
    led-found id other (row_in (Some w)) (filter_map flow_seen ps) (eq_by_cmp bytes_cmp id other) refl (below-flows other ps p.0)
    ∙ by_tie (eq_by_cmp bytes_cmp id other) (find-row id ps p.1)
    ∙ ap (λ (b : Bool). row_in (cond b (Some w) (find key_cmp (keys.Flow id) ps))) (sym (flow-eq id other)) where
      by_tie : (t : Bool) → find bytes_cmp id (rows_in ps) ≡ row_in (find key_cmp (keys.Flow id) ps)
          → cond t (row_in (Some w)) (find bytes_cmp id (rows_in ps)) ≡ row_in (cond t (Some w) (find key_cmp (keys.Flow id) ps))
      by_tie true later = refl
      by_tie false later = later

pub rows-tell : RowsTell
rows-tell h k id = find-row id (map_at h k) (map_at-sorted h k)

-- ---- one write

sorted-put : (q : Key) (w : Write) (m : Map) → is_sorted key_cmp m ≡ true → is_sorted key_cmp (put key_cmp q w m) ≡ true
sorted-put q w m sorted = true_from _ (is_sorted-put key_cmp key_cmp-total q w m (from_true _ sorted))

-- rows in order in which the same is found are the same
same-rows : (xs ys : Rows) → is_sorted bytes_cmp xs ≡ true → is_sorted bytes_cmp ys ≡ true → ((id : Text) → find bytes_cmp id xs ≡ find bytes_cmp id ys) → xs ≡ ys
same-rows xs ys one two same = same_entries bytes_cmp nat_list_cmp_total exact xs ys (from_true _ one) (from_true _ two) same

find-after : (id : Text) (q : Key) (w : Write) (m : Map) → is_sorted key_cmp m ≡ true
    → find bytes_cmp id (rows_in (put key_cmp q w m)) ≡ row_in (cond (eq_by_cmp key_cmp (keys.Flow id) q) (Some w) (find key_cmp (keys.Flow id) m))
find-after id q w m sorted = find-row id (put key_cmp q w m) (sorted-put q w m sorted) ∙ ap row_in (find-put key_cmp key_cmp-total (keys.Flow id) q w m)

-- a write of another key
put-other : (q : Key) (w : Write) (m : Map) → is_sorted key_cmp m ≡ true → ((id : Text) → eq_by_cmp key_cmp (keys.Flow id) q ≡ false) → rows_in (put key_cmp q w m) ≡ rows_in m
put-other q w m sorted other =
    same-rows (rows_in (put key_cmp q w m)) (rows_in m) (sorted-flows (put key_cmp q w m) (sorted-put q w m sorted)) (sorted-flows m sorted)
    (λ id. find-after id q w m sorted ∙ ap (λ (b : Bool). row_in (cond b (Some w) (find key_cmp (keys.Flow id) m))) (other id) ∙ sym (find-row id m sorted))

-- a write of a workflow's row
put-row : (id : Text) (j : ℕ) (row : FlowRow) (m : Map) → is_sorted key_cmp m ≡ true → rows_in (put key_cmp (keys.Flow id) (j, Some (cells.Flow row)) m) ≡ put bytes_cmp id row (rows_in m)
put-row id j row m sorted =
    let w : Write = (j, Some (cells.Flow row)) in
    same-rows (rows_in (put key_cmp (keys.Flow id) w m)) (put bytes_cmp id row (rows_in m)) (sorted-flows (put key_cmp (keys.Flow id) w m) (sorted-put (keys.Flow id) w m sorted))
    (true_from _ (is_sorted-put bytes_cmp nat_list_cmp_total id row (rows_in m) (from_true _ (sorted-flows m sorted))))
    (λ other. find-after other (keys.Flow id) w m sorted ∙ ap (λ (b : Bool). row_in (cond b (Some w) (find key_cmp (keys.Flow other) m))) (flow-eq other id)
    ∙ by_tie (eq_by_cmp bytes_cmp other id) (find key_cmp (keys.Flow other) m) (find bytes_cmp other (rows_in m)) (find-row other m sorted)
    ∙ sym (find-put bytes_cmp nat_list_cmp_total other id row (rows_in m))) where
      by_tie : (t : Bool) (o : Option Write) (r : Option FlowRow) → r ≡ row_in o → row_in (cond t (Some (j, Some (cells.Flow row))) o) ≡ cond t (Some row) r
      by_tie true o r is = refl
      by_tie false o r is = sym is

-- ---- an entry's writes

abbrev written : Map → ℕ → Writes → Map
written m j ws = fold (λ (m : Map) (w : Key × Option Cell). put key_cmp w.0 (j, w.1) m) m ws

rows-written : (ws : Writes) (m : Map) (j : ℕ) → is_sorted key_cmp m ≡ true → AllByRecursion IsOfKind ws → rows_in (written m j ws) ≡ put_all (filter_map flow_written ws) (rows_in m)
rows-written [] m j sorted kinds = refl
rows-written ((keys.User table key, c) ∷ ws) m j sorted kinds =
    rows-written ws (put key_cmp (keys.User table key) (j, c) m) j (sorted-put (keys.User table key) (j, c) m sorted) kinds.1
    ∙ ap (put_all (filter_map flow_written ws)) (put-other (keys.User table key) (j, c) m sorted (λ id. refl))
rows-written ((keys.Step id n, c) ∷ ws) m j sorted kinds =
    rows-written ws (put key_cmp (keys.Step id n) (j, c) m) j (sorted-put (keys.Step id n) (j, c) m sorted) kinds.1
    ∙ ap (put_all (filter_map flow_written ws)) (put-other (keys.Step id n) (j, c) m sorted (λ other. refl))
rows-written ((keys.Flow id, Some (cells.Flow row)) ∷ ws) m j sorted kinds =
    rows-written ws (put key_cmp (keys.Flow id) (j, Some (cells.Flow row)) m) j (sorted-put (keys.Flow id) (j, Some (cells.Flow row)) m sorted) kinds.1
    ∙ ap (put_all (filter_map flow_written ws)) (put-row id j row m sorted)
rows-written ((keys.Flow id, None) ∷ ws) m j sorted kinds = absurd kinds.0
rows-written ((keys.Flow id, Some (cells.Row v)) ∷ ws) m j sorted kinds = absurd kinds.0
rows-written ((keys.Flow id, Some (cells.Step r)) ∷ ws) m j sorted kinds = absurd kinds.0

pub rows-follow : RowsFollow
rows-follow h e follows =
    ap (λ (m : Map). rows_in m) (map_at-push h e) ∙ rows-written e.writes (map_at h (length h)) (1 + length h) (map_at-sorted h (length h)) follows.kinds

-- ---- which rows the acts write

none-of-rows : (table : Text) (rows : List (Text × Val)) → filter_map flow_written (map (row_write table) rows) ≡ []
none-of-rows table [] = refl
none-of-rows table (r ∷ rs) = none-of-rows table rs

none-of-load : (table : Text) (rows : List (Text × Val)) → filter_map flow_written (in_order (map (row_write table) rows)) ≡ []
none-of-load table [] = refl
none-of-load table (r ∷ rs) =
    let are : AreRows table (length (r ∷ rs)) (in_order (map (row_write table) (r ∷ rs))) = in_order-rows table (r ∷ rs) (omega arith) in
    ap (λ (ws : Writes). filter_map flow_written ws) are.are ∙ none-of-rows table are.rows

none-of-puts : (puts : List Put) (id : Text) (n : ℕ) (row : StepRow) → filter_map flow_written (map put_write puts ++ step_write id n row ∷ []) ≡ []
none-of-puts [] id n row = refl
none-of-puts (p ∷ ps) id n row = none-of-puts ps id n row

none-of-steps : (id : Text) (steps : List (ℕ × StepRow)) → filter_map flow_written (map (λ (s : ℕ × StepRow). step_write id s.0 s.1) steps) ≡ []
none-of-steps id [] = refl
none-of-steps id (s ∷ ss) = none-of-steps id ss

pub acts-write : (h : List Entry) → ActsWrite h
acts-write h = record {
  load = λ table rows. none-of-load table rows;
  txn = λ id q snap run. none-of-puts run.writes id q.n (step_row q.name asked.Txn run.outcome);
  fork = λ id source row below. ap (λ (fs : Rows). (id, started status.Pending row.function row.args None (length h + 1) None) ∷ fs) (none-of-steps id (enumerate_from 0 (take below (steps_at h (length h) source))));
}
