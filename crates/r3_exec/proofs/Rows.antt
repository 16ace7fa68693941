-- How the rows of all workflows change by one more entry.
use Rattle.std.proofs.Common.{◌≡◌, ℕ, ◌≤◌, Bool, true, cond, List, [], ◌∷◌, ◌++◌, length, filter_map, Option, Some, None, refl, sym, ap, ◌∙◌, subst, arith}
use Rattle.std.proofs.lemmas.List.{append-nil, append_assoc, length-append}
use Rattle.std.specs.List.{AllByRecursion}
use Rattle.std.specs.Ordering.{eq_by_cmp, is_eq, ordering_reverse}
use Rattle.std.specs.declared.cmp.Ordering.{Ordering}
use Rattle.std.specs.declared.cmp.Ordering.TheVariants.{Less, Equal, Greater}
use Rattle.std.specs.FinMap.Entries.{find, put, find-put}
use Rattle.std.proofs.lemmas.Cmp.{nat_list_cmp_total}
use Rattle.r3_rows.specs.declared.rows.Key.{Key}
use Rattle.r3_rows.specs.declared.rows.Key.TheVariants as keys
use Rattle.r3_rows.specs.declared.rows.Cell.{Cell}
use Rattle.r3_rows.specs.declared.rows.Cell.TheVariants as cells
use Rattle.r3_rows.specs.declared.rows.FlowRow.{FlowRow}
use Rattle.r3_entry.specs.declared.entry.Entry.{Entry}
use Rattle.r3_entry.specs.Formed.{IsFormed, FollowEachOther, Follows, IsOfKind}
use Rattle.r3_entry.specs.Limits.{IsEntry, IsWrite, IsId}
use Rattle.sys_queue.specs.Lines.{bytes_cmp}
use Rattle.sys_queue.specs.Rows.{Rows}
use Rattle.r3_model.specs.Language.{Text}
use Rattle.r3_model.specs.Rows.{flow_at, flows_at}
use Rattle.r3_laws.specs.OfStates.{flows_in}
use Rattle.r3_laws.specs.OfQueues.{rows_of}
use Rattle.r3_laws.specs.OfPending.{RowsFollow, RowsTell, flow_written, flows_written, put_all}
use Rattle.r3_exec.specs.Placed.{changed}
use Rattle.r3_exec.specs.Runs.{rows_now}

abbrev Writes : Type 0
Writes = List (Key × Option Cell)

-- the last entry of a formed history may follow those before it
last : (first h : List Entry) (e : Entry) → FollowEachOther first (h ++ e ∷ []) → Follows (first ++ h) e
last first [] e f = subst (λ (x : List Entry). Follows x e) (sym (append-nil first)) f.0
last first (x ∷ h) e f = subst (λ (y : List Entry). Follows y e) (append_assoc first (x ∷ []) h) (last (first ++ x ∷ []) h e f.1)

pub follows_last : (h : List Entry) (e : Entry) → IsFormed (h ++ e ∷ []) → Follows h e
follows_last h e formed = last [] h e formed.entries

-- ---- the row that is written

none_written : (ws : Writes) → AllByRecursion IsOfKind ws → flows_in ws ≤ 0 → filter_map flow_written ws ≡ []
none_written [] kinds few = refl
none_written ((keys.User table key, None) ∷ ws) kinds few = none_written ws kinds.1 few
none_written ((keys.User table key, Some (cells.Row v)) ∷ ws) kinds few = none_written ws kinds.1 few
none_written ((keys.User table key, Some (cells.Flow r)) ∷ ws) kinds few = absurd kinds.0
none_written ((keys.User table key, Some (cells.Step r)) ∷ ws) kinds few = absurd kinds.0
none_written ((keys.Flow id, None) ∷ ws) kinds few = absurd kinds.0
none_written ((keys.Flow id, Some (cells.Row v)) ∷ ws) kinds few = absurd kinds.0
none_written ((keys.Flow id, Some (cells.Flow r)) ∷ ws) kinds few = absurd (omega (arith, few))
none_written ((keys.Flow id, Some (cells.Step r)) ∷ ws) kinds few = absurd kinds.0
none_written ((keys.Step id n, None) ∷ ws) kinds few = absurd kinds.0
none_written ((keys.Step id n, Some (cells.Row v)) ∷ ws) kinds few = absurd kinds.0
none_written ((keys.Step id n, Some (cells.Flow r)) ∷ ws) kinds few = absurd kinds.0
none_written ((keys.Step id n, Some (cells.Step r)) ∷ ws) kinds few = none_written ws kinds.1 few

abbrev IsOne : Writes → Text → Type 0
IsOne ws id = (row : FlowRow) × (filter_map flow_written ws ≡ (id, row) ∷ [])

one_written : (ws : Writes) (id : Text) → AllByRecursion IsOfKind ws → flows_in ws ≤ 1 → changed ws ≡ Some id → IsOne ws id
one_written [] id kinds few is = absurd cc
one_written ((keys.User table key, None) ∷ ws) id kinds few is = one_written ws id kinds.1 few is
one_written ((keys.User table key, Some (cells.Row v)) ∷ ws) id kinds few is = one_written ws id kinds.1 few is
one_written ((keys.User table key, Some (cells.Flow r)) ∷ ws) id kinds few is = absurd kinds.0
one_written ((keys.User table key, Some (cells.Step r)) ∷ ws) id kinds few is = absurd kinds.0
one_written ((keys.Flow i, None) ∷ ws) id kinds few is = absurd kinds.0
one_written ((keys.Flow i, Some (cells.Row v)) ∷ ws) id kinds few is = absurd kinds.0
one_written ((keys.Flow i, Some (cells.Flow r)) ∷ ws) id kinds few is =
    let same : i ≡ id = cc in
    let rest : filter_map flow_written ws ≡ [] = none_written ws kinds.1 (omega (arith, few)) in
    (r, ap (λ (fs : Rows). (i, r) ∷ fs) rest ∙ ap (λ (x : Text). (x, r) ∷ []) same)
one_written ((keys.Flow i, Some (cells.Step r)) ∷ ws) id kinds few is = absurd kinds.0
one_written ((keys.Step i n, None) ∷ ws) id kinds few is = absurd kinds.0
one_written ((keys.Step i n, Some (cells.Row v)) ∷ ws) id kinds few is = absurd kinds.0
one_written ((keys.Step i n, Some (cells.Flow r)) ∷ ws) id kinds few is = absurd kinds.0
one_written ((keys.Step i n, Some (cells.Step r)) ∷ ws) id kinds few is = one_written ws id kinds.1 few is

unchanged : (ws : Writes) → changed ws ≡ None → filter_map flow_written ws ≡ []
unchanged [] is = refl
unchanged ((keys.User table key, w) ∷ ws) is = unchanged ws is
unchanged ((keys.Flow id, w) ∷ ws) is = absurd cc
unchanged ((keys.Step id n, w) ∷ ws) is = unchanged ws is

short : (ws : Writes) (id : Text) → AllByRecursion IsWrite ws → changed ws ≡ Some id → IsId id
short [] id are is = absurd cc
short ((keys.User table key, w) ∷ ws) id are is = short ws id are.1 is
short ((keys.Flow i, w) ∷ ws) id are is = let same : i ≡ id = cc in subst IsId same are.0.0
short ((keys.Step i n, w) ∷ ws) id are is = short ws id are.1 is

own : (o : Ordering) → o ≡ ordering_reverse o → is_eq o ≡ true
own Less e = absurd cc
own Equal e = refl
own Greater e = absurd cc

tie_self : (id : Text) → eq_by_cmp bytes_cmp id id ≡ true
tie_self id = own (bytes_cmp id id) (nat_list_cmp_total.antisymm id id)

-- ---- the rows of all workflows

module _ (tell : RowsTell) (follow : RowsFollow) where
  -- the row of a workflow is among them
  pub find_now : (h : List Entry) (id : Text) → find bytes_cmp id (rows_now h) ≡ flow_at h (length h) id
  find_now h id = tell h (length h) id

  rows_more : (h : List Entry) (e : Entry) → Follows h e → rows_now (h ++ e ∷ []) ≡ put_all (flows_written e) (rows_now h)
  rows_more h e may = ap (λ (k : ℕ). rows_of (flows_at (h ++ e ∷ []) k)) (length-append h (e ∷ [])) ∙ follow h e may

  -- it writes none
  pub same_now : (h : List Entry) (e : Entry) → Follows h e → changed e.writes ≡ None → rows_now (h ++ e ∷ []) ≡ rows_now h
  same_now h e may is = rows_more h e may ∙ ap (λ (fs : Rows). put_all fs (rows_now h)) (unchanged e.writes is)

  -- it writes the row of a workflow, and no other
  pub changed_now : (h : List Entry) (e : Entry) (id : Text) → Follows h e → flows_in e.writes ≤ 1 → changed e.writes ≡ Some id
      → (row : FlowRow) × (rows_now (h ++ e ∷ []) ≡ put bytes_cmp id row (rows_now h)) × (flow_at (h ++ e ∷ []) (length (h ++ e ∷ [])) id ≡ Some row)
  changed_now h e id may few is =
      let one = one_written e.writes id may.kinds few is in
      let rows = rows_more h e may ∙ ap (λ (fs : Rows). put_all fs (rows_now h)) one.1 in (
        one.0,
        rows,
        sym (find_now (h ++ e ∷ []) id) ∙ ap (λ (rs : Rows). find bytes_cmp id rs) rows ∙ find-put bytes_cmp nat_list_cmp_total id id one.0 (rows_now h)
            ∙ ap (λ (b : Bool). cond b (Some one.0) (find bytes_cmp id (rows_now h))) (tie_self id),
      )

  -- the ID of a workflow whose row is written is short
  pub id_short : (h : List Entry) (e : Entry) (id : Text) → IsEntry e → changed e.writes ≡ Some id → length id ≤ 200
  id_short h e id entry is = (short e.writes id entry.writes is).short
