-- Which transaction bodies a retroaction may copy from the stored history, and which copies are doubtful.
use Rattle.std.specs.Prelude.{◌≡◌, ℕ, ◌+◌, ◌&&◌, Bool, true, false, List, [], ◌∷◌, ◌++◌, length, map, filter_map, find, Option, Some, None, bytes_eq, nat_eq, nat_lt, sum_by}
use Rattle.std.specs.List.{list_all, list_any}
use Rattle.r3_value.specs.declared.value.Val.{Val}
use Rattle.r3_rows.specs.declared.rows.Key.{Key}
use Rattle.r3_rows.specs.declared.rows.Key.TheVariants as keys
use Rattle.r3_rows.specs.declared.rows.Read.{Read}
use Rattle.r3_rows.specs.declared.rows.Read.TheVariants.{At, Range}
use Rattle.r3_rows.specs.declared.rows.StepRow.{StepRow}
use Rattle.r3_entry.specs.declared.entry.Act.{Act}
use Rattle.r3_entry.specs.declared.entry.Act.TheVariants as acts
use Rattle.r3_entry.specs.declared.entry.Entry.{Entry}
use Rattle.r3_entry.specs.Bytes.{option, val}
use Rattle.r3_entry.specs.Formed.{read_count}
use Rattle.r3_entry.specs.History.{Write, map_at, range_at}
use Rattle.fn_tree.specs.declared.program.Item.{Item}
use Rattle.fn_tree.specs.declared.program.Item.TheVariants as items
use Rattle.fn_tree.specs.declared.stmt.Rhs.{Rhs}
use Rattle.fn_tree.specs.declared.stmt.Rhs.TheVariants as rhs
use Rattle.fn_tree.specs.declared.stmt.Stmt.TheOpen.{Stmt-F}
use Rattle.fn_tree.specs.declared.stmt.Stmt.TheFolds.{fold-Stmt}
use Rattle.r3_model.specs.Language.{Text}
use Rattle.r3_model.specs.Rows.{row_at}
use Rattle.r3_model.specs.Bodies.{Body}
use Rattle.r3_model.specs.Schedule.{step_written}
use Rattle.r3_model.specs.Verdict.{same_val}

-- ---- the functions

abbrev pub is_txn_of : Text → Item → Bool
is_txn_of name (items.Txn serial x params body) = bytes_eq x name
is_txn_of name i = false

abbrev pub is_helper : Item → Bool
is_helper (items.Helper name params body) = true
is_helper i = false

abbrev pub helpers_of : List Item → List Item
helpers_of is = filter_map (λ i. elim (is_helper i) [ true ↦ Some i | false ↦ None ]) is

-- the transaction is the same in both programs, and so are the helpers; there is no stored program where its text
-- isn't accepted
pub record IsUnchanged (stored : Option (List Item)) (changed : List Item) (name : Text) : Type 0 where
  pub items : List Item
  pub accepted : stored ≡ Some items
  pub txn : find (is_txn_of name) items ≡ find (is_txn_of name) changed
  pub helpers : helpers_of items ≡ helpers_of changed

-- ---- the rows that the stored entry looked at

-- the stored entry of the same step, with the same arguments and name
abbrev pub is_same_step : Body → Act → Bool
is_same_step b (acts.Txn id n args) = bytes_eq id b.id && nat_eq n b.request.n && same_val args b.request.args
is_same_step b act = false

abbrev pub has_name : Body → Option StepRow → Bool
has_name b None = false
has_name b (Some r) = bytes_eq r.name b.request.name

abbrev pub stored_step : List Entry → Body → Option Entry
stored_step h b = find (λ (e : Entry). is_same_step b e.act && has_name b (step_written e b.id b.request.n)) h

abbrev pub same_row : Option Val → Option Val → Bool
same_row a b = bytes_eq (option val a) (option val b)

module _ (h : List Entry) (s : ℕ) (g : List Entry) (t : ℕ) where
  -- the same keys with the same values in both snapshots
  abbrev pub same_range : Text → List Text → List Text → Bool
  same_range table [] [] = true
  same_range table (k ∷ ks) (l ∷ ls) =
      bytes_eq k l && same_row (row_at h s table k) (row_at g t table l) && same_range table ks ls
  same_range table _ _ = false

  abbrev pub keys_found : List Entry → ℕ → Text → Text → Text → List Text
  keys_found h s table lo hi = map (λ k. k.0) (range_at h s table lo hi)

  abbrev pub same_look : Read → Bool
  same_look (At table key version) = same_row (row_at h s table key) (row_at g t table key)
  same_look (Range table lo hi found) = same_range table (keys_found h s table lo hi) (keys_found g t table lo hi)

abbrev pub looks_same : List Entry → Body → Option Entry → Bool
looks_same h b None = false
looks_same h b (Some e) = list_all (same_look h e.snap b.history b.snap) e.reads

-- the body's run is that of the stored entry, where the transaction is unchanged
abbrev pub is_copied : (Text → Bool) → List Entry → Body → Bool
is_copied is_unchanged h b = is_unchanged b.request.name && looks_same h b (stored_step h b)

-- ---- doubtful copies: a scan may have been refused for the number of read items, and such a look isn't kept

abbrev pub joined : List (List Text) → List Text
joined [] = []
joined (t ∷ ts) = t ++ joined ts

abbrev pub scanned_by : Rhs → List Text
scanned_by (rhs.Plain e) = []
scanned_by (rhs.Ask a) = []
scanned_by (rhs.Get table key) = []
scanned_by (rhs.Scan table lo hi) = table ∷ []

abbrev pub or_empty : Option (List (List Text)) → List Text
or_empty None = []
or_empty (Some ts) = joined ts

-- the tables that a statement scans, with those of each inner statement in its place
abbrev pub scanned_among : Stmt-F (List Text) → List Text
scanned_among (Stmt-F.Let name r) = scanned_by r
scanned_among (Stmt-F.Set name r) = scanned_by r
scanned_among (Stmt-F.Do a) = []
scanned_among (Stmt-F.Put table key e) = []
scanned_among (Stmt-F.Delete table key) = []
scanned_among (Stmt-F.If cond one other) = joined one ++ or_empty other
scanned_among (Stmt-F.While cond b) = joined b
scanned_among (Stmt-F.Each name list b) = joined b
scanned_among (Stmt-F.Try b name handler) = joined b ++ joined handler
scanned_among (Stmt-F.Return e) = []
scanned_among (Stmt-F.Fail e) = []

abbrev pub tables_of : Option Item → List Text
tables_of (Some (items.Txn serial name params body)) = joined (map (fold-Stmt (List Text) scanned_among) body)
tables_of i = []

abbrev pub is_present_in : Text → Key × Write → Bool
is_present_in table (keys.User t key, (j, Some c)) = bytes_eq t table
is_present_in table w = false

-- the number of keys present in the table
abbrev pub present_in : List Entry → ℕ → Text → ℕ
present_in h s table = length (filter_map (λ w. elim (is_present_in table w) [ true ↦ Some w | false ↦ None ]) (map_at h s))

-- with a scan of the whole table the entry would have more than 4,096 read items
abbrev pub passes_limit : List Entry → Entry → Text → Bool
passes_limit h e table = nat_lt 4096 (sum_by read_count e.reads + 1 + present_in h e.snap table)

abbrev pub is_doubtful_at : List Item → List Entry → Body → Option Entry → Bool
is_doubtful_at changed h b None = false
is_doubtful_at changed h b (Some e) = list_any (passes_limit h e) (tables_of (find (is_txn_of b.request.name) changed))

-- of a copied body
abbrev pub is_doubtful : List Item → List Entry → Body → Bool
is_doubtful changed h b = is_doubtful_at changed h b (stored_step h b)
