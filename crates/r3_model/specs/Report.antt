-- The report of a retroaction: what differs from the stored history, and how much was run.
use Rattle.std.specs.Prelude.{◌≡◌, ◌≢◌, ◌↔◌, ℕ, not, Bool, IsTrue, List, length, map, count_by, Option, Some, None, Contains}
use Rattle.std.specs.List.{AllByRecursion}
use Rattle.std.specs.FinMap.Entries.{is_sorted}
use Rattle.r3_value.specs.declared.value.Val.{Val}
use Rattle.r3_value.specs.declared.value.Outcome.{Outcome}
use Rattle.r3_rows.specs.declared.rows.Key.TheVariants as keys
use Rattle.r3_rows.specs.declared.rows.Status.{Status}
use Rattle.r3_rows.specs.declared.rows.Status.TheVariants as status
use Rattle.r3_rows.specs.declared.rows.FlowRow.{FlowRow}
use Rattle.r3_entry.specs.declared.entry.Entry.{Entry}
use Rattle.r3_rows.specs.Keys.{key_cmp}
use Rattle.r3_model.specs.Language.{Text}
use Rattle.r3_model.specs.Rows.{flow_at, row_at}
use Rattle.fn_tree.specs.declared.program.Item.{Item}
use Rattle.r3_model.specs.Run.{Trail}
use Rattle.r3_model.specs.Copied.{IsUnchanged, is_copied}

pub data Standing : Type 0 where
  Absent : Standing
  Ended : Outcome → Standing
  Other : Status → Standing

abbrev pub ended_or : Status → Option Outcome → Standing
ended_or s None = Other s
ended_or s (Some o) = Ended o

abbrev pub standing_by : Status → FlowRow → Standing
standing_by status.Success row = ended_or status.Success row.outcome
standing_by status.Error row = ended_or status.Error row.outcome
standing_by s row = Other s

abbrev pub standing_of : Option FlowRow → Standing
standing_of None = Absent
standing_of (Some row) = standing_by row.status row

-- how a workflow stands at a history's end
abbrev pub standing_in : List Entry → Text → Standing
standing_in h id = standing_of (flow_at h (length h) id)

abbrev pub row_in : List Entry → Text → Text → Option Val
row_in h table key = row_at h (length h) table key

pub record FlowLine : Type 0 where
  pub id : Text
  pub old : Standing
  pub new : Standing

pub record RowLine : Type 0 where
  pub table : Text
  pub key : Text
  pub old : Option Val
  pub new : Option Val

pub record Report : Type 0 where
  pub flows : List FlowLine
  pub rows : List RowLine
  pub entries : ℕ
  pub runs : ℕ
  pub reran : ℕ

pub record IsFlowLine (h g : List Entry) (l : FlowLine) : Type 0 where
  pub old : l.old ≡ standing_in h l.id
  pub new : l.new ≡ standing_in g l.id
  pub differs : l.old ≢ l.new

-- one line for each workflow that stands otherwise, in the order of the IDs
pub record AreFlowLines (h g : List Entry) (ls : List FlowLine) : Type 0 where
  pub lines : AllByRecursion (IsFlowLine h g) ls
  pub each : (id : Text) → standing_in h id ≢ standing_in g id → Contains (map (λ (l : FlowLine). l.id) ls) id
  pub rising : IsTrue (is_sorted key_cmp (map (λ (l : FlowLine). (keys.Flow l.id, tt {0})) ls))

pub record IsRowLine (h g : List Entry) (l : RowLine) : Type 0 where
  pub old : l.old ≡ row_in h l.table l.key
  pub new : l.new ≡ row_in g l.table l.key
  pub differs : l.old ≢ l.new

-- one line for each user row that differs, by table and key
pub record AreRowLines (h g : List Entry) (ls : List RowLine) : Type 0 where
  pub lines : AllByRecursion (IsRowLine h g) ls
  pub each : (table key : Text) → row_in h table key ≢ row_in g table key
      → Contains (map (λ (l : RowLine). keys.User l.table l.key) ls) (keys.User table key)
  pub rising : IsTrue (is_sorted key_cmp (map (λ (l : RowLine). (keys.User l.table l.key, tt {0})) ls))

-- The report of a stored history and of the trail that retroaction left, from the stored functions, where they are
-- accepted, and the changed ones.
pub record IsReport (stored : Option (List Item)) (changed : List Item) (h : List Entry) (t : Trail) (r : Report) : Type 0 where
  pub flows : AreFlowLines h t.state.history r.flows
  pub rows : AreRowLines h t.state.history r.rows
  pub entries : r.entries ≡ length t.state.history
  pub runs : r.runs ≡ length t.bodies
  pub is_unchanged : Text → Bool
  pub unchanged : (name : Text) → IsTrue (is_unchanged name) ↔ IsUnchanged stored changed name
  pub reran : r.reran ≡ count_by (λ b. not (is_copied is_unchanged h b)) t.bodies
