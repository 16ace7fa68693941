-- The cap is never met: each write takes at least six bytes of a log, and each version was written.
use Rattle.std.proofs.Common.{◌≡◌, ℕ, ◌+◌, ◌*◌, ◌≤◌, ◌^◌, List, [], ◌∷◌, ◌++◌, length, fold, cond, true, false, Option, Some, None, ap, arith, length-append}
use Rattle.std.specs.Prelude.{T, nat_le}
use Rattle.std.specs.List.{flat_map}
use Rattle.std.specs.Int.{w32, to_be_bytes}
use Rattle.std.specs.Ordering.{match_ordering}
use Rattle.std.specs.BTreeSet.{insert_key}
use Rattle.std.specs.declared.cmp.Ordering.{Ordering}
use Rattle.std.specs.declared.cmp.Ordering.TheVariants.{Less, Equal, Greater}
use Rattle.std.specs.FinMap.Entries.{is_sorted}
use Rattle.r3_rows.specs.declared.rows.Key.{Key}
use Rattle.r3_rows.specs.declared.rows.Key.TheVariants.{User, Flow, Step}
use Rattle.r3_rows.specs.declared.rows.Cell.{Cell}
use Rattle.r3_rows.specs.Keys.{key_cmp}
use Rattle.r3_rows.specs.KeyOrder.{key_cmp-total}
use Rattle.r3_entry.specs.declared.entry.Entry.{Entry}
use Rattle.r3_entry.specs.Bytes.{act, read, list, key, option, cell, entry, record_sizes, size}
use Rattle.r3_chain.specs.Versions.{Chains, Version, Versions, installed, kept_count, key_set, trimmed, trimmed_all}
use Rattle.r3_chain.specs.VersionLaws.{kept_count-installed, sorted_installed}
use Rattle.r3_formed.specs.Past.{HasRoom, StandFor, all_installed, write_count}

abbrev Write : Type 0
Write = Key × Option Cell

-- ---- how many versions are kept

pub kept_all : (j : ℕ) (ws : List Write) (es : Versions Key Cell) → T (is_sorted key_cmp es) → kept_count (all_installed j ws es) ≡ kept_count es + length ws
kept_all j [] es h = omega arith
kept_all j (w ∷ ws) es h =
    omega (arith, kept_all j ws (installed key_cmp j w.0 w.1 es) (sorted_installed key_cmp key_cmp-total j w.0 w.1 es h), kept_count-installed key_cmp key_cmp-total j w.0 w.1 es h)

trimmed_short : (oldest : ℕ) (vs : List (Version Cell)) → length (trimmed oldest vs) ≤ length vs
trimmed_short oldest [] = omega arith
trimmed_short oldest (v ∷ vs) =
    elim (nat_le v.0 oldest) as (λ b. length (cond b (v ∷ []) (v ∷ trimmed oldest vs)) ≤ length (v ∷ vs)) [ true ↦ omega arith | false ↦ omega (arith, trimmed_short oldest vs) ]

pub kept_trimmed : (oldest : ℕ) (es : Versions Key Cell) → kept_count (trimmed_all oldest es) ≤ kept_count es
kept_trimmed oldest [] = omega arith
kept_trimmed oldest (e ∷ es) = omega (arith, trimmed_short oldest e.1, kept_trimmed oldest es)

pub writes_push : (h : List Entry) (e : Entry) → write_count (h ++ e ∷ []) ≡ write_count h + length e.writes
writes_push [] e = omega arith
writes_push (x ∷ xs) e = omega (arith, writes_push xs e)

-- ---- how many keys are different

module _ {K : Type 0} (cmp : K → K → Ordering) where
  insert_short : (k : K) (ks : List K) → length (insert_key cmp ks k) ≤ length ks + 1
  insert_short k [] = omega arith
  insert_short k (x ∷ xs) =
      elim (cmp k x) as (λ r. length (match_ordering r (k ∷ x ∷ xs) (x ∷ xs) (x ∷ insert_key cmp xs k)) ≤ length (x ∷ xs) + 1) [
        | Less ↦ omega arith
        | Equal ↦ omega arith
        | Greater ↦ omega (arith, insert_short k xs)
      ]

  all_short : (acc ks : List K) → length (fold (insert_key cmp) acc ks) ≤ length acc + length ks
  all_short acc [] = omega arith
  all_short acc (k ∷ ks) = omega (arith, all_short (insert_key cmp acc k) ks, insert_short k acc)

  pub set_short : (ks : List K) → length (key_set cmp ks) ≤ length ks
  set_short ks = omega (arith, all_short [] ks)

-- ---- how many bytes a write takes

abbrev spell : Write → List ℕ
spell w = key w.0 ++ option cell w.1

key_long : (k : Key) → 5 ≤ length (key k)
key_long (User table k) = omega arith
key_long (Flow id) = omega arith
key_long (Step id n) = omega arith

option_long : (c : Option Cell) → 1 ≤ length (option cell c)
option_long None = omega arith
option_long (Some c) = omega arith

writes_long : (ws : List Write) → 6 * length ws ≤ length (flat_map spell ws)
writes_long [] = omega arith
writes_long (w ∷ ws) =
    omega (arith, length-append (spell w) (flat_map spell ws), length-append (key w.0) (option cell w.1), key_long w.0, option_long w.1, writes_long ws)

pub entry_long : (e : Entry) → 6 * length e.writes ≤ length (entry e)
entry_long e =
    let front : List ℕ = act e.act ++ to_be_bytes w32 e.snap ++ list read e.reads in
    let whole : length (entry e) ≡ length front + length (list spell e.writes) = length-append front (list spell e.writes) in
    omega (arith, whole, writes_long e.writes)

history_long : (h : List Entry) → 6 * write_count h ≤ record_sizes h
history_long [] = omega arith
history_long (e ∷ es) = omega (arith, entry_long e, history_long es)

-- ---- the cap

pub few : (es : Versions Key Cell) (h : List Entry) (oldest : ℕ) (e : Entry) → StandFor es h oldest → size h ≤ 2 ^ 30 → length (entry e) ≤ 2 ^ 23 → kept_count es + length e.writes ≤ 2 ^ 28
few es h oldest e stand small short = omega (arith, stand.kept, history_long h, entry_long e)

-- the writes of a payload have room behind a log
pub room_behind : (chains : Chains Key Cell) (h : List Entry) (oldest : ℕ) → StandFor chains.versions h oldest → size h ≤ 2 ^ 30 → chains.cap ≡ 2 ^ 28 → HasRoom chains (2 ^ 21)
room_behind chains h oldest stand small cap = omega (arith, stand.kept, history_long h, cap)

pub room_of : (chains : Chains Key Cell) (e : Entry) (payload : List ℕ) → HasRoom chains (2 ^ 21) → payload ≡ entry e → length payload ≤ 2 ^ 23 → HasRoom chains (length e.writes)
room_of chains e payload room is short = omega (arith, room, ap length is, entry_long e)

-- one version more leaves room for one write less
pub room_left : (old new : Chains Key Cell) (j : ℕ) (w : Write) (n : ℕ) → T (is_sorted key_cmp old.versions) → new.versions ≡ installed key_cmp j w.0 w.1 old.versions → new.cap ≡ old.cap
    → HasRoom old (n + 1) → HasRoom new n
room_left old new j w n sorted made cap room =
    omega (arith, room, cap, ap kept_count made, kept_count-installed key_cmp key_cmp-total j w.0 w.1 old.versions sorted)

pub taken_long : (all rest : List Write) (w : Write) → all ≡ rest ++ w ∷ [] → length all ≡ length rest + 1
taken_long all rest w is = omega (arith, ap length is, length-append rest (w ∷ []))
