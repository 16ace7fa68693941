-- A formed history has few workflows: a record has a byte at least for each row that it writes.
use Rattle.std.proofs.Common.{◌≡◌, ℕ, ◌+◌, ◌<◌, ◌≤◌, ◌-◌, ◌^◌, Bool, true, false, cond, List, [], ◌∷◌, ◌++◌, length, fold, flat_map, filter_map, Option, Some, None, refl, sym, subst, arith}
use Rattle.std.specs.Prelude.{T}
use Rattle.std.specs.Option.{is_some}
use Rattle.std.specs.List.{enumerate_from}
use Rattle.std.specs.FinMap.Entries.{find, put, is_sorted, is_sorted-put, length-put}
use Rattle.std.proofs.lemmas.List.{length-append, length-map, take_all}
use Rattle.r3_rows.specs.declared.rows.Key.{Key}
use Rattle.r3_rows.specs.declared.rows.Key.TheVariants as keys
use Rattle.r3_rows.specs.declared.rows.Cell.{Cell}
use Rattle.r3_rows.specs.Keys.{key_cmp}
use Rattle.r3_entry.specs.declared.entry.Entry.{Entry}
use Rattle.r3_bytes.specs.Spelling.{number}
use Rattle.r3_entry.specs.Bytes.{act, cell, entry, key, list, option, read, record_sizes}
use Rattle.r3_entry.specs.Formed.{IsFormed}
use Rattle.r3_entry.specs.History.{Map, after_entry, map_at}
use Rattle.r3_model.specs.Rows.{Flow, flow_seen, flows_at}
use Rattle.r3_model.specs.Language.{Text}
use Rattle.r3_rows.specs.declared.rows.FlowRow.{FlowRow}
use Rattle.r3_exec.specs.Runs.{rows_now}
use Rattle.r3_rows.specs.KeyOrder.{key_cmp-total}

abbrev Writes : Type 0
Writes = List (Key × Option Cell)

abbrev spelled : Key × Option Cell → List ℕ
spelled w = key w.0 ++ option cell w.1

-- ---- a write has a byte

one_byte : (k : Key) (rest : List ℕ) → 1 ≤ length (key k ++ rest)
one_byte (keys.User table name) rest = omega arith
one_byte (keys.Flow id) rest = omega arith
one_byte (keys.Step id n) rest = omega arith

write_bytes : (ws : Writes) → length ws ≤ length (flat_map spelled ws)
write_bytes [] = omega arith
write_bytes (w ∷ ws) = omega (arith, length-append (spelled w) (flat_map spelled ws), one_byte w.0 (option cell w.1), write_bytes ws)

longer : (xs ys : List ℕ) → length ys ≤ length (xs ++ ys)
longer xs ys = omega (arith, length-append xs ys)

at_most : (a b c d : ℕ) → a ≤ b → b ≤ c → c ≤ d → a ≤ d
at_most a b c d p q r = omega (arith, p, q, r)

entry_bytes : (e : Entry) → length e.writes ≤ length (entry e)
entry_bytes e =
    let all : length (list spelled e.writes) ≤ length (entry e) = longer (act e.act ++ number e.snap ++ list read e.reads) (list spelled e.writes) in
    let some : length (flat_map spelled e.writes) ≤ length (list spelled e.writes) = longer (number (length e.writes)) (flat_map spelled e.writes) in
    at_most (length e.writes) _ _ _ (write_bytes e.writes) some all

-- ---- a map has a key at most for each write

one_more : (b : Bool) (n m : ℕ) → n ≡ cond b m (m + 1) → n ≤ m + 1
one_more true n m is = omega (arith, is)
one_more false n m is = omega (arith, is)

IsAtMost : Map → ℕ → Type 0
IsAtMost m n = (length m ≤ n) × T (is_sorted key_cmp m)

after_writes : (ws : Writes) (j n : ℕ) (m : Map) → IsAtMost m n → IsAtMost (fold (λ (m : Map) (w : Key × Option Cell). put key_cmp w.0 (j, w.1) m) m ws) (n + length ws)
unfolding IsAtMost
after_writes [] j n m most = (omega (arith, most.0), most.1)
after_writes (w ∷ ws) j n m most =
    let longer = length-put key_cmp key_cmp-total w.0 (j, w.1) m most.1 in
    let next : IsAtMost (put key_cmp w.0 (j, w.1) m) (n + 1) =
    (omega (arith, most.0, one_more (is_some (find key_cmp w.0 m)) (length (put key_cmp w.0 (j, w.1) m)) (length m) longer), is_sorted-put key_cmp key_cmp-total w.0 (j, w.1) m most.1) in
    let rest = after_writes ws j (n + 1) (put key_cmp w.0 (j, w.1) m) next in
    (omega (arith, rest.0), rest.1)

after_entries : (h : List Entry) (j n : ℕ) (m : Map) → IsAtMost m n → IsAtMost (fold after_entry m (enumerate_from j h)) (n + record_sizes h)
unfolding IsAtMost
after_entries [] j n m most = (omega (arith, most.0), most.1)
after_entries (e ∷ es) j n m most =
    let next = after_writes e.writes j n m most in
    let rest = after_entries es (j + 1) (n + length e.writes) (after_entry m (j, e)) next in
    (omega (arith, rest.0, entry_bytes e), rest.1)

-- ---- the workflows are among its keys

with_first : {X Y : Type 0} (f : X → Option Y) (x : X) (xs : List X) (o : Option Y) → f x ≡ o → length (filter_map f xs) ≤ length xs
    → length (filter_map f (x ∷ xs)) ≤ length (x ∷ xs)
with_first f x xs None is few = rw is (omega (arith, few))
with_first f x xs (Some y) is few = rw is (omega (arith, few))

fewer : {X Y : Type 0} (f : X → Option Y) (xs : List X) → length (filter_map f xs) ≤ length xs
fewer f [] = omega arith
fewer f (x ∷ xs) = with_first f x xs (f x) refl (fewer f xs)

shorter : (h : List Entry) (e : Entry) → record_sizes h ≤ record_sizes (h ++ e ∷ [])
shorter [] e = omega arith
shorter (x ∷ h) e = omega (arith, shorter h e)

few_by : (h : List Entry) → record_sizes h ≤ 2 ^ 30 → length (rows_now h) < 2 ^ 32 - 1
unfolding IsAtMost
few_by h small =
    let all = after_entries h 1 0 [] (omega arith, tt {0}) in
    let map_few : length (map_at h (length h)) ≤ record_sizes h =
    subst (λ (x : List Entry). length (fold after_entry [] (enumerate_from 1 x)) ≤ record_sizes h) (sym (take_all (length h) h (omega arith))) (omega (arith, all.0)) in
    let flows = fewer flow_seen (map_at h (length h)) in
    let mapped : length (rows_now h) ≡ length (flows_at h (length h)) = length-map {B = Text × FlowRow} (flows_at h (length h)) (λ (f : Flow). (f.id, f.row)) in
    omega (arith, map_few, flows, mapped, small)

pub few_alone : (h : List Entry) → IsFormed h → length (rows_now h) < 2 ^ 32 - 1
few_alone h formed = few_by h (omega (arith, formed.small))

pub few_now : (h : List Entry) (e : Entry) → IsFormed (h ++ e ∷ []) → length (rows_now h) < 2 ^ 32 - 1
few_now h e formed = few_by h (omega (arith, shorter h e, formed.small))
