-- What an install needs of its writes.
use Rattle.std.proofs.Common.{◌≡◌, ℕ, ◌+◌, ◌<◌, ◌≤◌, List, [], ◌∷◌, length, fold, Option, refl, ap, arith, true, false, Bool}
use Rattle.std.specs.Prelude.{◌||◌, IsTrue}
use Rattle.std.specs.List.{AllByRecursion}
use Rattle.std.specs.Ordering.{is_eq, eq_by_cmp, match_ordering}
use Rattle.std.specs.Cmp.{tied_itself}
use Rattle.std.specs.declared.cmp.Ordering.TheVariants.{Less, Equal, Greater}
use Rattle.std.specs.FinMap.Entries.{is_sorted}
use Rattle.std.specs.BTreeSet.{insert_key}
use Rattle.r3_rows.specs.declared.rows.Key.{Key}
use Rattle.r3_rows.specs.declared.rows.Cell.{Cell}
use Rattle.r3_entry.specs.declared.entry.Entry.{Entry}
use Rattle.r3_rows.specs.Keys.{key_cmp}
use Rattle.r3_chain.specs.Versions.{Versions, versions_of, has_room, key_set, IsNext}
use Rattle.r3_snap.specs.Conflicts.{keys_of}
use Rattle.r3_rows.specs.KeyOrder.{key_cmp-total}
use Rattle.r3_formed.specs.Past.{StandFor, AreReady}

kept : (c d e : Bool) → (d ≡ true → e ≡ true) → (c || d) ≡ true → (c || e) ≡ true
kept true d e f h = refl
kept false d e f h = f h

either : (a b : Bool) → b ≡ true → (a || b) ≡ true
either true b h = refl
either false b h = h

-- a set keeps its keys, and has the one that is added
keeps_key : (q k : Key) (ks : List Key) → has_room key_cmp q ks ≡ true → has_room key_cmp q (insert_key key_cmp ks k) ≡ true
keeps_key q k [] h = absurd cc
keeps_key q k (x ∷ xs) h =
    elim (key_cmp k x) as (λ r. has_room key_cmp q (match_ordering r (k ∷ x ∷ xs) (x ∷ xs) (x ∷ insert_key key_cmp xs k)) ≡ true) [
      | Less ↦ either (eq_by_cmp key_cmp q k) _ h
      | Equal ↦ h
      | Greater ↦ kept (eq_by_cmp key_cmp q x) _ _ (keeps_key q k xs) h
    ]

has_key : (k : Key) (ks : List Key) → has_room key_cmp k (insert_key key_cmp ks k) ≡ true
has_key k [] = ap (λ r. is_eq r || false) (tied_itself key_cmp-total k)
has_key k (x ∷ xs) =
    elim (key_cmp k x) as (λ r. key_cmp k x ≡ r → has_room key_cmp k (match_ordering r (k ∷ x ∷ xs) (x ∷ xs) (x ∷ insert_key key_cmp xs k)) ≡ true) [
      | Less ↦ λ p. ap (λ r. is_eq r || has_room key_cmp k (x ∷ xs)) (tied_itself key_cmp-total k)
      | Equal ↦ λ p. ap (λ r. is_eq r || has_room key_cmp k xs) p
      | Greater ↦ λ p. either (eq_by_cmp key_cmp k x) _ (has_key k xs)
    ] refl

stays_in : (q : Key) (acc ks : List Key) → has_room key_cmp q acc ≡ true → has_room key_cmp q (fold (insert_key key_cmp) acc ks) ≡ true
stays_in q acc [] h = h
stays_in q acc (k ∷ ks) h = stays_in q (insert_key key_cmp acc k) ks (keeps_key q k acc h)

all_in : (acc : List Key) (ws : List (Key × Option Cell)) → AllByRecursion (λ w. has_room key_cmp w.0 (fold (insert_key key_cmp) acc (keys_of ws)) ≡ true) ws
all_in acc [] = tt
all_in acc (w ∷ ws) = (stays_in w.0 (insert_key key_cmp acc w.0) (keys_of ws) (has_key w.0 acc), all_in (insert_key key_cmp acc w.0) ws)

pub all_next : (n : ℕ) (es : Versions Key Cell) → ((key : Key) → AllByRecursion (λ v. v.0 ≤ n) (versions_of key_cmp key es)) → (ws : List (Key × Option Cell)) → AllByRecursion (λ w. IsNext key_cmp (n + 1) w.0 es) ws
all_next n es h [] = tt
all_next n es h (w ∷ ws) = (below (versions_of key_cmp w.0 es) (h w.0), all_next n es h ws)
  where
    below : (vs : List (ℕ × Option Cell)) → AllByRecursion (λ v. v.0 ≤ n) vs → AllByRecursion (λ v. v.0 < n + 1) vs
    below [] a = tt
    below (v ∷ vs) a = (let first : v.0 ≤ n = a.0 in omega arith, below vs a.1)

pub ready : (es : Versions Key Cell) (h : List Entry) (oldest j : ℕ) (room : List Key) (ws : List (Key × Option Cell)) → StandFor es h oldest → j ≡ length h + 1
    → room ≡ key_set key_cmp (keys_of ws) → IsTrue (is_sorted key_cmp ws) → AreReady j ws room es
ready es h oldest j room ws stand e same sorted = record {
  sorted = rw sorted tt;
  room = rw same (all_in [] ws);
  next = rw e (all_next (length h) es stand.numbers ws);
}
