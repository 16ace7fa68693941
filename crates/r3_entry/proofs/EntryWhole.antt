-- An entry is missing where its parts are, and its writes where their keys don't rise.
use Rattle.std.proofs.Common.{◌≡◌, ℕ, ◌+◌, ◌-◌, ◌<◌, ◌≤◌, List, [], ◌∷◌, ◌++◌, length, length-drop, take, drop, slice_index_or, Option, Result, Ok, Err, Bool, true, false, ◌&&◌, sym, subst, ◌∙◌, append_assoc, arith, refl}
use Rattle.std.specs.Prelude.{IsTrue, T}
use Rattle.std.specs.Ordering.{is_lt}
use Rattle.std.specs.FinMap.Entries.{put, is_sorted, below_all, is_sorted-put}
use Rattle.std.specs.declared.cmp.Ordering.{Ordering}
use Rattle.std.specs.declared.cmp.Ordering.TheVariants.{Less, Equal, Greater}
use Rattle.r3_bytes.specs.Field.{BeginsNone}
use Rattle.r3_rows.specs.Keys.{key_cmp}
use Rattle.r3_rows.specs.KeyOrder.{key_cmp-total}
use Rattle.r3_rows.specs.declared.rows.Key.{Key}
use Rattle.r3_rows.specs.declared.rows.Cell.{Cell}
use Rattle.r3_entry.specs.declared.entry.Entry.{Entry}
use Rattle.r3_entry.specs.declared.fields.Miss.{Miss}
use Rattle.r3_entry.specs.declared.fields.Miss.TheVariants as miss
use Rattle.r3_entry.specs.Bytes as spell
use Rattle.r3_entry.specs.Limits.{IsEntry, IsWrite, AreSome}
use Rattle.r3_entry.specs.Parse.{Misses, Parses, IsNoEntry}
use Rattle.r3_entry.proofs.EntryUnique.{entry_unique}
use Rattle.std.proofs.lemmas.List.{append-nil, drop_more, take_all, take-append-drop}
use Rattle.r3_entry.specs.Parts as part
use Rattle.r3_entry.proofs.Parts.{misses, second_none}
use Rattle.r3_entry.proofs.PartsUnique.{looks_unique, pairs_unique}

abbrev pub Pairs : Type 0
Pairs = List (Key × Option Cell)

-- ---- writes whose keys rise

pub ordered_parses : (pairs : Pairs) (bytes after : List ℕ) (result : Result Pairs Miss) → AreSome IsWrite pairs → bytes ≡ spell.list part.write pairs ++ after → part.Ordered pairs result → Parses (spell.list part.write) part.AreWrites bytes after result
ordered_parses pairs bytes after (Ok ws) are b h = rw h.0 ((are, h.1), b)
ordered_parses pairs bytes after (Err miss.Absent) are b bad = λ ys tail is e.
    let one = pairs_unique.one pairs ys after tail are is.0 (sym b ∙ e) in
    bad (rw one.0 is.1)
ordered_parses pairs bytes after (Err miss.Memory) are b h = tt

and_second : (a b : Bool) → IsTrue (a && b) → IsTrue b
and_second true b h = h
and_second false b h = absurd cc

and_first : (a b : Bool) → IsTrue (a && b) → IsTrue a
and_first true b h = refl
and_first false b h = absurd cc

is_less : (o : Ordering) → IsTrue (is_lt o) → o ≡ Less
is_less Less h = refl
is_less Equal h = absurd cc
is_less Greater h = absurd cc

sorted_back : (front ws : Pairs) → IsTrue (is_sorted key_cmp (front ++ ws)) → IsTrue (is_sorted key_cmp ws)
sorted_back [] ws h = h
sorted_back (w ∷ front) ws h = sorted_back front ws (and_second (below_all key_cmp w.0 (front ++ ws)) (is_sorted key_cmp (front ++ ws)) h)

first_below : (k : Key) (c : Option Cell) (ws : Pairs) → IsTrue (is_sorted key_cmp ((k, c) ∷ ws)) → part.IsBelowFirst k ws
first_below k c [] h = tt
first_below k c (w ∷ ws) h =
    is_less (key_cmp k w.0) (and_first (is_lt (key_cmp k w.0)) (below_all key_cmp k ws) (and_first (below_all key_cmp k (w ∷ ws)) (is_sorted key_cmp (w ∷ ws)) h))

put_front : (k : Key) (c : Option Cell) (ws : Pairs) → part.IsBelowFirst k ws → put key_cmp k c ws ≡ (k, c) ∷ ws
put_front k c [] h = refl
put_front k c (w ∷ ws) h = rw h refl

true_from : (b : Bool) → T b → b ≡ true
true_from true h = refl
true_from false h = absurd h

sorted_put : (k : Key) (c : Option Cell) (ws : Pairs) → IsTrue (is_sorted key_cmp ws) → IsTrue (is_sorted key_cmp (put key_cmp k c ws))
sorted_put k c ws h = true_from (is_sorted key_cmp (put key_cmp k c ws)) (is_sorted-put key_cmp key_cmp-total k c ws (rw h tt))

-- the pair before a place stands in front of those from the place on
before : (pairs : Pairs) (from : ℕ) (w : Key × Option Cell) → 0 < from → from ≤ length pairs → w ≡ slice_index_or pairs (from - 1) w → drop (from - 1) pairs ≡ w ∷ drop from pairs
before pairs from w some within at =
    let next : from - 1 + 1 ≡ from = omega arith in
    let back : slice_index_or pairs (from - 1) w ≡ w = sym at in
    drop_more pairs (from - 1) w (omega arith) ∙ (λ i. back i ∷ drop (next i) pairs)

all_behind : (pairs : Pairs) (from : ℕ) → from ≤ length pairs → take (length pairs - from) (drop from pairs) ≡ drop from pairs
all_behind pairs from within = take_all (length pairs - from) (drop from pairs) (omega (arith, length-drop from pairs))

pub rises_before : (pairs : Pairs) (from : ℕ) (w : Key × Option Cell) → 0 < from → from ≤ length pairs → w ≡ slice_index_or pairs (from - 1) w → part.IsBelowFirst (slice_index_or pairs (from - 1) w).0 (take (length pairs - from) (drop from pairs))
    → IsTrue (is_sorted key_cmp (drop from pairs)) → IsTrue (is_sorted key_cmp (drop (from - 1) pairs))
rises_before pairs from w some within at below h =
    let first : part.IsBelowFirst w.0 (drop from pairs) = subst (λ (x : Key × Option Cell). part.IsBelowFirst x.0 (drop from pairs)) (sym at) (rw (all_behind pairs from within) at below) in
    let whole : put key_cmp w.0 w.1 (drop from pairs) ≡ drop (from - 1) pairs = put_front w.0 w.1 (drop from pairs) first ∙ sym (before pairs from w some within at) in
    subst (λ (ws : Pairs). IsTrue (is_sorted key_cmp ws)) whole (sorted_put w.0 w.1 (drop from pairs) h)

pub not_rising : (pairs : Pairs) (from : ℕ) (w : Key × Option Cell) → 0 < from → from ≤ length pairs → w ≡ slice_index_or pairs (from - 1) w → ¬ (part.IsBelowFirst (slice_index_or pairs (from - 1) w).0 (take (length pairs - from) (drop from pairs)))
    → ¬ (IsTrue (is_sorted key_cmp pairs))
not_rising pairs from w some within at bad h =
    let parts : take (from - 1) pairs ++ drop (from - 1) pairs ≡ pairs = take-append-drop (from - 1) pairs in
    let tail = sorted_back (take (from - 1) pairs) (drop (from - 1) pairs) (rw parts h) in
    let first = first_below w.0 w.1 (drop from pairs) (rw (before pairs from w some within at) at tail) in
    bad (rw (all_behind pairs from within) (subst (λ (x : Key × Option Cell). part.IsBelowFirst x.0 (drop from pairs)) at first))

-- ---- entries

looks_none : (bytes : List ℕ) → BeginsNone part.looks part.AreLooks bytes → BeginsNone spell.entry IsEntry bytes
looks_none bytes none e after is eq =
    none ((e.act, e.snap), e.reads) (spell.list part.write e.writes ++ after) ((is.act, is.snap), (is.reads_fit, is.reads))
    (eq ∙ append_assoc (part.looks ((e.act, e.snap), e.reads)) (spell.list part.write e.writes) after)

pub looks_misses : (bytes : List ℕ) (m : Miss) → Misses part.looks part.AreLooks bytes m → Misses spell.entry IsEntry bytes m
looks_misses bytes m = misses part.looks part.AreLooks bytes spell.entry IsEntry bytes m (looks_none bytes)

writes_none : (bytes : List ℕ) → BeginsNone (λ (p : part.Looks × Pairs). part.looks p.0 ++ spell.list part.write p.1) (λ p. part.AreLooks p.0 × part.AreWrites p.1) bytes → BeginsNone spell.entry IsEntry bytes
writes_none bytes none e after is eq =
    none (((e.act, e.snap), e.reads), e.writes) after (((is.act, is.snap), (is.reads_fit, is.reads)), ((is.writes_fit, is.writes), is.rising)) eq

pub writes_misses : (p : part.Looks) (bytes rest : List ℕ) (m : Miss) → part.AreLooks p → bytes ≡ part.looks p ++ rest → Misses (spell.list part.write) part.AreWrites rest m → Misses spell.entry IsEntry bytes m
writes_misses p bytes rest m are b =
    misses (spell.list part.write) part.AreWrites rest spell.entry IsEntry bytes m
    (λ none. writes_none bytes (second_none part.looks part.AreLooks (spell.list part.write) part.AreWrites looks_unique p bytes rest are b none))

-- ---- bytes that go on

pub left_over : (d : Entry) (bytes rest : List ℕ) → IsEntry d → bytes ≡ spell.entry d ++ rest → ¬ (rest ≡ []) → IsNoEntry bytes
left_over d bytes rest is b some e ise eq = some (entry_unique.one d e rest [] is ise (sym b ∙ eq ∙ sym (append-nil (spell.entry e)))).1
