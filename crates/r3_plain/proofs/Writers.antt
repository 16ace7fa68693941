-- The first writer past a snapshot, from an entry on.
use Rattle.std.proofs.Common.{◌≡◌, ℕ, suc, zero, add-one, ◌+◌, ◌<◌, Bool, true, false, cond, ◌&&◌, nat_lt, List, [], ◌∷◌, length, drop, get_or, Option, Some, sym, ap, subst, arith}
use Rattle.std.specs.Prelude.{find}
use Rattle.std.specs.Option.{option_map}
use Rattle.std.specs.List.{enumerate_from, list_any}
use Rattle.r3_rows.specs.declared.rows.Key.{Key}
use Rattle.r3_rows.specs.declared.rows.Cell.{Cell}
use Rattle.r3_entry.specs.declared.entry.Entry.{Entry}

-- the entries are numbered from k
abbrev pub writer_from : ℕ → ℕ → (Key → Bool) → List Entry → Option ℕ
writer_from k s is_such es =
    option_map (λ (e : ℕ × Entry). e.0)
    (find (λ (e : ℕ × Entry). nat_lt s e.0 && list_any (λ (w : Key × Option Cell). is_such w.0) e.1.writes) (enumerate_from k es))

abbrev writes_such : (Key → Bool) → Entry → Bool
writes_such is_such e = list_any (λ (w : Key × Option Cell). is_such w.0) e.writes

pub writer_here : (k s : ℕ) (is_such : Key → Bool) (e : Entry) (es : List Entry) → (nat_lt s k && writes_such is_such e) ≡ true
    → writer_from k s is_such (e ∷ es) ≡ Some k
writer_here k s is_such e es is =
    ap (λ (b : Bool). option_map (λ (e : ℕ × Entry). e.0) (cond b (Some (k, e))
    (find (λ (e : ℕ × Entry). nat_lt s e.0 && list_any (λ (w : Key × Option Cell). is_such w.0) e.1.writes) (enumerate_from (k + 1) es)))) is

pub writer_later : (k s : ℕ) (is_such : Key → Bool) (e : Entry) (es : List Entry) → (nat_lt s k && writes_such is_such e) ≡ false
    → writer_from k s is_such (e ∷ es) ≡ writer_from (k + 1) s is_such es
writer_later k s is_such e es is =
    ap (λ (b : Bool). option_map (λ (e : ℕ × Entry). e.0) (cond b (Some (k, e))
    (find (λ (e : ℕ × Entry). nat_lt s e.0 && list_any (λ (w : Key × Option Cell). is_such w.0) e.1.writes) (enumerate_from (k + 1) es)))) is

-- the entry of this number stands past the snapshot, and wrote such a key
abbrev pub writes_at : ℕ → ℕ → (Key → Bool) → Entry → Bool
writes_at k s is_such e = nat_lt s k && list_any (λ (w : Key × Option Cell). is_such w.0) e.writes

drop_next : (h : List Entry) (i : ℕ) (e : Entry) → e ≡ get_or h i e → i < length h → drop i h ≡ e ∷ drop (suc i) h
drop_next [] i e is lt = absurd (omega (arith, lt))
drop_next (x ∷ xs) zero e is lt = ap (λ (y : Entry). y ∷ xs) (sym is)
drop_next (x ∷ xs) (suc i) e is lt = drop_next xs i e is (omega (arith, lt))

-- what is left from a place on begins with the one there
pub drop_item : (h : List Entry) (i : ℕ) (e : Entry) → e ≡ get_or h i e → i < length h → drop i h ≡ e ∷ drop (i + 1) h
drop_item h i e is lt = subst (λ (j : ℕ). drop i h ≡ e ∷ drop j h) (sym (add-one i)) (drop_next h i e is lt)
