-- The first conflict is the number of the first entry past the snapshot that writes one of the keys.
use Rattle.std.proofs.Common.{◌≡◌, ℕ, ◌+◌, ◌≤◌, Bool, true, false, cond, min, nat_lt, List, [], ◌∷◌, fold, Option, Some, None, refl, sym, ap, subst, ◌∙◌, arith}
use Rattle.std.specs.Prelude.{◌&&◌, ◌||◌}
use Rattle.std.specs.Option.{option_map}
use Rattle.std.specs.List.{enumerate_from, find, list_any}
use Rattle.r3_rows.specs.declared.rows.Key.{Key}
use Rattle.r3_entry.specs.declared.entry.Entry.{Entry}
use Rattle.r3_entry.specs.History.{writes_key}
use Rattle.r3_snap.specs.Conflicts.{earlier}
use Rattle.r3_formed.specs.Past.{first_from, first_conflict, first_writer}
use Rattle.r3_formed.specs.PastLaws.{first_is}

none_some : (j : ℕ) → None ≡ Some j → ⊥
none_some j e = absurd cc

earlier-assoc : (a b c : Option ℕ) → earlier (earlier a b) c ≡ earlier a (earlier b c)
earlier-assoc None b c = refl
earlier-assoc (Some i) None c = refl
earlier-assoc (Some i) (Some j) None = refl
earlier-assoc (Some i) (Some j) (Some k) = ap Some (omega arith)

earlier-none : (a : Option ℕ) → earlier a None ≡ a
earlier-none None = refl
earlier-none (Some i) = refl

-- the least of what is given for each key
abbrev least : (Key → Option ℕ) → List Key → Option ℕ
least f ks = fold (λ l k. earlier l (f k)) None ks

from_first : (f : Key → Option ℕ) (acc : Option ℕ) (ks : List Key) → fold (λ l k. earlier l (f k)) acc ks ≡ earlier acc (least f ks)
from_first f acc [] = sym (earlier-none acc)
from_first f acc (k ∷ ks) =
    from_first f (earlier acc (f k)) ks ∙ earlier-assoc acc (f k) (least f ks) ∙ ap (earlier acc) (sym (from_first f (f k) ks))

abbrev AtLeast : ℕ → Option ℕ → Type 0
AtLeast j o = (n : ℕ) → o ≡ Some n → j ≤ n

merged : (j : ℕ) (b w any : Bool) (A B : Option ℕ) → AtLeast j A → AtLeast j B
    → earlier (cond (b && w) (Some j) A) (cond (b && any) (Some j) B) ≡ cond (b && (w || any)) (Some j) (earlier A B)
merged j false w any A B a b = refl
merged j true true true A B a b = ap Some (omega arith)
merged j true true false A None a b = refl
merged j true true false A (Some n) a b = let le : j ≤ n = b n refl in ap Some (omega arith)
merged j true false true None B a b = refl
merged j true false true (Some n) B a b = let le : j ≤ n = a n refl in ap Some (omega arith)
merged j true false false A B a b = refl

module _ (snap : ℕ) where
  abbrev conflict_from : ℕ → List Key → List Entry → Option ℕ
  conflict_from j ks h = least (λ k. first_from j snap k h) ks

  first_past_j : (j : ℕ) (k : Key) (h : List Entry) → AtLeast j (first_from j snap k h)
  first_past_j j k h n is = let number : n ≡ j + (first_is j snap k h n is).place = (first_is j snap k h n is).number in omega arith

  earlier_at_least : (j : ℕ) (a b : Option ℕ) → AtLeast j a → AtLeast j b → AtLeast j (earlier a b)
  earlier_at_least j None b p q = q
  earlier_at_least j (Some i) None p q = p
  earlier_at_least j (Some i) (Some k) p q = λ n is.
      let x : j ≤ i = p i refl in
      let y : j ≤ k = q k refl in
      let same : min i k ≡ n = cc in
      omega arith

  conflict_at_least : (j : ℕ) (ks : List Key) (h : List Entry) → AtLeast j (conflict_from j ks h)
  conflict_at_least j [] h = λ n is. absurd (none_some n is)
  conflict_at_least j (k ∷ ks) h =
      subst (AtLeast j) (sym (from_first (λ k. first_from j snap k h) (first_from j snap k h) ks))
      (earlier_at_least j (first_from j snap k h) (conflict_from j ks h) (first_past_j j k h) (conflict_at_least j ks h))

  later : (j : ℕ) (o : Option ℕ) → AtLeast (j + 1) o → AtLeast j o
  later j o p = λ n is. let le : j + 1 ≤ n = p n is in omega arith

  no_keys : (b : Bool) (j : ℕ) → cond (b && false) (Some j) None ≡ None
  no_keys true j = refl
  no_keys false j = refl

  conflict_step : (j : ℕ) (ks : List Key) (e : Entry) (es : List Entry)
      → conflict_from j ks (e ∷ es) ≡ cond (nat_lt snap j && list_any (writes_key e) ks) (Some j) (conflict_from (j + 1) ks es)
  conflict_step j [] e es = sym (no_keys (nat_lt snap j) j)
  conflict_step j (k ∷ ks) e es =
      from_first (λ k. first_from j snap k (e ∷ es)) (first_from j snap k (e ∷ es)) ks
      ∙ ap (earlier (first_from j snap k (e ∷ es))) (conflict_step j ks e es)
      ∙ merged j (nat_lt snap j) (writes_key e k) (list_any (writes_key e) ks) (first_from (j + 1) snap k es) (conflict_from (j + 1) ks es)
      (later j _ (first_past_j (j + 1) k es)) (later j _ (conflict_at_least (j + 1) ks es))
      ∙ ap (λ o. cond (nat_lt snap j && (writes_key e k || list_any (writes_key e) ks)) (Some j) o)
      (sym (from_first (λ k. first_from (j + 1) snap k es) (first_from (j + 1) snap k es) ks))

  no_entries : (j : ℕ) (ks : List Key) → conflict_from j ks [] ≡ None
  no_entries j [] = refl
  no_entries j (k ∷ ks) = no_entries j ks

  abbrev number_of : ℕ × Entry → ℕ
  number_of e = e.0

  chosen : (b : Bool) (j : ℕ) (e : Entry) (o : Option (ℕ × Entry)) → cond b (Some j) (option_map number_of o) ≡ option_map number_of (cond b (Some (j, e)) o)
  chosen true j e o = refl
  chosen false j e o = refl

  conflict_is : (j : ℕ) (ks : List Key) (h : List Entry)
      → conflict_from j ks h ≡ option_map number_of (find (λ e. nat_lt snap e.0 && list_any (writes_key e.1) ks) (enumerate_from j h))
  conflict_is j ks [] = no_entries j ks
  conflict_is j ks (e ∷ es) =
      conflict_step j ks e es
      ∙ ap (λ o. cond (nat_lt snap j && list_any (writes_key e) ks) (Some j) o) (conflict_is (j + 1) ks es)
      ∙ chosen (nat_lt snap j && list_any (writes_key e) ks) j e _

pub conflict_is_first : (h : List Entry) (snap : ℕ) (keys : List Key) → first_conflict h snap keys ≡ first_writer h snap keys
conflict_is_first h snap keys = conflict_is snap 1 keys h
