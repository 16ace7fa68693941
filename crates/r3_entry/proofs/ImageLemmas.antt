-- An image stands for one history.
use Rattle.std.proofs.Common.{length-append, ◌≡◌, ◌≢◌, ℕ, ◌<◌, ◌≤◌, ◌^◌, List, [], ◌∷◌, ◌++◌, length, ◌+◌, take, drop, refl, ap, sym, subst, ◌∙◌, append_assoc, arith, inl, inr}
use Rattle.std.specs.List.{AllByRecursion}
use Rattle.std.proofs.lemmas.List.{take_at, drop_at, append-nil}
use Rattle.r3_bytes.specs.Spelling.{number, string}
use Rattle.r3_bytes.proofs.Unique.{number_one}
use Rattle.r3_entry.specs.declared.entry.Entry.{Entry}
use Rattle.r3_entry.specs.Bytes.{entry, record_of, records, magic, open_gate, bytes}
use Rattle.r3_entry.specs.Limits.{IsEntry}
use Rattle.r3_entry.specs.Formed.{IsFormed}
use Rattle.r3_entry.specs.Image.{IsHistoryOf}
use Rattle.r3_entry.proofs.EntryUnique.{entry_unique}
use Rattle.r3_entry.proofs.Sizes.{length-bytes}

-- bytes behind their length
payload_one : (s t a b : List ℕ) → length s < 2 ^ 32 → length t < 2 ^ 32 → string s ++ a ≡ string t ++ b → (s ≡ t) × (a ≡ b)
payload_one s t a b hs ht e =
    let n = number_one (length s) (length t) (s ++ a) (t ++ b) hs ht (sym (append_assoc (number (length s)) s a) ∙ e ∙ append_assoc (number (length t)) t b) in (
      sym (take_at s a (length s) refl) ∙ ap (λ (x : List ℕ). take (length s) x) n.1 ∙ take_at t b (length s) (sym n.0),
      sym (drop_at s a (length s) refl) ∙ ap (λ (x : List ℕ). drop (length s) x) n.1 ∙ drop_at t b (length s) (sym n.0),
    )

IsPayload : Entry → Type 0
IsPayload e = length (entry e) ≤ 2 ^ 23

record_one : (x y : Entry) (a b : List ℕ) → length (entry x) ≤ 2 ^ 23 → length (entry y) ≤ 2 ^ 23 → IsEntry x → IsEntry y → record_of x ++ a ≡ record_of y ++ b → (x ≡ y) × (a ≡ b)
record_one x y a b sx sy hx hy e =
    let tail : string (entry x) ++ a ≡ string (entry y) ++ b = cc in
    let p = payload_one (entry x) (entry y) a b (omega (arith, sx)) (omega (arith, sy)) tail in
    ((entry_unique.one x y [] [] hx hy (ap (λ (l : List ℕ). l ++ []) p.0)).0, p.1)

records_one : (h k : List Entry) (g f : ℕ) (a b : List ℕ) → AllByRecursion (λ e. length (entry e) ≤ 2 ^ 23) h → AllByRecursion (λ e. length (entry e) ≤ 2 ^ 23) k → AllByRecursion IsEntry h → AllByRecursion IsEntry k
    → g ≢ open_gate → f ≢ open_gate → records h ++ g ∷ a ≡ records k ++ f ∷ b → h ≡ k
records_one [] [] g f a b sh sk hh hk gc fc e = refl
records_one [] (y ∷ ys) g f a b sh sk hh hk gc fc e = let bad : g ≡ open_gate = cc in absurd (gc bad)
records_one (x ∷ xs) [] g f a b sh sk hh hk gc fc e = let bad : f ≡ open_gate = cc in absurd (fc bad)
records_one (x ∷ xs) (y ∷ ys) g f a b sh sk hh hk gc fc e =
    let first = record_one x y (records xs ++ g ∷ a) (records ys ++ f ∷ b) sh.0 sk.0 hh.0 hk.0
    (sym (append_assoc (record_of x) (records xs) (g ∷ a)) ∙ e ∙ append_assoc (record_of y) (records ys) (f ∷ b)) in
    let others = records_one xs ys g f a b sh.1 sk.1 hh.1 hk.1 gc fc first.1 in
    λ i. first.0 i ∷ others i

pub history_one : (image : List ℕ) (h k : List Entry) → IsHistoryOf h image → IsHistoryOf k image → h ≡ k
history_one image h k (inl p) (inl q) = p.1 ∙ sym q.1
history_one image h k (inl p) (inr q) = absurd (omega (arith, p.0, q.0))
history_one image h k (inr p) (inl q) = absurd (omega (arith, p.0, q.0))
history_one image h k (inr p) (inr q) =
    let a = p.2 in
    let b = q.2 in
    let whole : magic ++ records h ++ a.0 ∷ a.1 ≡ magic ++ records k ++ b.0 ∷ b.1 = sym a.3 ∙ b.3 in
    let same : records h ++ a.0 ∷ a.1 ≡ records k ++ b.0 ∷ b.1 = cc in
    records_one h k a.0 b.0 a.1 b.1 p.1.payloads q.1.payloads p.1.limits q.1.limits a.2 b.2 same

-- what is written for a history is an image of it
pub bytes_history : (h : List Entry) → IsFormed h → h ≢ [] → IsHistoryOf h (bytes h)
bytes_history [] formed some = absurd (some refl)
bytes_history (e ∷ es) formed some = inr (omega (arith, length-bytes (e ∷ es)), formed, (0, [], (λ z. omega arith), refl))

-- what follows a closed gate doesn't count
pub closed_history : (h : List Entry) (gate : ℕ) (rest : List ℕ) → IsFormed h → h ≢ [] → gate ≢ open_gate → IsHistoryOf h (magic ++ records h ++ gate ∷ rest)
closed_history [] gate rest formed some closed = absurd (some refl)
closed_history (e ∷ es) gate rest formed some closed =
    let long : length (magic ++ records (e ∷ es) ++ gate ∷ rest) ≡ length (magic ++ records (e ∷ es)) + length (gate ∷ rest) = length-append (magic ++ records (e ∷ es)) (gate ∷ rest) in
    let more : 9 < length (magic ++ records (e ∷ es) ++ gate ∷ rest) = omega arith in
    inr (more, formed, (gate, rest, closed, refl))

records-push : (h : List Entry) (e : Entry) → records (h ++ e ∷ []) ≡ records h ++ record_of e
records-push [] e = append-nil (record_of e)
records-push (x ∷ xs) e = rw (records-push xs e) (sym (append_assoc (record_of x) (records xs) (record_of e)))

not_empty : (h : List Entry) (e : Entry) → h ++ e ∷ [] ≢ []
not_empty [] e z = absurd cc
not_empty (x ∷ xs) e z = absurd cc

-- one more record behind an open gate
pub open_history : (h : List Entry) (e : Entry) (gate : ℕ) (rest : List ℕ) → IsFormed (h ++ e ∷ []) → gate ≢ open_gate → IsHistoryOf (h ++ e ∷ []) (magic ++ records h ++ record_of e ++ gate ∷ rest)
open_history h e gate rest formed closed =
    let same : (magic ++ records h) ++ record_of e ≡ magic ++ records (h ++ e ∷ []) = append_assoc magic (records h) (record_of e) ∙ ap (λ (x : List ℕ). magic ++ x) (sym (records-push h e)) in
    subst (λ (x : List ℕ). IsHistoryOf (h ++ e ∷ []) (x ++ gate ∷ rest)) (sym same) (closed_history (h ++ e ∷ []) gate rest formed (not_empty h e) closed)
