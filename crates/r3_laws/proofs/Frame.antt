-- What stands before stays, and entries that don't write a workflow's own rows leave it as it was.
use Rattle.std.proofs.Common.{◌≡◌, ℕ, suc, zero, ◌+◌, ◌≤◌, Bool, true, false, cond, ◌||◌, List, [], ◌∷◌, ◌++◌, map, length, Option, Some, None, refl, sym, ap, ◌∙◌, arith, length-append}
use Rattle.std.specs.Prelude.{fold, bytes_eq, option_and_then}
use Rattle.std.specs.List.{list_any, enumerate_from}
use Rattle.std.specs.Ordering.{eq_by_cmp, is_eq}
use Rattle.std.specs.declared.cmp.Ordering.{Ordering}
use Rattle.std.specs.declared.cmp.Ordering.TheVariants.{Less, Equal, Greater}
use Rattle.std.specs.FinMap.{find}
use Rattle.std.specs.FinMap.Entries.{put, find-put}
use Rattle.std.proofs.lemmas.List.{take-append-le}
use Rattle.std.proofs.lemmas.Slice.Eq.{bytes_eq-Decides}
use Rattle.r3_rows.specs.declared.rows.Key.{Key}
use Rattle.r3_rows.specs.declared.rows.Key.TheVariants as keys
use Rattle.r3_rows.specs.declared.rows.Cell.{Cell}
use Rattle.r3_rows.specs.declared.rows.FlowRow.{FlowRow}
use Rattle.r3_rows.specs.declared.rows.StepRow.{StepRow}
use Rattle.r3_entry.specs.declared.entry.Entry.{Entry}
use Rattle.r3_rows.specs.Keys.{key_cmp}
use Rattle.r3_entry.specs.History.{Write, Map, after_entry, map_at, cell_at}
use Rattle.r3_rows.specs.KeyOrder.{key_cmp-total, key_cmp-same}
use Rattle.r3_entry.proofs.Append.{map_at-push}
use Rattle.r3_model.specs.Language.{Text, Language}
use Rattle.r3_model.specs.Rows.{flow_of, step_of, flow_at, step_at, steps_from, steps_at, answer_of}
use Rattle.r3_model.specs.Turns.{flow_end}
use Rattle.r3_model.specs.Made.{is_own}

-- ---- what stands before stays

pub cell_at-before : (h more : List Entry) (k : ℕ) (q : Key) → k ≤ length h → cell_at (h ++ more) k q ≡ cell_at h k q
cell_at-before h more k q le =
    ap (λ (x : List Entry). option_and_then (λ (w : Write). w.1) (find key_cmp q (fold after_entry [] (enumerate_from 1 x)))) (take-append-le k h more le)

-- ---- an entry that doesn't write a key

pub or_none : (a b : Bool) → (a || b) ≡ false → (a ≡ false) × (b ≡ false)
or_none true b e = absurd cc
or_none false b e = (refl, e)

find-fold : (ws : List (Key × Option Cell)) (m : Map) (j : ℕ) (q : Key) → list_any (λ (w : Key × Option Cell). eq_by_cmp key_cmp q w.0) ws ≡ false
    → find key_cmp q (fold (λ (m : Map) (w : Key × Option Cell). put key_cmp w.0 (j, w.1) m) m ws) ≡ find key_cmp q m
find-fold [] m j q none = refl
find-fold (w ∷ ws) m j q none =
    let both = or_none (eq_by_cmp key_cmp q w.0) (list_any (λ (w : Key × Option Cell). eq_by_cmp key_cmp q w.0) ws) none in
    find-fold ws (put key_cmp w.0 (j, w.1) m) j q both.1
    ∙ find-put key_cmp key_cmp-total q w.0 (j, w.1) m
    ∙ ap (λ (b : Bool). cond b (Some (j, w.1)) (find key_cmp q m)) both.0

abbrev now : List Entry → Key → Option Cell
now h q = cell_at h (length h) q

pub length-push : (h : List Entry) (e : Entry) → length (h ++ e ∷ []) ≡ length h + 1
length-push h e = omega (arith, length-append h (e ∷ []))

cell_at-push : (h : List Entry) (e : Entry) (q : Key) → list_any (λ (w : Key × Option Cell). eq_by_cmp key_cmp q w.0) e.writes ≡ false → now (h ++ e ∷ []) q ≡ now h q
cell_at-push h e q none =
    ap (λ (k : ℕ). cell_at (h ++ e ∷ []) k q) (length-push h e)
    ∙ ap (λ (m : Map). option_and_then (λ (w : Write). w.1) (find key_cmp q m)) (map_at-push h e)
    ∙ ap (λ (o : Option Write). option_and_then (λ (w : Write). w.1) o) (find-fold e.writes (map_at h (length h)) (1 + length h) q none)

-- ---- a test that q passes, and that no key written passes

is_equal : (o : Ordering) → is_eq o ≡ true → o ≡ Equal
is_equal Less e = absurd cc
is_equal Equal e = refl
is_equal Greater e = absurd cc

passes : (p : Key → Bool) (q k : Key) → p q ≡ true → p k ≡ false → (b : Bool) → eq_by_cmp key_cmp q k ≡ b → eq_by_cmp key_cmp q k ≡ false
passes p q k own other false is = is
passes p q k own other true is =
    let same : q ≡ k = key_cmp-same q k (is_equal (key_cmp q k) is) in
    let clash : true ≡ false = sym own ∙ ap p same ∙ other in
    absurd (let e : true ≡ false = clash in cc)

pub untouched : (p : Key → Bool) (q : Key) (ws : List (Key × Option Cell)) → p q ≡ true → list_any (λ (w : Key × Option Cell). p w.0) ws ≡ false → list_any (λ (w : Key × Option Cell). eq_by_cmp key_cmp q w.0) ws ≡ false
untouched p q [] own none = refl
untouched p q (w ∷ ws) own none =
    let both = or_none (p w.0) (list_any (λ (w : Key × Option Cell). p w.0) ws) none in
    let here : eq_by_cmp key_cmp q w.0 ≡ false = passes p q w.0 own both.0 (eq_by_cmp key_cmp q w.0) refl in
    ap (λ (b : Bool). b || list_any (λ (w : Key × Option Cell). eq_by_cmp key_cmp q w.0) ws) here ∙ untouched p q ws own both.1

bytes_eq-refl : (s : Text) → bytes_eq s s ≡ true
bytes_eq-refl s = (bytes_eq-Decides s s).1 refl

-- ---- a workflow's own rows

abbrev pub IsQuiet : Text → Entry → Type 0
IsQuiet id e = list_any (λ (w : Key × Option Cell). is_own id w.0) e.writes ≡ false

pub flow_at-push : (h : List Entry) (e : Entry) (id : Text) → IsQuiet id e → flow_at (h ++ e ∷ []) (length (h ++ e ∷ [])) id ≡ flow_at h (length h) id
flow_at-push h e id quiet = ap (λ (c : Option Cell). option_and_then flow_of c) (cell_at-push h e (keys.Flow id) (untouched (is_own id) (keys.Flow id) e.writes (bytes_eq-refl id) quiet))

pub step_at-push : (h : List Entry) (e : Entry) (id : Text) (n : ℕ) → IsQuiet id e → step_at (h ++ e ∷ []) (length (h ++ e ∷ [])) id n ≡ step_at h (length h) id n
step_at-push h e id n quiet = ap (λ (c : Option Cell). option_and_then step_of c) (cell_at-push h e (keys.Step id n) (untouched (is_own id) (keys.Step id n) e.writes (bytes_eq-refl id) quiet))

abbrev pub from_row : Option StepRow → List StepRow → List StepRow
from_row o more = elim o as (λ _. List StepRow) [ Some r ↦ r ∷ more | None ↦ [] ]

pub steps_from-same : (g h : List Entry) (k l : ℕ) (id : Text) → ((n : ℕ) → step_at g k id n ≡ step_at h l id n) → (most n : ℕ) → steps_from g k most id n ≡ steps_from h l most id n
steps_from-same g h k l id same zero n = refl
steps_from-same g h k l id same (suc most) n =
    ap (λ (o : Option StepRow). from_row o (steps_from g k most id (n + 1))) (same n)
    ∙ ap (λ (more : List StepRow). from_row (step_at h l id n) more) (steps_from-same g h k l id same most (n + 1))

pub steps_at-push : (h : List Entry) (e : Entry) (id : Text) → IsQuiet id e → steps_at (h ++ e ∷ []) (length (h ++ e ∷ [])) id ≡ steps_at h (length h) id
steps_at-push h e id quiet = steps_from-same (h ++ e ∷ []) h (length (h ++ e ∷ [])) (length h) id (λ n. step_at-push h e id n quiet) 1000 0

-- so its function runs as before
pub flow_end-push : (P : Language) (h : List Entry) (e : Entry) (id : Text) (row : FlowRow) → IsQuiet id e → flow_end P (h ++ e ∷ []) id row ≡ flow_end P h id row
flow_end-push P h e id row quiet = ap (λ (s : List StepRow). P.flow row.function row.args (map answer_of s)) (steps_at-push h e id quiet)
