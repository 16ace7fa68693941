-- From the fields of a value to the value.
use Rattle.std.proofs.Common.{◌≡◌, ℕ, ◌+◌, ◌<◌, ◌≤◌, ◌-◌, cond, Ok, Err, inl, inr, ◌⊎◌, ltb, List, [], ◌∷◌, ◌++◌, Bool, true, false, refl, ap, ◌∙◌, sym, append_assoc, arith}
use Rattle.r3_value.specs.Value.{null, boolean, integer, text, list, Items, no_items, item, weight, weights, depth, depths, AreProper}
use Rattle.std.proofs.lemmas.Bool.{ltb-false, ltb-true}
use Rattle.r3_value.specs.declared.value.Val.TheVariants.{List as ListOf}
use Rattle.r3_value.specs.declared.value.Val.{Val}
use Rattle.r3_value.specs.declared.fault.ValFault.{ValFault}
use Rattle.r3_value.specs.declared.fault.ValFault.TheVariants.{TooLarge, TooDeep}
use Rattle.r3_value.specs.View.{value_of, items_of}
use Rattle.r3_value.specs.Made.{made_list}
use Rattle.r3_bytes.proofs.Written.{items-push}
use Rattle.r3_bytes.proofs.Unique.{AreShort, number_one, value_one, items_one, count_le-weights}
use Rattle.r3_bytes.specs.Spelling as spell
use Rattle.r3_bytes.specs.Field.{BeginsNone, Misses}
use Rattle.r3_bytes.specs.declared.slices.Miss.{Miss}
use Rattle.r3_bytes.specs.declared.slices.Miss.TheVariants as miss

pub misses : {X Y : Type 0} (s : X → List ℕ) (I : X → Type 0) (b : List ℕ) (t : Y → List ℕ) (J : Y → Type 0) (c : List ℕ) (m : Miss) → (BeginsNone s I b → BeginsNone t J c) → Misses s I b m → Misses t J c m
misses s I b t J c miss.Absent f h = f h
misses s I b t J c miss.Memory f h = tt

no_int : (d : ℕ) (rest : List ℕ) → BeginsNone spell.signed spell.IsSigned rest → BeginsNone spell.value (spell.IsValueTo d) (2 ∷ rest)
no_int d rest none (integer z) after is e = none z after is.proper cc
no_int d rest none v after is e = absurd cc

pub int_misses : (d : ℕ) (rest : List ℕ) (m : Miss) → Misses spell.signed spell.IsSigned rest m → Misses spell.value (spell.IsValueTo d) (2 ∷ rest) m
int_misses d rest m = misses spell.signed spell.IsSigned rest spell.value (spell.IsValueTo d) (2 ∷ rest) m (no_int d rest)

no_text : (d : ℕ) (rest : List ℕ) → BeginsNone spell.string spell.IsTxt rest → BeginsNone spell.value (spell.IsValueTo d) (3 ∷ rest)
no_text d rest none (text s) after is e = none s after (record { short = omega (arith, is.small); utf8 = is.proper }) cc
no_text d rest none v after is e = absurd cc

pub text_misses : (d : ℕ) (rest : List ℕ) (m : Miss) → Misses spell.string spell.IsTxt rest m → Misses spell.value (spell.IsValueTo d) (3 ∷ rest) m
text_misses d rest m = misses spell.string spell.IsTxt rest spell.value (spell.IsValueTo d) (3 ∷ rest) m (no_text d rest)

pub no_bool : (d flag : ℕ) (rest : List ℕ) → 1 < flag → BeginsNone spell.value (spell.IsValueTo d) (1 ∷ flag ∷ rest)
no_bool d flag rest big (boolean b) after is e = let f : flag ≡ spell.flag b = cc in elim b as (λ b. flag ≡ spell.flag b → ⊥) [ true ↦ λ e. omega arith | false ↦ λ e. omega arith ] f
no_bool d flag rest big v after is e = absurd cc

-- no first byte is above 4
pub no_value : (d tag : ℕ) (rest : List ℕ) → 4 < tag → BeginsNone spell.value (spell.IsValueTo d) (tag ∷ rest)
no_value d tag rest big null after is e = let t : tag ≡ 0 = cc in omega arith
no_value d tag rest big (boolean b) after is e = let t : tag ≡ 1 = cc in omega arith
no_value d tag rest big (integer z) after is e = let t : tag ≡ 2 = cc in omega arith
no_value d tag rest big (text s) after is e = let t : tag ≡ 3 = cc in omega arith
no_value d tag rest big (list vs) after is e = let t : tag ≡ 4 = cc in omega arith

-- ---- the ends of the bytes

pub no_value-nil : (d : ℕ) → BeginsNone spell.value (spell.IsValueTo d) []
no_value-nil d null after is e = absurd cc
no_value-nil d (boolean b) after is e = absurd cc
no_value-nil d (integer z) after is e = absurd cc
no_value-nil d (text s) after is e = absurd cc
no_value-nil d (list vs) after is e = absurd cc

pub no_flag : (d : ℕ) → BeginsNone spell.value (spell.IsValueTo d) (1 ∷ [])
no_flag d (boolean b) after is e = absurd cc
no_flag d v after is e = absurd cc

-- ---- lists

pub values_to : (d : ℕ) (vs : Items) → AreProper vs → weights vs ≤ 4096 → depths vs ≤ d → spell.AreValuesTo d vs
values_to d no_items p w h = tt
values_to d (item v vs) p w h = (record { proper = p.0; small = omega arith; shallow = omega arith }, values_to d vs p.1 (omega arith) (omega arith))

are_short : (d : ℕ) (vs : Items) → spell.AreValuesTo d vs → AreShort vs
are_short d no_items h = tt
are_short d (item v vs) h = (record { proper = h.0.proper; small = h.0.small }, are_short d vs h.1)

pub no_list-flat : (d : ℕ) (rest : List ℕ) → d ≡ 0 → BeginsNone spell.value (spell.IsValueTo d) (4 ∷ rest)
no_list-flat d rest z (list vs) after is e = omega (arith, is.shallow)
no_list-flat d rest z v after is e = absurd cc

count_fits : (d : ℕ) (vs : Items) → spell.IsValueTo d (list vs) → spell.IsNumber (spell.count vs)
count_fits d vs is = omega (arith, is.small, count_le-weights vs)

no_count : (d : ℕ) (rest : List ℕ) → BeginsNone spell.number spell.IsNumber rest → BeginsNone spell.value (spell.IsValueTo d) (4 ∷ rest)
no_count d rest none (list vs) after is e =
    let tail : rest ≡ (spell.number (spell.count vs) ++ spell.items vs) ++ after = cc in
    none (spell.count vs) (spell.items vs ++ after) (count_fits d vs is) (tail ∙ append_assoc (spell.number (spell.count vs)) (spell.items vs) after)
no_count d rest none v after is e = absurd cc

pub count_misses : (d : ℕ) (rest : List ℕ) (m : Miss) → Misses spell.number spell.IsNumber rest m → Misses spell.value (spell.IsValueTo d) (4 ∷ rest) m
count_misses d rest m = misses spell.number spell.IsNumber rest spell.value (spell.IsValueTo d) (4 ∷ rest) m (no_count d rest)

-- the list that stands there has the number of items that was read
list_front : (d n : ℕ) (bytes rest after : List ℕ) (vs : Items) → spell.IsNumber n → bytes ≡ spell.number n ++ rest → spell.IsValueTo d (list vs) → 4 ∷ bytes ≡ spell.value (list vs) ++ after
    → (n ≡ spell.count vs) × (rest ≡ spell.items vs ++ after)
list_front d n bytes rest after vs hn b is e =
    let tail : bytes ≡ (spell.number (spell.count vs) ++ spell.items vs) ++ after = cc in
    number_one n (spell.count vs) rest (spell.items vs ++ after) hn (count_fits d vs is) (sym b ∙ tail ∙ append_assoc (spell.number (spell.count vs)) (spell.items vs) after)

no_items_there : (d n : ℕ) (bytes rest : List ℕ) → spell.IsNumber n → bytes ≡ spell.number n ++ rest → BeginsNone spell.items (spell.AreItems n (d - 1)) rest → BeginsNone spell.value (spell.IsValueTo d) (4 ∷ bytes)
no_items_there d n bytes rest hn b none (list vs) after is e =
    let front = list_front d n bytes rest after vs hn b is e in
    none vs after (record { count = sym front.0; values = values_to (d - 1) vs is.proper (omega (arith, is.small)) (omega (arith, is.shallow)) }) front.1
no_items_there d n bytes rest hn b none v after is e = absurd cc

pub items_misses : (d n : ℕ) (bytes rest : List ℕ) (m : Miss) → spell.IsNumber n → bytes ≡ spell.number n ++ rest → Misses spell.items (spell.AreItems n (d - 1)) rest m → Misses spell.value (spell.IsValueTo d) (4 ∷ bytes) m
items_misses d n bytes rest m hn b = misses spell.items (spell.AreItems n (d - 1)) rest spell.value (spell.IsValueTo d) (4 ∷ bytes) m (no_items_there d n bytes rest hn b)

-- ---- what `Val::list` makes of the items

pick_ok : (big deep : Bool) (w : ℕ) (made v : Val) → cond big (Err (TooLarge w)) (cond deep (Err TooDeep) (Ok made)) ≡ Ok v → (big ≡ false) × ((deep ≡ false) × (made ≡ v))
pick_ok true deep w made v e = absurd cc
pick_ok false true w made v e = absurd cc
pick_ok false false w made v e = (refl, (refl, cc))

pick_err : (big deep : Bool) (w : ℕ) (made : Val) (fault : ValFault) → cond big (Err (TooLarge w)) (cond deep (Err TooDeep) (Ok made)) ≡ Err fault → (big ≡ true) ⊎ (deep ≡ true)
pick_err true deep w made fault e = inl refl
pick_err false true w made fault e = inr refl
pick_err false false w made fault e = absurd cc

pub record IsMade (vs : List Val) (v : Val) : Type 0 where
  pub value : value_of v ≡ list (items_of vs)
  pub small : weight (list (items_of vs)) ≤ 4096
  pub shallow : depth (list (items_of vs)) ≤ 16

made_ok : (vs : List Val) (v : Val) → made_list vs ≡ Ok v → IsMade vs v
made_ok vs v e =
    let l = list (items_of vs) in
    let h = pick_ok (ltb 4096 (weight l)) (ltb 16 (depth l)) (weight l) (ListOf (items_of vs)) v e in
    record { value = rw (← h.1.1) refl; small = ltb-false _ _ h.0; shallow = ltb-false _ _ h.1.0 }

made_err : (vs : List Val) (fault : ValFault) → made_list vs ≡ Err fault → weight (list (items_of vs)) ≤ 4096 → depth (list (items_of vs)) ≤ 16 → ⊥
made_err vs fault e small shallow =
    let l = list (items_of vs) in
    elim (pick_err (ltb 4096 (weight l)) (ltb 16 (depth l)) (weight l) (ListOf (items_of vs)) fault e) [
      | inl h ↦ omega (arith, ltb-true _ _ h)
      | inr h ↦ omega (arith, ltb-true _ _ h)
    ]

proper_items : (d : ℕ) (vs : Items) → spell.AreValuesTo d vs → AreProper vs × (depths vs ≤ d)
proper_items d no_items h = (tt, omega arith)
proper_items d (item v vs) h = let others = proper_items d vs h.1 in ((h.0.proper, others.0), omega (arith, h.0.shallow, others.1))

pub list_found : (d n : ℕ) (bytes rest after : List ℕ) (vs : List Val) (v : Val) → 1 ≤ d → spell.IsNumber n → bytes ≡ spell.number n ++ rest → spell.AreItems n (d - 1) (items_of vs) → rest ≡ spell.items (items_of vs) ++ after
    → made_list vs ≡ Ok v → spell.IsValueTo d (value_of v) × (4 ∷ bytes ≡ spell.value (value_of v) ++ after)
list_found d n bytes rest after vs v up hn b are r made =
    let is = made_ok vs v made in
    let inner = proper_items (d - 1) (items_of vs) are.values in
    let fits : spell.IsValueTo d (list (items_of vs)) = record { proper = inner.0; small = is.small; shallow = omega (arith, inner.1) } in
    let spelled : 4 ∷ bytes ≡ spell.value (list (items_of vs)) ++ after = rw (b, r, are.count) (ap (λ (x : List ℕ). 4 ∷ x) (sym (append_assoc (spell.number n) (spell.items (items_of vs)) after))) in
    rw is.value (fits, spelled)

pub list_missed : (d n : ℕ) (bytes rest after : List ℕ) (vs : List Val) (fault : ValFault) → d ≤ 16 → spell.IsNumber n → bytes ≡ spell.number n ++ rest → spell.AreItems n (d - 1) (items_of vs) → rest ≡ spell.items (items_of vs) ++ after
    → made_list vs ≡ Err fault → BeginsNone spell.value (spell.IsValueTo d) (4 ∷ bytes)
list_missed d n bytes rest after vs fault low hn b are r made (list ws) tail is e =
    let front = list_front d n bytes rest tail ws hn b is e in
    let one = items_one (items_of vs) ws after tail (are_short (d - 1) (items_of vs) are.values) (are_short (d - 1) ws (values_to (d - 1) ws is.proper (omega (arith, is.small)) (omega (arith, is.shallow)))) (are.count ∙ front.0) (sym r ∙ front.1) in
    let same : list (items_of vs) ≡ list ws = ap list one.0 in
    made_err vs fault made (omega (arith, is.small, ap weight same)) (omega (arith, is.shallow, ap depth same))
list_missed d n bytes rest after vs fault low hn b are r made v tail is e = absurd cc

-- ---- items one after the other

no_more : (front vs : Items) (a b : List ℕ) (d : ℕ) → spell.AreValuesTo d front → spell.AreValuesTo d vs → spell.count front < spell.count vs → spell.items front ++ a ≡ spell.items vs ++ b → BeginsNone spell.value (spell.IsValueTo d) a → ⊥
no_more no_items no_items a b d hf hv lt e none = omega arith
no_more no_items (item w ws) a b d hf hv lt e none = none w (spell.items ws ++ b) hv.0 (e ∙ append_assoc (spell.value w) (spell.items ws) b)
no_more (item v vs) no_items a b d hf hv lt e none = omega arith
no_more (item v vs) (item w ws) a b d hf hv lt e none =
    let first = value_one v w (spell.items vs ++ a) (spell.items ws ++ b) (record { proper = hf.0.proper; small = hf.0.small }) (record { proper = hv.0.proper; small = hv.0.small })
    (sym (append_assoc (spell.value v) (spell.items vs) a) ∙ e ∙ append_assoc (spell.value w) (spell.items ws) b) in
    no_more vs ws a b d hf.1 hv.1 (omega arith) first.1 none

no_items_from : (n i d : ℕ) (front : Items) (bytes rest : List ℕ) → i < n → bytes ≡ spell.items front ++ rest → spell.AreItems i d front → BeginsNone spell.value (spell.IsValueTo d) rest → BeginsNone spell.items (spell.AreItems n d) bytes
no_items_from n i d front bytes rest lt b are none vs after is e =
    no_more front vs rest after d are.values is.values (omega (arith, are.count, is.count)) (sym b ∙ e) none

pub item_misses : (n i d : ℕ) (front : Items) (bytes rest : List ℕ) (m : Miss) → i < n → bytes ≡ spell.items front ++ rest → spell.AreItems i d front → Misses spell.value (spell.IsValueTo d) rest m → Misses spell.items (spell.AreItems n d) bytes m
item_misses n i d front bytes rest m lt b are = misses spell.value (spell.IsValueTo d) rest spell.items (spell.AreItems n d) bytes m (no_items_from n i d front bytes rest lt b are)

values-push : (d : ℕ) (vs : List Val) (v : Val) → spell.AreValuesTo d (items_of vs) → spell.IsValueTo d (value_of v) → spell.AreValuesTo d (items_of (vs ++ v ∷ []))
values-push d [] v h is = (is, tt)
values-push d (w ∷ vs) v h is = (h.0, values-push d vs v h.1 is)

count-push : (vs : List Val) (v : Val) → spell.count (items_of (vs ++ v ∷ [])) ≡ spell.count (items_of vs) + 1
count-push [] v = refl
count-push (w ∷ vs) v = omega (arith, count-push vs v)

pub item_read : (i d : ℕ) (vs new : List Val) (v : Val) (bytes rest after : List ℕ) → new ≡ vs ++ v ∷ [] → bytes ≡ spell.items (items_of vs) ++ rest → spell.AreItems i d (items_of vs) → spell.IsValueTo d (value_of v) → rest ≡ spell.value (value_of v) ++ after
    → record { parts : bytes ≡ spell.items (items_of new) ++ after; read : spell.AreItems (i + 1) d (items_of new) }
item_read i d vs new v bytes rest after n b are is r = record {
  parts = rw (n, items-push, b, r) (sym (append_assoc (spell.items (items_of vs)) (spell.value (value_of v)) after));
  read = rw n (record { count = omega (arith, count-push vs v, are.count); values = values-push d vs v are.values is });
}
