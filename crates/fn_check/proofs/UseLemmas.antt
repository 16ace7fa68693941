-- Where no two items have one name, the first item of a name is the only one.
use Rattle.std.proofs.Common.{◌≡◌, ℕ, Bool, true, false, List, [], ◌∷◌, ◌++◌, Option, Some, None, Result, Ok, Err, refl, ap, sym, subst, ◌∙◌, length}
use Rattle.std.specs.Prelude.{◌&&◌, ◌||◌, not, map, nat_eq, if◌then◌else◌}
use Rattle.std.specs.Str.{bytes_eq}
use Rattle.fn_tree.specs.declared.flow.AskKind.{AskKind}
use Rattle.fn_tree.specs.declared.program.Item.{Item}
use Rattle.fn_tree.specs.declared.program.Item.TheVariants as item
use Rattle.fn_tree.specs.Soundness.{contains, is_distinct, name_of, is_some, is_table, is_helper, any, call_of, spawn_of, or_else, first, called, spawned}
use Rattle.fn_meaning.proofs.SoundExpression.{and_first, and_second}
use Rattle.fn_check.specs.declared.fault.CheckKind.{CheckKind}
use Rattle.fn_check.specs.declared.fault.CheckKind.TheVariants.{Arity}
use Rattle.fn_check.specs.Found.{then_, needs, none}
use Rattle.fn_check.specs.Uses.{declared, takes, table_use, call_use, spawn_use, helper_use}
use Rattle.fn_check.proofs.BoolLemmas.{or_false, first_false, second_false, neither, not_false}
use Rattle.fn_check.proofs.NameLemmas.{same_bytes, distinct_front, names_append}

-- nothing is wrong
abbrev pub ok : Result (Unit {0}) CheckKind → Bool
ok (Ok u) = true
ok (Err fault) = false

pub ok_then : (a : Result (Unit {0}) CheckKind) (b : Unit {0} → Result (Unit {0}) CheckKind) → ok (then_ a b) ≡ (ok a && ok (b tt))
ok_then (Ok u) b = refl
ok_then (Err fault) b = refl

pub ok_needs : (b : Bool) (fault : CheckKind) → ok (needs b fault) ≡ b
ok_needs true fault = refl
ok_needs false fault = refl

-- no two items have one name
abbrev pub Apart : List Item → Type 0
Apart items = is_distinct (map name_of items) ≡ true

-- the test is passed by items of the name alone
abbrev IsOf : List ℕ → (Item → Bool) → Type 0
IsOf name p = (i : Item) → bytes_eq (name_of i) name ≡ false → p i ≡ false

-- the test of the item that is found
abbrev passes : (Item → Bool) → Option Item → Bool
passes p None = false
passes p (Some i) = p i

absent : (name : List ℕ) (p : Item → Bool) → IsOf name p → (items : List Item) → contains (map name_of items) name ≡ false → any p items ≡ false
absent name p of [] e = refl
absent name p of (i ∷ items) e =
    neither (p i) (any p items) (of i (first_false (bytes_eq (name_of i) name) (contains (map name_of items) name) e))
    (absent name p of items (second_false (bytes_eq (name_of i) name) (contains (map name_of items) name) e))

here : (name : List ℕ) (p : Item → Bool) → IsOf name p → (i : Item) (items : List Item) (b : Bool) → bytes_eq (name_of i) name ≡ b → contains (map name_of items) (name_of i) ≡ false → any p items ≡ passes p (declared items name)
    → (p i || any p items) ≡ passes p (if b then Some i else declared items name)
here name p of i items true e none_later later =
    let gone : any p items ≡ false = absent name p of items (subst (λ (n : List ℕ). contains (map name_of items) n ≡ false) (same_bytes (name_of i) name e) none_later) in
    ap (λ (c : Bool). p i || c) gone ∙ or_false (p i)
here name p of i items false e none_later later = ap (λ (c : Bool). c || any p items) (of i e) ∙ later

only_first : (name : List ℕ) (p : Item → Bool) → IsOf name p → (items : List Item) → Apart items → any p items ≡ passes p (declared items name)
only_first name p of [] d = refl
only_first name p of (i ∷ items) d =
    here name p of i items (bytes_eq (name_of i) name) refl (not_false (contains (map name_of items) (name_of i)) (and_first (not (contains (map name_of items) (name_of i))) (is_distinct (map name_of items)) d))
    (only_first name p of items (and_second (not (contains (map name_of items) (name_of i))) (is_distinct (map name_of items)) d))

-- the item that is found has the name
abbrev HasName : List ℕ → Option Item → Type 0
HasName name None = Unit {0}
HasName name (Some i) = bytes_eq (name_of i) name ≡ true

named_by : (name : List ℕ) (i : Item) (o : Option Item) (b : Bool) → bytes_eq (name_of i) name ≡ b → HasName name o → HasName name (if b then Some i else o)
named_by name i o true e h = e
named_by name i o false e h = h

named : (items : List Item) (name : List ℕ) → HasName name (declared items name)
named [] name = tt
named (i ∷ items) name = named_by name i (declared items name) (bytes_eq (name_of i) name) refl (named items name)

-- ---- tables

table_of : (name : List ℕ) → IsOf name (is_table name)
table_of name (item.Table x) e = e
table_of name (item.Queue x bound) e = refl
table_of name (item.Outside x params) e = refl
table_of name (item.Helper x params body) e = refl
table_of name (item.Txn serial x params body) e = refl
table_of name (item.Flow x params body) e = refl

table_passes : (name : List ℕ) (o : Option Item) → HasName name o → ok (table_use o) ≡ passes (is_table name) o
table_passes name None h = refl
table_passes name (Some (item.Table x)) h = sym h
table_passes name (Some (item.Queue x bound)) h = refl
table_passes name (Some (item.Outside x params)) h = refl
table_passes name (Some (item.Helper x params body)) h = refl
table_passes name (Some (item.Txn serial x params body)) h = refl
table_passes name (Some (item.Flow x params body)) h = refl

pub table_agrees : (items : List Item) → Apart items → (name : List ℕ) → ok (table_use (declared items name)) ≡ any (is_table name) items
table_agrees items d name = table_passes name (declared items name) (named items name) ∙ sym (only_first name (is_table name) (table_of name) items d)

-- ---- calls and spawns

some_else : (a b : Option AskKind) → is_some (or_else a b) ≡ (is_some a || is_some b)
some_else (Some k) b = refl
some_else None b = refl

first_any : (q : Item → Option AskKind) (items : List Item) → is_some (first q items) ≡ any (λ i. is_some (q i)) items
first_any q [] = refl
first_any q (i ∷ items) = some_else (q i) (first q items) ∙ ap (λ (b : Bool). is_some (q i) || b) (first_any q items)

other_name : (b c : Bool) (k : AskKind) → b ≡ false → is_some (if b && c then Some k else None) ≡ false
other_name true c k e = absurd cc
other_name false c k e = refl

same_name : (b c : Bool) (k : AskKind) → b ≡ true → ok (needs c Arity) ≡ is_some (if b && c then Some k else None)
same_name true true k e = refl
same_name true false k e = refl
same_name false c k e = absurd cc

call_is_of : (name : List ℕ) (n : ℕ) → IsOf name (λ i. is_some (call_of name n i))
call_is_of name n (item.Table x) e = refl
call_is_of name n (item.Queue x bound) e = refl
call_is_of name n (item.Outside x params) e = other_name (bytes_eq x name) (nat_eq (length params) n) _ e
call_is_of name n (item.Helper x params body) e = refl
call_is_of name n (item.Txn serial x params body) e = other_name (bytes_eq x name) (nat_eq (length params) n) _ e
call_is_of name n (item.Flow x params body) e = refl

call_passes : (name : List ℕ) (n : ℕ) (o : Option Item) → HasName name o → ok (call_use o n) ≡ passes (λ i. is_some (call_of name n i)) o
call_passes name n None h = refl
call_passes name n (Some (item.Table x)) h = refl
call_passes name n (Some (item.Queue x bound)) h = refl
call_passes name n (Some (item.Outside x params)) h = same_name (bytes_eq x name) (nat_eq (length params) n) _ h
call_passes name n (Some (item.Helper x params body)) h = refl
call_passes name n (Some (item.Txn serial x params body)) h = same_name (bytes_eq x name) (nat_eq (length params) n) _ h
call_passes name n (Some (item.Flow x params body)) h = refl

pub call_agrees : (items : List Item) → Apart items → (name : List ℕ) (n : ℕ) → ok (call_use (declared items name) n) ≡ is_some (called items name n)
call_agrees items d name n =
    call_passes name n (declared items name) (named items name) ∙ sym (only_first name (λ i. is_some (call_of name n i)) (call_is_of name n) items d) ∙ sym (first_any (call_of name n) items)

spawn_is_of : (name : List ℕ) (n : ℕ) → IsOf name (λ i. is_some (spawn_of name n i))
spawn_is_of name n (item.Table x) e = refl
spawn_is_of name n (item.Queue x bound) e = refl
spawn_is_of name n (item.Outside x params) e = refl
spawn_is_of name n (item.Helper x params body) e = refl
spawn_is_of name n (item.Txn serial x params body) e = refl
spawn_is_of name n (item.Flow x params body) e = other_name (bytes_eq x name) (nat_eq (length params) n) _ e

spawn_passes : (name : List ℕ) (n : ℕ) (o : Option Item) → HasName name o → ok (spawn_use o n) ≡ passes (λ i. is_some (spawn_of name n i)) o
spawn_passes name n None h = refl
spawn_passes name n (Some (item.Table x)) h = refl
spawn_passes name n (Some (item.Queue x bound)) h = refl
spawn_passes name n (Some (item.Outside x params)) h = refl
spawn_passes name n (Some (item.Helper x params body)) h = refl
spawn_passes name n (Some (item.Txn serial x params body)) h = refl
spawn_passes name n (Some (item.Flow x params body)) h = same_name (bytes_eq x name) (nat_eq (length params) n) _ h

pub spawn_agrees : (items : List Item) → Apart items → (name : List ℕ) (n : ℕ) → ok (spawn_use (declared items name) n) ≡ is_some (spawned items name n)
spawn_agrees items d name n =
    spawn_passes name n (declared items name) (named items name) ∙ sym (only_first name (λ i. is_some (spawn_of name n i)) (spawn_is_of name n) items d) ∙ sym (first_any (spawn_of name n) items)

-- ---- helpers, among the items that may be called

other_helper : (b c : Bool) → b ≡ false → (b && c) ≡ false
other_helper true c e = absurd cc
other_helper false c e = refl

same_helper : (b c : Bool) → b ≡ true → ok (needs c Arity) ≡ (b && c)
same_helper true true e = refl
same_helper true false e = refl
same_helper false c e = absurd cc

helper_is_of : (name : List ℕ) (n : ℕ) → IsOf name (is_helper name n)
helper_is_of name n (item.Table x) e = refl
helper_is_of name n (item.Queue x bound) e = refl
helper_is_of name n (item.Outside x params) e = refl
helper_is_of name n (item.Helper x params body) e = other_helper (bytes_eq x name) (nat_eq (length params) n) e
helper_is_of name n (item.Txn serial x params body) e = refl
helper_is_of name n (item.Flow x params body) e = refl

early_passes : (name : List ℕ) (n : ℕ) (i : Item) → bytes_eq (name_of i) name ≡ true → ok (helper_use (Some i) true n) ≡ is_helper name n i
early_passes name n (item.Table x) h = refl
early_passes name n (item.Queue x bound) h = refl
early_passes name n (item.Outside x params) h = refl
early_passes name n (item.Helper x params body) h = same_helper (bytes_eq x name) (nat_eq (length params) n) h
early_passes name n (item.Txn serial x params body) h = refl
early_passes name n (item.Flow x params body) h = refl

late_fails : (n : ℕ) (o : Option Item) → ok (helper_use o false n) ≡ false
late_fails n None = refl
late_fails n (Some (item.Table x)) = refl
late_fails n (Some (item.Queue x bound)) = refl
late_fails n (Some (item.Outside x params)) = refl
late_fails n (Some (item.Helper x params body)) = refl
late_fails n (Some (item.Txn serial x params body)) = refl
late_fails n (Some (item.Flow x params body)) = refl

abbrev early_or : Option Item → Option Item → Option Item
early_or None o = o
early_or (Some i) o = Some i

early_by : (b : Bool) (i : Item) (a o whole : Option Item) → whole ≡ early_or a o → (if b then Some i else whole) ≡ early_or (if b then Some i else a) o
early_by true i a o whole e = refl
early_by false i a o whole e = e

declared_append : (xs ys : List Item) (name : List ℕ) → declared (xs ++ ys) name ≡ early_or (declared xs name) (declared ys name)
declared_append [] ys name = refl
declared_append (x ∷ xs) ys name = early_by (bytes_eq (name_of x) name) x (declared xs name) (declared ys name) (declared (xs ++ ys) name) (declared_append xs ys name)

helper_passes : (name : List ℕ) (n : ℕ) (a o : Option Item) → HasName name a → ok (helper_use (early_or a o) (is_some a) n) ≡ passes (is_helper name n) a
helper_passes name n None o h = late_fails n o
helper_passes name n (Some i) o h = early_passes name n i h

-- the helpers of these items may be called among all of them
abbrev pub HelpersAgree : List Item → List Item → Type 0
HelpersAgree callable items = (name : List ℕ) (n : ℕ) → ok (helper_use (declared items name) (is_some (declared callable name)) n) ≡ any (is_helper name n) callable

pub helpers_agree : (callable rest : List Item) → Apart (callable ++ rest) → HelpersAgree callable (callable ++ rest)
helpers_agree callable rest d name n =
    ap (λ (o : Option Item). ok (helper_use o (is_some (declared callable name)) n)) (declared_append callable rest name)
    ∙ helper_passes name n (declared callable name) (declared rest name) (named callable name)
    ∙ sym (only_first name (is_helper name n) (helper_is_of name n) callable (distinct_front (map name_of callable) (map name_of rest) (subst (λ (ns : List (List ℕ)). is_distinct ns ≡ true) (names_append callable rest) d)))
