-- What the limits of names say of a sound program's items: of its tables, queues, workflows and of what may be called.
use Rattle.std.proofs.Common.{◌≡◌, subst, ℕ, ◌≤◌, ◌<◌, Bool, true, false, List, [], ◌∷◌, ◌++◌, length, Option, Some, None, refl, arith}
use Rattle.std.specs.Prelude.{◌&&◌, ◌||◌, nat_lt, nat_eq, filter_map, if◌then◌else◌, bytes_eq}
use Rattle.std.specs.List.{AllByRecursion}
use Rattle.std.proofs.lemmas.Bool.{and_parts, ltb-true, eqb-true}
use Rattle.std.proofs.lemmas.Slice.Eq.{bytes_eq-Decides}
use Rattle.r3_value.specs.declared.value.Val.{Val}
use Rattle.fn_tree.specs.declared.flow.AskKind.{AskKind}
use Rattle.fn_tree.specs.declared.flow.AskKind.TheVariants as asking
use Rattle.fn_tree.specs.declared.program.Item.{Item}
use Rattle.fn_tree.specs.declared.program.Item.TheVariants as item
use Rattle.fn_tree.specs.Literals.{is_text, item_fits, expr_fits, body_fits, HoldsValues}
use Rattle.fn_tree.specs.Soundness.{IsSound, name_of, params_of, body_names, is_table, any, call_of, spawn_of, or_else, called, spawned, each_passes, is_name, are_names, names_in}
use Rattle.fn_meaning.proofs.SoundExpression.{and_first, and_second}
use Rattle.fn_meaning.proofs.ValueLemmas.{text_utf8}
use Rattle.r3_entry.specs.Limits.{IsName, IsArgs}
use Rattle.r3_model.specs.Language.{Text, Queue}
use Rattle.r3_model.specs.Lawful.{HasArgs}
use Rattle.r3_model.specs.Functions.{queue_of, arity_by, first_some, arity_of}

-- its name is one, and it has few parameters
pub record IsNamed (i : Item) : Type 0 where
  pub name : IsName (name_of i)
  pub few : length (params_of i) ≤ 16

item_text : (i : Item) → item_fits i ≡ true → is_text (name_of i) ≡ true
item_text (item.Table name) e = e
item_text (item.Queue name bound) e = e
item_text (item.Outside name params) e = e
item_text (item.Helper name params body) e = and_first (is_text name) (expr_fits body) e
item_text (item.Txn serial name params body) e = and_first (is_text name) (body_fits body) e
item_text (item.Flow name params body) e = and_first (is_text name) (body_fits body) e

name-fits : (s : Text) → is_name s ≡ true → is_text s ≡ true → IsName s
name-fits s e t =
    let parts = and_parts (nat_lt 0 (length s)) (nat_lt (length s) 65) e in
    let long : 0 < length s = ltb-true 0 (length s) parts.0 in
    let short : length s < 65 = ltb-true (length s) 65 parts.1 in
    record { long = omega (arith, long); short = omega (arith, short); utf8 = text_utf8 s t }

one-named : (i : Item) → are_names (names_in i) ≡ true → nat_lt (length (params_of i)) 17 ≡ true → item_fits i ≡ true → IsNamed i
one-named i e f g =
    let few : length (params_of i) < 17 = ltb-true (length (params_of i)) 17 f in
    record { name = name-fits (name_of i) (and_first (is_name (name_of i)) (are_names (params_of i ++ body_names i)) e) (item_text i g); few = omega (arith, few) }

named-all : (items : List Item) → each_passes (λ i. are_names (names_in i)) items ≡ true → each_passes (λ i. nat_lt (length (params_of i)) 17) items ≡ true → each_passes item_fits items ≡ true → AllByRecursion IsNamed items
named-all [] e f g = tt
named-all (i ∷ items) e f g = (
  one-named i (and_first (are_names (names_in i)) (each_passes (λ i. are_names (names_in i)) items) e) (and_first (nat_lt (length (params_of i)) 17) (each_passes (λ i. nat_lt (length (params_of i)) 17) items) f) (and_first (item_fits i) (each_passes item_fits items) g),
  named-all items (and_second (are_names (names_in i)) (each_passes (λ i. are_names (names_in i)) items) e) (and_second (nat_lt (length (params_of i)) 17) (each_passes (λ i. nat_lt (length (params_of i)) 17) items) f) (and_second (item_fits i) (each_passes item_fits items) g),
)

pub all-named : (items : List Item) → IsSound items → HoldsValues items → AllByRecursion IsNamed items
all-named items sound holds = named-all items sound.names sound.few_params holds

same-name : (x name : Text) → bytes_eq x name ≡ true → x ≡ name
same-name x name e = (bytes_eq-Decides x name).0 e

-- ---- tables

table-of : (i : Item) (table : Text) → IsNamed i → is_table table i ≡ true → IsName table
table-of (item.Table name) table n e = subst IsName (same-name name table e) n.name
table-of (item.Queue name bound) table n e = absurd cc
table-of (item.Outside name params) table n e = absurd cc
table-of (item.Helper name params body) table n e = absurd cc
table-of (item.Txn serial name params body) table n e = absurd cc
table-of (item.Flow name params body) table n e = absurd cc

table-by : (b c : Bool) (table : Text) → (b ≡ true → IsName table) → (c ≡ true → IsName table) → (b || c) ≡ true → IsName table
table-by true c table h g e = h refl
table-by false c table h g e = g e

-- a table that is declared has a name
pub table-named : (items : List Item) → AllByRecursion IsNamed items → (table : Text) → any (is_table table) items ≡ true → IsName table
table-named [] all table e = absurd cc
table-named (i ∷ items) all table e = table-by (is_table table i) (any (is_table table) items) table (table-of i table all.0) (table-named items all.1 table) e

-- ---- queues

pub queues-named : (items : List Item) → AllByRecursion IsNamed items → AllByRecursion (λ (q : Queue). IsName q.name) (filter_map queue_of items)
queues-named [] all = tt
queues-named (item.Queue name bound ∷ items) all = (all.0.name, queues-named items all.1)
queues-named (item.Table name ∷ items) all = queues-named items all.1
queues-named (item.Outside name params ∷ items) all = queues-named items all.1
queues-named (item.Helper name params body ∷ items) all = queues-named items all.1
queues-named (item.Txn serial name params body ∷ items) all = queues-named items all.1
queues-named (item.Flow name params body ∷ items) all = queues-named items all.1

-- ---- workflows

abbrev Arity : Text → Option ℕ → Type 0
Arity name None = Unit {0}
Arity name (Some n) = IsName name × (n ≤ 16)

flow-arity : (b : Bool) (name : Text) (n : ℕ) → (b ≡ true → IsName name) → n ≤ 16 → Arity name (elim b [ true ↦ Some n | false ↦ None ])
flow-arity true name n h few = (h refl, few)
flow-arity false name n h few = tt

arity-one : (i : Item) (name : Text) → IsNamed i → Arity name (arity_by name i)
arity-one (item.Flow x params body) name n = flow-arity (bytes_eq x name) name (length params) (λ e. subst IsName (same-name x name e) n.name) n.few
arity-one (item.Table x) name n = tt
arity-one (item.Queue x bound) name n = tt
arity-one (item.Outside x params) name n = tt
arity-one (item.Helper x params body) name n = tt
arity-one (item.Txn serial x params body) name n = tt

arity-first : (name : Text) (a b : Option ℕ) → Arity name a → Arity name b → Arity name (first_some a b)
arity-first name (Some n) b h g = h
arity-first name None b h g = g

arity-all : (items : List Item) → AllByRecursion IsNamed items → (name : Text) → Arity name (arity_of items name)
arity-all [] all name = tt
arity-all (i ∷ items) all name = arity-first name (arity_by name i) (arity_of items name) (arity-one i name all.0) (arity-all items all.1 name)

pub arity-named : (items : List Item) → AllByRecursion IsNamed items → (name : Text) (n : ℕ) → arity_of items name ≡ Some n → IsName name × (n ≤ 16)
arity-named items all name n e = subst (Arity name) e (arity-all items all name)

-- ---- what may be called or spawned

-- what is asked has a name and at most 16 arguments, and asks with a list of them
pub record IsAsked (name : Text) (n : ℕ) (k : AskKind) : Type 0 where
  pub named : IsName name
  pub few : n ≤ 16
  pub args : (v : Val) → IsArgs v → HasArgs k v

abbrev pub AskedIf : Text → ℕ → Option AskKind → Type 0
AskedIf name n None = Unit {0}
AskedIf name n (Some k) = IsAsked name n k

asked-by : (b : Bool) (name : Text) (n : ℕ) (k : AskKind) → (b ≡ true → IsAsked name n k) → AskedIf name n (if b then Some k else None)
asked-by true name n k h = h refl
asked-by false name n k h = tt

asked-as : (x name : Text) (params : List Text) (n : ℕ) (k : AskKind) → IsName x → length params ≤ 16 → ((v : Val) → IsArgs v → HasArgs k v) → (bytes_eq x name && nat_eq (length params) n) ≡ true → IsAsked name n k
asked-as x name params n k is few args e =
    let many : length params ≡ n = eqb-true (length params) n (and_second (bytes_eq x name) (nat_eq (length params) n) e) in
    record { named = subst IsName (same-name x name (and_first (bytes_eq x name) (nat_eq (length params) n) e)) is; few = omega (arith, few, many); args = args }

call-one : (i : Item) (name : Text) (n : ℕ) → IsNamed i → AskedIf name n (call_of name n i)
call-one (item.Outside x params) name n is =
    asked-by (bytes_eq x name && nat_eq (length params) n) name n asking.Outside (asked-as x name params n asking.Outside is.name is.few (λ v h. h))
call-one (item.Txn serial x params body) name n is =
    asked-by (bytes_eq x name && nat_eq (length params) n) name n asking.Txn (asked-as x name params n asking.Txn is.name is.few (λ v h. h))
call-one (item.Table x) name n is = tt
call-one (item.Queue x bound) name n is = tt
call-one (item.Helper x params body) name n is = tt
call-one (item.Flow x params body) name n is = tt

spawn-one : (i : Item) (name : Text) (n : ℕ) → IsNamed i → AskedIf name n (spawn_of name n i)
spawn-one (item.Flow x params body) name n is =
    asked-by (bytes_eq x name && nat_eq (length params) n) name n asking.Child (asked-as x name params n asking.Child is.name is.few (λ v h. h))
spawn-one (item.Outside x params) name n is = tt
spawn-one (item.Txn serial x params body) name n is = tt
spawn-one (item.Table x) name n is = tt
spawn-one (item.Queue x bound) name n is = tt
spawn-one (item.Helper x params body) name n is = tt

asked-first : (name : Text) (n : ℕ) (a b : Option AskKind) → AskedIf name n a → AskedIf name n b → AskedIf name n (or_else a b)
asked-first name n (Some k) b h g = h
asked-first name n None b h g = g

pub called-named : (items : List Item) → AllByRecursion IsNamed items → (name : Text) (n : ℕ) → AskedIf name n (called items name n)
called-named [] all name n = tt
called-named (i ∷ items) all name n = asked-first name n (call_of name n i) (called items name n) (call-one i name n all.0) (called-named items all.1 name n)

pub spawned-named : (items : List Item) → AllByRecursion IsNamed items → (name : Text) (n : ℕ) → AskedIf name n (spawned items name n)
spawned-named [] all name n = tt
spawned-named (i ∷ items) all name n = asked-first name n (spawn_of name n i) (spawned items name n) (spawn-one i name n all.0) (spawned-named items all.1 name n)
