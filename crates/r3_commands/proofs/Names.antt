-- What a sound program declares has a short name.
use Rattle.std.proofs.Common.{◌≡◌, ℕ, ◌≤◌, List, [], ◌∷◌, length, Option, Some, None, Bool, true, false, refl, sym, subst, arith}
use Rattle.std.specs.Prelude.{nat_lt, ◌||◌, bytes_eq, filter_map, OnSome}
use Rattle.std.specs.List.{list_any}
use Rattle.std.proofs.lemmas.Bool.{and_parts}
use Rattle.std.proofs.lemmas.Bool.Decides.{nat_tests}
use Rattle.std.proofs.lemmas.Slice.Eq.{bytes_eq-Decides}
use Rattle.fn_tree.specs.declared.program.Item.{Item}
use Rattle.fn_tree.specs.declared.program.Item.TheVariants as item
use Rattle.fn_tree.specs.Declarations.{any, is_table, name_of}
use Rattle.fn_tree.specs.Names.{is_name, are_names, names_in}
use Rattle.fn_tree.specs.Soundness.{IsSound, each_passes}
use Rattle.r3_model.specs.Language.{Text, Queue}
use Rattle.r3_model.specs.Functions.{queue_of, arity_by, arity_of, first_some}

abbrev AllNamed : List Item → Type 0
AllNamed items = each_passes (λ i. are_names (names_in i)) items ≡ true

-- the item has this name
own-name : (i : Item) (t : Text) → bytes_eq (name_of i) t ≡ true → are_names (names_in i) ≡ true → is_name t ≡ true
own-name (item.Table name) t is named =
    subst (λ (n : Text). is_name n ≡ true) ((bytes_eq-Decides name t).0 is) (and_parts (is_name name) (are_names []) named).0
own-name (item.Queue name bound) t is named =
    subst (λ (n : Text). is_name n ≡ true) ((bytes_eq-Decides name t).0 is) (and_parts (is_name name) (are_names []) named).0
own-name (item.Outside name params) t is named =
    subst (λ (n : Text). is_name n ≡ true) ((bytes_eq-Decides name t).0 is) (and_parts (is_name name) _ named).0
own-name (item.Helper name params body) t is named =
    subst (λ (n : Text). is_name n ≡ true) ((bytes_eq-Decides name t).0 is) (and_parts (is_name name) _ named).0
own-name (item.Txn serial name params body) t is named =
    subst (λ (n : Text). is_name n ≡ true) ((bytes_eq-Decides name t).0 is) (and_parts (is_name name) _ named).0
own-name (item.Flow name params body) t is named =
    subst (λ (n : Text). is_name n ≡ true) ((bytes_eq-Decides name t).0 is) (and_parts (is_name name) _ named).0

abbrev has_name : Text → Item → Bool
has_name t i = bytes_eq (name_of i) t

-- some item has this name
pub some-name : (t : Text) (items : List Item) → any (has_name t) items ≡ true → AllNamed items → is_name t ≡ true
some-name t [] found named = absurd cc
some-name t (i ∷ is) found named =
    let parts = and_parts (are_names (names_in i)) (each_passes (λ j. are_names (names_in j)) is) named in
    elim (has_name t i) as (λ b. has_name t i ≡ b → (b || any (has_name t) is) ≡ true → is_name t ≡ true) [
      | true ↦ λ e f. own-name i t e parts.0
      | false ↦ λ e f. some-name t is f parts.1
    ] refl found

is-short : (t : Text) → is_name t ≡ true → length t ≤ 64
is-short t is =
    let short = (and_parts (nat_lt 0 (length t)) (nat_lt (length t) 65) is).1 in grind (arith, nat_tests)

-- ---- of each kind

or-more : (a b c d : Bool) → (a ≡ true → c ≡ true) → (b ≡ true → d ≡ true) → (a || b) ≡ true → (c || d) ≡ true
or-more true b c d one other is = subst (λ (x : Bool). (x || d) ≡ true) (sym (one refl)) refl
or-more false b true d one other is = refl
or-more false b false d one other is = other is

table-name : (t : Text) (i : Item) → is_table t i ≡ true → has_name t i ≡ true
table-name t (item.Table name) is = is
table-name t (item.Queue name bound) is = absurd cc
table-name t (item.Outside name params) is = absurd cc
table-name t (item.Helper name params body) is = absurd cc
table-name t (item.Txn serial name params body) is = absurd cc
table-name t (item.Flow name params body) is = absurd cc

tables-named : (t : Text) (items : List Item) → any (is_table t) items ≡ true → any (has_name t) items ≡ true
tables-named t [] is = is
tables-named t (i ∷ is) found =
    or-more (is_table t i) (any (is_table t) is) (has_name t i) (any (has_name t) is) (table-name t i) (tables-named t is) found

pub short_table : (t : Text) (items : List Item) → IsSound items → any (is_table t) items ≡ true → length t ≤ 64
short_table t items sound found = is-short t (some-name t items (tables-named t items found) sound.names)

abbrev is_queue : Text → Queue → Bool
is_queue t q = bytes_eq q.name t

or-right : (a b : Bool) → b ≡ true → (a || b) ≡ true
or-right true b is = refl
or-right false b is = is

queues-named : (t : Text) (items : List Item) → list_any (is_queue t) (filter_map queue_of items) ≡ true → any (has_name t) items ≡ true
queues-named t [] is = is
queues-named t (item.Queue name bound ∷ is) found =
    or-more (bytes_eq name t) (list_any (is_queue t) (filter_map queue_of is)) (bytes_eq name t) (any (has_name t) is) (λ e. e) (queues-named t is) found
queues-named t (item.Table name ∷ is) found = or-right (bytes_eq name t) (any (has_name t) is) (queues-named t is found)
queues-named t (item.Outside name params ∷ is) found = or-right (bytes_eq name t) (any (has_name t) is) (queues-named t is found)
queues-named t (item.Helper name params body ∷ is) found = or-right (bytes_eq name t) (any (has_name t) is) (queues-named t is found)
queues-named t (item.Txn serial name params body ∷ is) found = or-right (bytes_eq name t) (any (has_name t) is) (queues-named t is found)
queues-named t (item.Flow name params body ∷ is) found = or-right (bytes_eq name t) (any (has_name t) is) (queues-named t is found)

pub short_queue : (t : Text) (items : List Item) → IsSound items → list_any (is_queue t) (filter_map queue_of items) ≡ true → length t ≤ 64
short_queue t items sound found = is-short t (some-name t items (queues-named t items found) sound.names)

flow-name : (t : Text) (n : ℕ) (b : Bool) (m : ℕ) → elim b [ true ↦ Some m | false ↦ None ] ≡ Some n → b ≡ true
flow-name t n true m is = refl
flow-name t n false m is = absurd cc

by-name : (t : Text) (n : ℕ) (i : Item) → arity_by t i ≡ Some n → has_name t i ≡ true
by-name t n (item.Flow x params body) is = flow-name t n (bytes_eq x t) (length params) is
by-name t n (item.Table name) is = absurd cc
by-name t n (item.Queue name bound) is = absurd cc
by-name t n (item.Outside name params) is = absurd cc
by-name t n (item.Helper name params body) is = absurd cc
by-name t n (item.Txn serial name params body) is = absurd cc

flows-named : (t : Text) (n : ℕ) (items : List Item) → arity_of items t ≡ Some n → any (has_name t) items ≡ true
flows-named t n [] is = absurd cc
flows-named t n (i ∷ is) found =
    elim (arity_by t i) as (λ o. arity_by t i ≡ o → first_some o (arity_of is t) ≡ Some n → (has_name t i || any (has_name t) is) ≡ true) [
      | Some m ↦ λ e f. or-more true false (has_name t i) (any (has_name t) is) (λ _. by-name t m i e) (λ z. absurd cc) refl
      | None ↦ λ e f. or-right (has_name t i) (any (has_name t) is) (flows-named t n is f)
    ] refl found

pub short_flow : (t : Text) (n : ℕ) (items : List Item) → IsSound items → arity_of items t ≡ Some n → length t ≤ 64
short_flow t n items sound found = is-short t (some-name t items (flows-named t n items found) sound.names)

pub short_arity : (o : Option ℕ) (t : Text) (items : List Item) → IsSound items → o ≡ arity_of items t → OnSome o (length t ≤ 64)
short_arity None t items sound is = tt
short_arity (Some n) t items sound is = short_flow t n items sound (sym is)
