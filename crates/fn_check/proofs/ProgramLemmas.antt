-- A program has no fault exactly where it is sound.
use Rattle.std.proofs.Common.{◌≡◌, ℕ, ◌+◌, Bool, true, false, List, [], ◌∷◌, ◌++◌, Option, Some, None, Result, Ok, Err, refl, ap, sym, subst, ◌∙◌, length, append-nil}
use Rattle.std.specs.Prelude.{◌&&◌, ◌↔◌, not, map}
use Rattle.std.proofs.lemmas.List.{append_assoc}
use Rattle.fn_tree.specs.declared.program.Item.{Item}
use Rattle.fn_tree.specs.declared.program.Item.TheVariants as item
use Rattle.fn_tree.specs.Soundness.{contains, is_distinct, name_of, params_of, is_some, OfTxn, OfFlow, item_is_sound, items_are_sound, IsSound}
use Rattle.fn_meaning.proofs.SoundExpression.{and_first, and_second}
use Rattle.fn_check.specs.declared.fault.CheckKind.{CheckKind}
use Rattle.fn_check.specs.declared.fault.CheckKind.TheVariants.{DuplicateName}
use Rattle.fn_check.specs.Found.{then_, needs, none}
use Rattle.fn_check.specs.Uses.{declared}
use Rattle.fn_check.specs.FirstFault.{inside_check, item_check, fault_or, fault_after, first_fault, IsReadable}
use Rattle.fn_check.proofs.BoolLemmas.{and_same, not_false, not_true}
use Rattle.fn_check.proofs.NameLemmas.{distinct_last, distinct_middle, names_append, declared_is}
use Rattle.fn_check.proofs.UseLemmas.{ok, ok_then, ok_needs, Apart, HelpersAgree, helpers_agree}
use Rattle.fn_check.proofs.ExpressionLemmas.{expr_agrees}
use Rattle.fn_check.proofs.StatementLemmas.{body_agrees}

abbrev is_none : Option (ℕ × CheckKind) → Bool
is_none None = true
is_none (Some f) = false

none_is : (o : Option (ℕ × CheckKind)) → is_none o ≡ true → o ≡ None
none_is None e = refl
none_is (Some f) e = absurd cc

none_or : (n : ℕ) (r : Result (Unit {0}) CheckKind) (later : Option (ℕ × CheckKind)) → is_none (fault_or n r later) ≡ (ok r && is_none later)
none_or n (Ok u) later = refl
none_or n (Err fault) later = refl

inside_agrees : (before items : List Item) (i : Item) → Apart items → HelpersAgree before items → ok (inside_check before items i) ≡ item_is_sound before items i
inside_agrees before items (item.Table name) d agree = refl
inside_agrees before items (item.Queue name bound) d agree = refl
inside_agrees before items (item.Outside name params) d agree = refl
inside_agrees before items (item.Helper name params body) d agree = expr_agrees before items agree body params
inside_agrees before items (item.Txn serial name params body) d agree = body_agrees items OfTxn d params body
inside_agrees before items (item.Flow name params body) d agree = body_agrees items OfFlow d params body

module _ (before items : List Item) (i : Item) where
  abbrev again : Bool
  again = is_some (declared before (name_of i))

  abbrev parts : Result (Unit {0}) CheckKind
  parts = then_ (needs (is_distinct (params_of i)) DuplicateName) (λ u. inside_check before items i)

  item_ok : ok (item_check before items i) ≡ (not again && ok parts)
  item_ok = ok_then (needs (not again) DuplicateName) (λ u. parts) ∙ ap (λ (b : Bool). b && ok parts) (ok_needs (not again) DuplicateName)

  item_agrees : (rest : List Item) → before ++ i ∷ rest ≡ items → Apart items → ok (item_check before items i) ≡ (is_distinct (params_of i) && item_is_sound before items i)
  item_agrees rest same d =
      let whole : Apart (before ++ i ∷ rest) = subst Apart (sym same) d in
      let new : again ≡ false = declared_is before (name_of i) ∙ distinct_middle (map name_of before) (map name_of rest) (name_of i) (subst (λ (ns : List (List ℕ)). is_distinct ns ≡ true) (names_append before (i ∷ rest)) whole) in
      let agree : HelpersAgree before items = subst (λ (xs : List Item). HelpersAgree before xs) same (helpers_agree before (i ∷ rest) whole) in
      item_ok
      ∙ ap (λ (b : Bool). b && ok parts) (not_true again new)
      ∙ ok_then (needs (is_distinct (params_of i)) DuplicateName) (λ u. inside_check before items i)
      ∙ and_same (ok (needs (is_distinct (params_of i)) DuplicateName)) (is_distinct (params_of i)) (ok (inside_check before items i)) (item_is_sound before items i) (ok_needs (is_distinct (params_of i)) DuplicateName) (inside_agrees before items i d agree)

  -- an item without a fault has a new name
  one_more : Apart before → ok (item_check before items i) ≡ true → Apart (before ++ i ∷ [])
  one_more d e =
      let new : again ≡ false = not_false again (and_first (not again) (ok parts) (sym item_ok ∙ e)) in
      subst (λ (ns : List (List ℕ)). is_distinct ns ≡ true) (sym (names_append before (i ∷ []))) (distinct_last (map name_of before) (name_of i) d (sym (declared_is before (name_of i)) ∙ new))

items_agree : (before rest items : List Item) → before ++ rest ≡ items → Apart items → is_none (fault_after before items rest) ≡ items_are_sound before items rest
items_agree before [] items same d = refl
items_agree before (i ∷ rest) items same d =
    none_or (length before + 1) (item_check before items i) (fault_after (before ++ i ∷ []) items rest)
    ∙ and_same (ok (item_check before items i)) (is_distinct (params_of i) && item_is_sound before items i) (is_none (fault_after (before ++ i ∷ []) items rest)) (items_are_sound (before ++ i ∷ []) items rest)
    (item_agrees before items i rest same d) (items_agree (before ++ i ∷ []) rest items (append_assoc before (i ∷ []) rest ∙ same) d)

apart_after : (before rest items : List Item) → Apart before → is_none (fault_after before items rest) ≡ true → Apart (before ++ rest)
apart_after before [] items d e = subst Apart (sym (append-nil before)) d
apart_after before (i ∷ rest) items d e =
    let both : (ok (item_check before items i) && is_none (fault_after (before ++ i ∷ []) items rest)) ≡ true = sym (none_or (length before + 1) (item_check before items i) (fault_after (before ++ i ∷ []) items rest)) ∙ e in
    subst Apart (append_assoc before (i ∷ []) rest)
    (apart_after (before ++ i ∷ []) rest items (one_more before items i d (and_first (ok (item_check before items i)) (is_none (fault_after (before ++ i ∷ []) items rest)) both))
    (and_second (ok (item_check before items i)) (is_none (fault_after (before ++ i ∷ []) items rest)) both))

pub sound_if : (items : List Item) → IsReadable items → first_fault items ≡ None → IsSound items
sound_if items readable e =
    let clean : is_none (fault_after [] items items) ≡ true = ap is_none e in
    let apart : Apart items = apart_after [] items items refl clean in
    record { distinct = apart; bodies = sym (items_agree [] items items refl apart) ∙ clean; names = readable.names; few_params = readable.few_params }

pub only_if : (items : List Item) → IsSound items → first_fault items ≡ None
only_if items sound = none_is (first_fault items) (items_agree [] items items refl sound.distinct ∙ sound.bodies)

-- a program has no fault exactly where it is sound
pub no_fault_is_sound : (items : List Item) → IsReadable items → (first_fault items ≡ None) ↔ IsSound items
no_fault_is_sound items readable = (sound_if items readable, only_if items)
