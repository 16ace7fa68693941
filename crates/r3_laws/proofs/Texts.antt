-- The texts that the machine makes are within their limits.
use Rattle.std.proofs.Common.{ℕ, zero, suc, inl, ◌≤◌, ◌<◌, [], ◌∷◌, ◌++◌, length, refl, arith, length-append}
use Rattle.std.specs.Prelude.{codes, decimal, IsTrue, slice_index}
use Rattle.std.specs.Str.{is_utf8, IsUtf8, chars}
use Rattle.std.proofs.lemmas.Str.{IsUtf8-from_is_utf8, is_utf8-from_IsUtf8, IsUtf8-append, IsUtf8-from_ascii, IsUtf8-nil}
use Rattle.std.proofs.lemmas.Fmt.{decimal_is_IsNumeral}
use Rattle.std.specs.Char.{digit_value}
use Rattle.std.specs.Str.Parse.{AllDigits}
use lib.Utf8.{encode}
use Rattle.uuid.specs.Text.{hyphenated_text, lower}
use Rattle.uuid.proofs.TextLemmas.{hyphenated_ascii}
use Rattle.sys_flow.specs.Children.{child_id}
use Rattle.r3_entry.specs.Limits.{IsId, IsAnyText}
use Rattle.r3_model.specs.Language.{Text}
use Rattle.r3_model.specs.Names.{made_id, name_uuid}

pub made-utf8 : (n : ℕ) → IsTrue (is_utf8 (made_id n))
unfolding made_id
made-utf8 n =
    is_utf8-from_IsUtf8 (hyphenated_text lower (name_uuid (decimal n))) (IsUtf8-from_ascii (hyphenated_text lower (name_uuid (decimal n))) (hyphenated_ascii lower (name_uuid (decimal n)) (inl refl)))

one-ascii : (c : ℕ) → c < 128 → (i : ℕ) → slice_index (c ∷ []) i < 128
one-ascii c small zero = small
one-ascii c small (suc i) = omega arith

utf8-append : (s t : Text) → IsTrue (is_utf8 s) → IsTrue (is_utf8 t) → IsTrue (is_utf8 (s ++ t))
utf8-append s t a b = is_utf8-from_IsUtf8 (s ++ t) (IsUtf8-append s t (IsUtf8-from_is_utf8 s a) (IsUtf8-from_is_utf8 t b))

digit-small : (c : ℕ) → digit_value c < 10 → c < 128
digit-small c is = grind arith

digits-utf8 : (ds : Text) → AllDigits 10 ds → IsUtf8 ds
digits-utf8 [] all = IsUtf8-nil
digits-utf8 (c ∷ cs) all = IsUtf8-append (c ∷ []) cs (IsUtf8-from_ascii (c ∷ []) (one-ascii c (digit-small c all.0))) (digits-utf8 cs all.1)

decimal-utf8 : (n : ℕ) → n < 1000 → IsTrue (is_utf8 (decimal n))
decimal-utf8 n few = is_utf8-from_IsUtf8 (decimal n) (digits-utf8 (decimal n) (decimal_is_IsNumeral n (omega arith)).0.1)

hyphen-utf8 : IsTrue (is_utf8 (codes "-"))
unfolding is_utf8 chars encode
hyphen-utf8 = refl

-- the ID of a child, if it isn't too long
pub child-fits : (id : Text) (n : ℕ) → IsId id → n < 1000 → length (child_id id n) ≤ 200 → IsId (child_id id n)
child-fits id n is few short =
    let front : IsTrue (is_utf8 (id ++ codes "-")) = utf8-append id (codes "-") is.utf8 hyphen-utf8 in
    record {
      long = omega (arith, length-append (id ++ codes "-") (decimal n), length-append id (codes "-"), is.long);
      short = short;
      utf8 = utf8-append (id ++ codes "-") (decimal n) front (decimal-utf8 n few);
    }

-- ---- the words of failures

pub cancelled-fits : IsAnyText (codes "cancelled")
unfolding is_utf8 chars encode
cancelled-fits = record { long = omega arith; short = omega arith; utf8 = refl }

pub attempts-fits : IsAnyText (codes "attempts")
unfolding is_utf8 chars encode
attempts-fits = record { long = omega arith; short = omega arith; utf8 = refl }

pub unknown-fits : IsAnyText (codes "unknown_id")
unfolding is_utf8 chars encode
unknown-fits = record { long = omega arith; short = omega arith; utf8 = refl }

pub id-fits : IsAnyText (codes "id")
unfolding is_utf8 chars encode
id-fits = record { long = omega arith; short = omega arith; utf8 = refl }

pub conflict-fits : IsAnyText (codes "conflict")
unfolding is_utf8 chars encode
conflict-fits = record { long = omega arith; short = omega arith; utf8 = refl }
