-- The numbers of a form are those that `number_within` lets through.
use Rattle.std.proofs.Common.{◌≡◌, ℕ, ◌<◌, ◌≤◌, ◌^◌, ◌-◌, true, false, Bool, List, [], ◌∷◌, Option, Some, None, arith, codes, ◌&&◌}
use Rattle.std.specs.Prelude.{nat_le, if◌then◌else◌, ⊤, IfSome, bytes_eq}
use Rattle.std.specs.Option.{option_map}
use Rattle.std.specs.Str.Parse.{digits_value}
use Rattle.r3_words.specs.Numbers.{Text, is_decimal, number_within}
use Rattle.r3_words.specs.Forms.{Form, HasLimits, form_of, gen_of, recover, gen, run, trace, replay, retro, check}

-- a form that isn't there keeps all limits
abbrev pub Limited : Option Form → Type 0
Limited form = IfSome form HasLimits

choice : (b : Bool) (x y : Option Form) → Limited x → Limited y → Limited (if b then x else y)
choice true x y p q = p
choice false x y p q = q

abbrev Between : ℕ → ℕ → Option ℕ → Type 0
Between least most n = IfSome n (λ k. (least ≤ k) × (k ≤ most))

within_if : (least most v : ℕ) (d : Bool) → Between least most (if d && (nat_le least v && nat_le v most) then Some v else None)
within_if least most v d = grind arith

within : (least most : ℕ) (text : Text) → Between least most (number_within least most text)
within least most text = within_if least most (digits_value 10 text) (is_decimal text)

recovers : (a : Text) (n : Option ℕ) → Between 1 1000000 n → Limited (option_map (recover a) n)
recovers a None p = tt {0}
recovers a (Some n) p = p

gens : (n c : Option ℕ) → Between 0 (2 ^ 48 - 1) n → Between 1 100000 c → Limited (gen_of n c)
gens None c p q = tt {0}
gens (Some n) None p q = tt {0}
gens (Some n) (Some c) p q = (omega arith, q.0, q.1)

-- the form of the words keeps them
pub form-limits : (words : List Text) → Limited (form_of words)
form-limits [] = tt {0}
form-limits (word ∷ []) = choice (bytes_eq word (codes "trace")) (Some trace) None (tt {0}) (tt {0})
form-limits (word ∷ a ∷ []) =
    choice (bytes_eq word (codes "run")) _ _ (tt {0}) (choice (bytes_eq word (codes "replay")) _ _ (tt {0})
    (choice (bytes_eq word (codes "check")) _ _ (tt {0}) (tt {0})))
form-limits (word ∷ a ∷ b ∷ []) =
    choice (bytes_eq word (codes "recover")) _ _ (recovers a _ (within 1 1000000 b))
    (choice (bytes_eq word (codes "replay")) _ _ (tt {0}) (choice (bytes_eq word (codes "retro")) _ _ (tt {0})
    (choice (bytes_eq word (codes "gen")) _ _ (gens _ _ (within 0 (2 ^ 48 - 1) a) (within 1 100000 b)) (tt {0}))))
form-limits (word ∷ a ∷ b ∷ c ∷ words) = tt {0}
