-- The meaning of expressions computes.
use Rattle.std.proofs.Common.{◌≡◌, ℕ, [], ◌∷◌, true, false}
use Rattle.std.specs.Prelude.{codes, pos, negsuc, zero, suc}
use Rattle.std.specs.Fmt.{digits}
use Rattle.r3_value.specs.declared.value.Val.{Val}
use Rattle.r3_value.specs.declared.value.Val.TheVariants as val
use Rattle.fn_tree.specs.declared.expr.Expr.{Expr}
use Rattle.fn_tree.specs.declared.program.Item.{Item}
use Rattle.fn_tree.specs.declared.program.Item.TheVariants as item
use Rattle.fn_tree.specs.Arithmetic.{sum, difference, quotient, negated, type_failure}
use Rattle.fn_tree.specs.Sequences.{joined, length_of, shown, indexed, list_or_size, text_or_size}
use Rattle.fn_tree.specs.Comparison.{equal, truth}
use Rattle.fn_tree.specs.Expression.{End, Gives, Fails, Stuck, evaluated, no_calls, calls_of}
use Rattle.fn_meaning.proofs.Words.{num, quoted, nothing, true_, false_, name, add, sub, div, and_, or_, eq, join, list, index, len, str, neg, helper}
use Rattle.fn_meaning.proofs.ExpressionLemmas.{evaluated_roll}

-- an expression alone, with 10 units
abbrev gives : Expr → End Val
gives e = evaluated no_calls e [] 10 0

-- both operands are evaluated before their kinds are tested
text_less_fault : gives (sub (quoted (codes "a")) (div (num 1) (num 0))) ≡ Fails (codes "zero") 10 5
unfolding quotient difference
text_less_fault = simp evaluated_roll

-- a node counts when its evaluation begins
fault_costs : gives (add (num 1) (div (num 1) (num 0))) ≡ Fails (codes "zero") 10 5
unfolding quotient sum
fault_costs = simp evaluated_roll

one_kind : gives (add (num 1) nothing) ≡ Fails (codes "type") 10 3
unfolding sum type_failure
one_kind = simp evaluated_roll

greatest_and_one : gives (add (num 9223372036854775807) (num 1)) ≡ Fails (codes "overflow") 10 3
unfolding sum
greatest_and_one = simp evaluated_roll

-- the second side isn't evaluated where it can't matter, and must be a Bool where it does
false_and : gives (and_ false_ (div (num 1) (num 0))) ≡ Gives (val.Bool false) 10 2
false_and = simp evaluated_roll

true_and : gives (and_ true_ (num 1)) ≡ Fails (codes "type") 10 3
unfolding truth type_failure
true_and = simp evaluated_roll

null_or : gives (or_ nothing (div (num 1) (num 0))) ≡ Fails (codes "type") 10 2
unfolding type_failure
null_or = simp evaluated_roll

-- the least number by -1
least_by_less_one : gives (div (sub (neg (num 9223372036854775807)) (num 1)) (neg (num 1))) ≡ Fails (codes "overflow") 10 7
unfolding quotient difference negated
least_by_less_one = simp evaluated_roll

-- division rounds toward zero
rounds : gives (div (neg (num 7)) (num 2)) ≡ Gives (val.Int (negsuc 2)) 10 4
unfolding quotient negated
rounds = simp evaluated_roll

abbrev one_two : Expr
one_two = list (num 1 ∷ num 2 ∷ [])

second_of : gives (index one_two (num 1)) ≡ Gives (val.Int (pos 2)) 10 5
unfolding indexed list_or_size
second_of = simp evaluated_roll

first_of : gives (index one_two (num 0)) ≡ Gives (val.Int (pos 1)) 10 5
unfolding indexed list_or_size
first_of = simp evaluated_roll

before_first : gives (index one_two (neg (num 1))) ≡ Fails (codes "index") 10 6
unfolding indexed list_or_size negated
before_first = simp evaluated_roll

third_of : gives (index one_two (num 2)) ≡ Fails (codes "index") 10 5
unfolding indexed list_or_size
third_of = simp evaluated_roll

same_lists : gives (eq one_two one_two) ≡ Gives (val.Bool true) 10 7
unfolding equal list_or_size
same_lists = simp evaluated_roll

other_lists : gives (eq one_two (join one_two one_two)) ≡ Gives (val.Bool false) 10 11
unfolding equal list_or_size joined
other_lists = simp evaluated_roll

length_two : gives (len one_two) ≡ Gives (val.Int (pos 2)) 10 4
unfolding length_of list_or_size
length_two = simp evaluated_roll

-- a text of one letter that has two bytes
length_in_bytes : gives (len (quoted (195 ∷ 169 ∷ []))) ≡ Gives (val.Int (pos 2)) 10 2
unfolding length_of
length_in_bytes = simp evaluated_roll

length_three : gives (len (quoted (codes "abc"))) ≡ Gives (val.Int (pos 3)) 10 2
unfolding length_of
length_three = simp evaluated_roll

joined_texts : gives (join (quoted (codes "k")) (str (num 12))) ≡ Gives (val.Text (codes "k12")) 10 4
unfolding joined shown text_or_size digits
joined_texts = simp evaluated_roll

abbrev nested : ℕ → Expr
nested zero = list []
nested (suc n) = list (nested n ∷ [])

-- 16 lists in one another, and 17
deep_enough : gives (len (nested 15)) ≡ Gives (val.Int (pos 1)) 10 17
unfolding length_of list_or_size
deep_enough = simp evaluated_roll

too_deep : gives (len (nested 16)) ≡ Fails (codes "size") 10 18
unfolding length_of list_or_size
too_deep = simp evaluated_roll

-- the last of equal names counts, and an unbound name is stuck
last_counts : evaluated no_calls (name (codes "x")) ((codes "x", val.Null) ∷ (codes "x", val.Bool true) ∷ []) 10 0 ≡ Gives (val.Bool true) 10 1
last_counts = simp evaluated_roll

unbound : gives (name (codes "x")) ≡ Stuck
unbound = simp evaluated_roll

abbrev double : Item
double = item.Helper (codes "double") (codes "x" ∷ []) (add (name (codes "x")) (name (codes "x")))

abbrev four_times : Item
four_times = item.Helper (codes "four_times") (codes "x" ∷ []) (helper (codes "double") (helper (codes "double") (name (codes "x") ∷ []) ∷ []))

twelve : evaluated (calls_of (double ∷ four_times ∷ [])) (helper (codes "four_times") (num 3 ∷ [])) [] 10 0 ≡ Gives (val.Int (pos 12)) 7 11
unfolding sum
twelve = simp evaluated_roll

-- a helper sees only those before it, and is called with its number of arguments
too_early : evaluated (calls_of (four_times ∷ double ∷ [])) (helper (codes "four_times") (num 3 ∷ [])) [] 10 0 ≡ Stuck
too_early = simp evaluated_roll

no_argument : evaluated (calls_of (double ∷ [])) (helper (codes "double") []) [] 10 0 ≡ Stuck
no_argument = simp evaluated_roll

-- a helper's unit is taken after its arguments were evaluated
argument_first : evaluated (calls_of (double ∷ [])) (helper (codes "double") (div (num 1) (num 0) ∷ [])) [] 0 0 ≡ Fails (codes "zero") 0 4
unfolding quotient
argument_first = simp evaluated_roll

no_unit : evaluated (calls_of (double ∷ [])) (helper (codes "double") (num 1 ∷ [])) [] 0 0 ≡ Fails (codes "budget") 0 2
no_unit = simp evaluated_roll
