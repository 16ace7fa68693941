-- A loop without an end takes all units, however many there are, and no `try` catches that.
use Rattle.std.proofs.Common.{◌≡◌, ℕ, zero, suc, ◌+◌, true, List, [], ◌∷◌, Some, ap, ◌∙◌, arith}
use Rattle.std.specs.Prelude.{Bool, codes, pos, map}
use Rattle.r3_value.specs.View.{items_of}
use Rattle.r3_value.specs.declared.value.Val.TheVariants as val
use Rattle.r3_value.specs.declared.value.Outcome.TheVariants.{Failure}
use Rattle.fn_tree.specs.declared.flow.Request.{Request}
use Rattle.fn_tree.specs.declared.flow.FlowEnd.TheVariants as flow
use Rattle.fn_tree.specs.declared.program.Item.{Item}
use Rattle.fn_tree.specs.declared.program.Item.TheVariants as item
use Rattle.fn_tree.specs.declared.stmt.Stmt.{Stmt}
use Rattle.fn_tree.specs.declared.stmt.Stmt.TheOpen.{Stmt-F}
use Rattle.fn_tree.specs.Expression.{Calls, calls_of}
use Rattle.fn_tree.specs.Ends.{At, Ends, Effects, Goes, Failed, Act, and_then}
use Rattle.fn_tree.specs.Control.{turns, block, closed, in_order, caught, chosen, with_unit}
use Rattle.fn_tree.specs.Statement.{condition, acted}
use Rattle.fn_tree.specs.Flow.{Left, on_asks, answered, flow_meaning}
use Rattle.fn_meaning.proofs.Words.{true_, while_, try_, return_, name, num}
use Rattle.fn_meaning.proofs.ExpressionLemmas.{evaluated_roll}
use Rattle.fn_meaning.proofs.StatementLemmas.{acted_roll}

abbrev spins : Stmt
spins = while_ true_ []

abbrev word : List ℕ
word = codes "w"

abbrev handler : List Stmt
handler = return_ (name word) ∷ []

-- flow spin(m) { try { while true { } } catch w { return w; } return 0; }
abbrev spin : Item
spin = item.Flow (codes "spin") (codes "m" ∷ []) (try_ (spins ∷ []) word handler ∷ return_ (num 0) ∷ [])

abbrev effects : Effects Request ℕ
effects = on_asks (spin ∷ [])

abbrev calls : Calls
calls = calls_of (spin ∷ [])

abbrev place : (units cost : ℕ) → At ℕ
place units cost = record { env = (codes "m", val.Int (pos 1)) ∷ []; world = 0; units = units; cost = cost }

abbrev spent : ℕ → Left (Unit {0})
spent cost = Failed (codes "budget") (place 0 cost)

abbrev test : At ℕ → Ends Request ℕ Bool
test = condition effects calls true_

abbrev turn : ℕ → Bool → Act Request ℕ
turn n b = chosen b (with_unit (λ at. and_then (block [] at) (λ u. turns n test (block [])))) (Goes tt)

true_is_true : (units cost : ℕ) → test (place units cost) ≡ Goes true (place units (suc cost))
true_is_true units cost = simp evaluated_roll

-- a turn takes a unit and evaluates the test, and the last test finds none left
all_turns : (n cost : ℕ) → turns (suc n) test (block []) (place n cost) ≡ spent (cost + suc n)
all_turns zero cost =
    let same : suc cost ≡ cost + 1 = omega arith in
    ap (λ d. and_then d (turn 0)) (true_is_true 0 cost) ∙ ap spent same
all_turns (suc n) cost =
    let same : suc cost + suc n ≡ cost + suc (suc n) = omega arith in
    ap (λ d. and_then d (turn (suc n))) (true_is_true (suc n) cost) ∙ all_turns n (suc cost) ∙ ap spent same

loop_is_spent : acted effects calls spins (place 100000 0) ≡ spent 100001
loop_is_spent = acted_roll effects calls (Stmt-F.While true_ []) (place 100000 0) ∙ all_turns 100000 0

-- `try` doesn't catch `budget`
try_is_spent : acted effects calls (try_ (spins ∷ []) word handler) (place 100000 0) ≡ spent 100001
try_is_spent =
    acted_roll effects calls (Stmt-F.Try (spins ∷ []) word handler) (place 100000 0)
    ∙ ap (λ d. caught word (map (acted effects calls) handler) (closed 1 (and_then d (λ u. in_order [])))) loop_is_spent

-- after 100,000 turns
spin_is_spent : flow_meaning (spin ∷ []) (codes "spin") (val.List (items_of (val.Int (pos 1) ∷ []))) [] ≡ Some (record { run = flow.Done (Failure (codes "budget")); cost = 100001 })
spin_is_spent = ap (λ d. answered (and_then d (λ u. in_order (acted effects calls (return_ (num 0)) ∷ []))) []) try_is_spent
