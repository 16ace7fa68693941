-- Blocks, loops and handlers, over what their parts do.
use Rattle.r3_value.specs.declared.value.Outcome.{Outcome}
use Rattle.r3_value.specs.declared.value.Outcome.TheVariants.{Value, Failure}
use Rattle.r3_value.specs.declared.value.Val.{Val}
use Rattle.r3_value.specs.declared.value.Val.TheVariants.{Text}
use Rattle.std.specs.Prelude.{ℕ, zero, suc, Bool, true, false, List, [], ◌∷◌, length, codes, Option, Some, None, if◌then◌else◌}
use Rattle.fn_tree.specs.Evaluation.{End, Gives, Fails, Stuck as NoEnd}
use Rattle.fn_tree.specs.Ends.{At, Ends, Goes, Returns, Failed, Asks, Stuck, and_then, bind, cut, is_caught, Act}

module _ {Q W : Type 0} where
  -- the end of an expression, as that of a part of a body
  abbrev pub ended : {A : Type 0} → At W → End A → Ends Q W A
  ended at (Gives a units cost) = Goes a (record at { units = units; cost = cost })
  ended at (Fails word units cost) = Failed word (record at { units = units; cost = cost })
  ended at NoEnd = Stuck

  abbrev pub taken : Outcome → At W → Ends Q W Val
  taken (Value v) at = Goes v at
  taken (Failure word) at = Failed word at

  abbrev pub text_or_type : Option (List ℕ) → At W → Ends Q W (List ℕ)
  text_or_type (Some t) at = Goes t at
  text_or_type None at = Failed (codes "type") at

  abbrev pub bool_or_type : Option Bool → At W → Ends Q W Bool
  bool_or_type (Some b) at = Goes b at
  bool_or_type None at = Failed (codes "type") at

  abbrev pub list_or_type : Option (List Val) → At W → Ends Q W (List Val)
  list_or_type (Some vs) at = Goes vs at
  list_or_type None at = Failed (codes "type") at

  -- takes one unit
  abbrev pub one_unit_less : ℕ → At W → Act Q W → Ends Q W (Unit {0})
  one_unit_less zero at go = Failed (codes "budget") at
  one_unit_less (suc units) at go = go (record at { units = units })

  abbrev pub with_unit : Act Q W → Act Q W
  with_unit go at = one_unit_less at.units at go

  -- the bindings past the first n end here
  abbrev pub closed : ℕ → Ends Q W (Unit {0}) → Ends Q W (Unit {0})
  closed n (Goes a at) = Goes a (cut n at)
  closed n (Returns v at) = Returns v at
  closed n (Failed word at) = Failed word (cut n at)
  closed n (Asks q at next) = Asks q at (λ o. closed n (next o))
  closed n Stuck = Stuck

  -- statements, one after another
  abbrev pub in_order : List (Act Q W) → Act Q W
  in_order [] at = Goes tt at
  in_order (s ∷ rest) at = and_then (s at) (λ u. in_order rest)

  -- a block, whose bindings end with it
  abbrev pub block : List (Act Q W) → Act Q W
  block body at = closed (length at.env) (in_order body at)

  -- a block in which a name is bound first
  abbrev pub block_with : List ℕ → Val → List (Act Q W) → Act Q W
  block_with name v body at = closed (length at.env) (in_order body (bind name v at))

  abbrev pub chosen : Bool → Act Q W → Act Q W → Act Q W
  chosen true first second at = first at
  chosen false first second at = second at

  -- At most n turns. Each takes a unit, so n above the units left is no bound.
  abbrev pub turns : ℕ → (At W → Ends Q W Bool) → Act Q W → Act Q W
  turns zero test body at = Failed (codes "budget") at
  turns (suc n) test body at =
      and_then (test at) (λ b. chosen b (with_unit (λ at. and_then (body at) (λ u. turns n test body))) (Goes tt))

  -- the body for each item
  abbrev pub for_each : List Val → List ℕ → List (Act Q W) → Act Q W
  for_each [] name body at = Goes tt at
  for_each (v ∷ vs) name body at = and_then (with_unit (block_with name v body) at) (λ u. for_each vs name body)

  abbrev pub caught : List ℕ → List (Act Q W) → Ends Q W (Unit {0}) → Ends Q W (Unit {0})
  caught name handler (Failed word at) = if is_caught word then block_with name (Text word) handler at else Failed word at
  caught name handler (Goes a at) = Goes a at
  caught name handler (Returns v at) = Returns v at
  caught name handler (Asks q at next) = Asks q at (λ o. caught name handler (next o))
  caught name handler Stuck = Stuck

  abbrev pub block_or_nothing : Option (List (Act Q W)) → Act Q W
  block_or_nothing None at = Goes tt at
  block_or_nothing (Some body) at = block body at
