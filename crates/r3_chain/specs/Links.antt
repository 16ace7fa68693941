-- Version chains in a slab, where each version names the slot of the next older one.
use Rattle.std.specs.Prelude.{◌≡◌, ℕ, ◌+◌, zero, suc, cond, nat_eq, List, [], ◌∷◌, map, Option, Some, None, option_and_then, ⊤}
use Rattle.r3_pool.specs.Slots.{Slots, value_at, live_count}
use Rattle.r3_chain.specs.Versions.{Version}
use Rattle.r3_chain.specs.declared.node.Node.{Node}

-- what each slot holds
abbrev pub Cells : Type 0 → Type 0
Cells V = ℕ → Option (Node V)

-- a slot, and the version in it
abbrev pub Placed : Type 0 → Type 0
Placed V = ℕ × Version V

module _ {V : Type 0} where
  abbrev pub onto : Option ℕ → Option (Node V) → (Option ℕ → List (Placed V)) → List (Placed V)
  onto None _ rest = []
  onto (Some s) None rest = []
  onto (Some s) (Some node) rest = (s, (node.index, node.value)) ∷ rest node.older

  -- the versions from a slot on with their slots, the newest first, at most so many
  abbrev pub trace : ℕ → Cells V → Option ℕ → List (Placed V)
  trace zero cells o = []
  trace (suc n) cells o = onto o (option_and_then cells o) (trace n cells)

  abbrev pub ends_with : Option ℕ → Option (Node V) → (Option ℕ → Type 0) → Type 0
  ends_with None _ P = ⊤
  ends_with (Some s) None P = ⊥
  ends_with (Some s) (Some node) P = P node.older

  -- each slot on the way is in use, and there are at most so many
  abbrev pub Ends : ℕ → Cells V → Option ℕ → Type 0
  Ends zero cells o = o ≡ None
  Ends (suc n) cells o = ends_with o (option_and_then cells o) (Ends n cells)

  abbrev pub versions_in : List (Placed V) → List (Version V)
  versions_in ps = map (λ p. p.1) ps

  abbrev pub chain_from : ℕ → Cells V → Option ℕ → List (Version V)
  chain_from n cells o = versions_in (trace n cells o)

  -- how often the slot is on the way
  abbrev pub visits : ℕ → List (Placed V) → ℕ
  visits t [] = 0
  visits t (p ∷ ps) = cond (nat_eq p.0 t) 1 0 + visits t ps

  -- the versions from a slot on, of which there are at most as many as slots in use
  abbrev pub chain_in : Slots (Node V) → Option ℕ → List (Version V)
  chain_in nodes o = chain_from (live_count nodes) (value_at nodes) o

  abbrev pub IsChain : Slots (Node V) → Option ℕ → Type 0
  IsChain nodes o = Ends (live_count nodes) (value_at nodes) o
