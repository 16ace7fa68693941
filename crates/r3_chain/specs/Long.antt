-- The list of the versions that have older ones behind them, which a trim goes through.
use Rattle.std.specs.Prelude.{◌≡◌, ℕ, ◌+◌, ◌<◌, ◌≤◌, cond, nat_eq, List, [], ◌∷◌, ◌++◌, length, Option, Some, None, IsSome, ⊤}
use Rattle.r3_pool.specs.Slots.{Slots, value_at, live_count}
use Rattle.std.specs.declared.cmp.Ordering.{Ordering}
use Rattle.r3_chain.specs.Links.{trace, visits}
use Rattle.r3_chain.specs.Sound.{IsSound, total, room_count}
use Rattle.r3_chain.specs.declared.node.Node.{Node}
use Rattle.r3_chain.specs.declared.head.Head.{Head}

-- how often the slot is in the list
abbrev pub times : ℕ → List ℕ → ℕ
times t [] = 0
times t (s ∷ ss) = cond (nat_eq s t) 1 0 + times t ss

-- the list, with this version at its end where it has an older one
abbrev pub listed : ℕ → Option ℕ → List ℕ → List ℕ
listed s None ss = ss
listed s (Some t) ss = ss ++ s ∷ []

module _ {V : Type 0} where
  abbrev pub older_in : Option (Node V) → Option ℕ
  older_in None = None
  older_in (Some node) = node.older

  -- the slot of the version behind this one
  abbrev pub older_at : Slots (Node V) → ℕ → Option ℕ
  older_at nodes s = older_in (value_at nodes s)

  -- none comes before the version behind it
  abbrev pub InOrder : Slots (Node V) → List ℕ → Type 0
  InOrder nodes [] = ⊤
  InOrder nodes (s ∷ ss) = ((t : ℕ) → older_at nodes s ≡ Some t → times t ss ≡ 0) × InOrder nodes ss

  -- how often the slot is on the chains of all keys, at most n versions long
  abbrev pub uses_by : {K : Type 0} → ℕ → Slots (Node V) → ℕ → List (K × Head) → ℕ
  uses_by n nodes t es = total (λ h. visits t (trace n (value_at nodes) h.newest)) es

  -- the list has each version on these chains that has an older one behind it, once and after that one
  pub record IsLong {K : Type 0} (n : ℕ) (nodes : Slots (Node V)) (es : List (K × Head)) (long : List ℕ) : Type 0 where
    pub once : (t : ℕ) → times t long ≤ uses_by n nodes t es
    pub all : (t : ℕ) → 0 < uses_by n nodes t es → IsSome (older_at nodes t) → 0 < times t long
    pub order : InOrder nodes long

-- all that is true of the fields of chains
pub record IsWhole {K V : Type 0} (cmp : K → K → Ordering) (es : List (K × Head)) (nodes : Slots (Node V)) (cap round last : ℕ) (ss : List ℕ) (capacity : ℕ) : Type 0 where
  pub sound : IsSound cmp es nodes cap round last
  pub long : IsLong (live_count nodes) nodes es ss
  -- a version of each key that has room may be added to the list
  pub fits : length ss + room_count round es ≤ capacity
