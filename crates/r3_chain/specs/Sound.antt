-- What is true of the fields of chains.
use Rattle.std.specs.Prelude.{◌≡◌, ℕ, ◌+◌, ◌<◌, ◌≤◌, Bool, cond, T, List, [], ◌∷◌, is_some}
use Rattle.std.specs.List.{AllByRecursion}
use Rattle.std.specs.declared.cmp.Ordering.{Ordering}
use Rattle.std.specs.FinMap.Entries.{is_sorted}
use Rattle.r3_pool.specs.Slots.{Slots, value_at, live_count}
use Rattle.r3_chain.specs.Versions.{kept_count, AreFalling}
use Rattle.r3_chain.specs.Links.{trace, visits, chain_in, IsChain}
use Rattle.r3_chain.specs.Heads.{kept_by, has_round}
use Rattle.r3_chain.specs.declared.node.Node.{Node}
use Rattle.r3_chain.specs.declared.head.Head.{Head}

abbrev pub one_if : Bool → ℕ
one_if b = cond b 1 0

-- the sum over the heads of all keys
abbrev pub total : {K : Type 0} → (Head → ℕ) → List (K × Head) → ℕ
total weight [] = 0
total weight (e ∷ es) = weight e.1 + total weight es

-- how many keys have room
abbrev pub room_count : {K : Type 0} → ℕ → List (K × Head) → ℕ
room_count round es = total (λ h. one_if (has_round round h)) es

-- how often the slot is on the chains of all keys
abbrev pub uses : {K V : Type 0} → ℕ → Slots (Node V) → List (K × Head) → ℕ
uses t nodes es = total (λ h. visits t (trace (live_count nodes) (value_at nodes) h.newest)) es

-- a key's chain is whole, newest first, and no later round is named
pub record IsHead {V : Type 0} (nodes : Slots (Node V)) (last : ℕ) (h : Head) : Type 0 where
  pub chain : IsChain nodes h.newest
  pub falling : AreFalling (chain_in nodes h.newest)
  pub round : h.round ≤ last
  pub before : h.before ≤ last

pub record IsSound {K V : Type 0} (cmp : K → K → Ordering) (es : List (K × Head)) (nodes : Slots (Node V)) (cap round last : ℕ) : Type 0 where
  pub sorted : T (is_sorted cmp es)
  pub heads : AllByRecursion (λ e. IsHead nodes last e.1) es
  -- a slot in use is on one chain, once
  pub apart : (t : ℕ) → uses t nodes es ≤ one_if (is_some (value_at nodes t))
  -- and each one is on a chain
  pub count : kept_count (kept_by (chain_in nodes) es) ≡ live_count nodes
  pub room : room_count round es ≤ nodes.spare
  pub limit : nodes.cap ≡ cap
  pub first : 0 < round
  pub rounds : round ≤ last
