-- What stands in the slots after a chain is cut behind a version.
use Rattle.std.specs.Prelude.{◌≡◌, ◌≢◌, ℕ, ◌+◌, ◌<◌, ◌≤◌, cond, nat_le, List, [], ◌∷◌, length, Option, Some, None}
use Rattle.r3_pool.specs.Slots.{Slots, value_at, live_count}
use Rattle.r3_chain.specs.Links.{Cells, Placed, trace, Ends, visits}
use Rattle.r3_chain.specs.declared.node.Node.{Node}

module _ {V : Type 0} where
  -- the versions past the index, and the last one up to it
  abbrev pub cut_at : ℕ → List (Placed V) → List (Placed V)
  cut_at oldest [] = []
  cut_at oldest (p ∷ ps) = cond (nat_le p.1.0 oldest) (p ∷ []) (p ∷ cut_at oldest ps)

  -- the versions behind that one
  abbrev pub behind : ℕ → List (Placed V) → List (Placed V)
  behind oldest [] = []
  behind oldest (p ∷ ps) = cond (nat_le p.1.0 oldest) ps (behind oldest ps)

  -- the slot, where there are versions behind it
  abbrev pub slot_before : ℕ → List (Placed V) → Option ℕ
  slot_before s [] = None
  slot_before s (p ∷ ps) = Some s

  -- the slot of the last version up to the index, where it has others behind it
  abbrev pub cut_slot : ℕ → List (Placed V) → Option ℕ
  cut_slot oldest [] = None
  cut_slot oldest (p ∷ ps) = cond (nat_le p.1.0 oldest) (slot_before p.0 ps) (cut_slot oldest ps)

  -- a whole chain that comes to each slot once
  pub record IsLine (n : ℕ) (cells : Cells V) (o : Option ℕ) : Type 0 where
    pub ends : Ends n cells o
    pub once : (t : ℕ) → visits t (trace n cells o) ≤ 1

  -- the slots of these versions are free, and no other slot has changed
  pub record Frees (ps : List (Placed V)) (old new : Slots (Node V)) : Type 0 where
    pub gone : (t : ℕ) → 0 < visits t ps → value_at new t ≡ None
    pub others : (t : ℕ) → visits t ps ≡ 0 → value_at new t ≡ value_at old t
    pub live : live_count new + length ps ≡ live_count old
    pub cap : new.cap ≡ old.cap
    pub spare : old.spare ≤ new.spare

  -- the chain, of at most n versions, is cut, and no slot of another has changed
  pub record Trims (n oldest : ℕ) (o : Option ℕ) (old new : Slots (Node V)) : Type 0 where
    pub ends : Ends n (value_at new) o
    pub cut : trace n (value_at new) o ≡ cut_at oldest (trace n (value_at old) o)
    pub others : (t : ℕ) → visits t (trace n (value_at old) o) ≡ 0 → value_at new t ≡ value_at old t
    pub live : live_count new + length (trace n (value_at old) o) ≡ live_count old + length (cut_at oldest (trace n (value_at old) o))
    pub cap : new.cap ≡ old.cap
    pub spare : old.spare ≤ new.spare

  -- the version is the last of its chain, where it was followed by this slot
  pub record EndsAt (s : ℕ) (older : Option ℕ) (old new : Slots (Node V)) : Type 0 where
    pub index : ℕ
    pub value : Option V
    pub was : value_at old s ≡ Some (record { index = index; value = value; older = older })
    pub is : value_at new s ≡ Some (record { index = index; value = value; older = None })
    pub others : (t : ℕ) → t ≢ s → value_at new t ≡ value_at old t
    pub live : live_count new ≡ live_count old
    pub cap : new.cap ≡ old.cap
    pub spare : new.spare ≡ old.spare
