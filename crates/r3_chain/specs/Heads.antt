-- The map from keys to their newest versions: which versions it keeps, and which keys have room.
use Rattle.std.specs.Prelude.{ℕ, Bool, false, cond, ◌||◌, nat_eq, List, [], ◌∷◌, fold, Option, Some, None}
use Rattle.std.specs.declared.cmp.Ordering.{Ordering}
use Rattle.std.specs.FinMap.{find}
use Rattle.std.specs.FinMap.Entries.{put}
use Rattle.r3_chain.specs.Versions.{Version, Versions}
use Rattle.r3_chain.specs.declared.head.Head.{Head}

abbrev pub newest_in : Option Head → Option ℕ
newest_in None = None
newest_in (Some h) = h.newest

-- the key has room in this round
abbrev pub has_round : ℕ → Head → Bool
has_round round h = nat_eq h.round round || nat_eq h.before round

abbrev pub is_marked : ℕ → Option Head → Bool
is_marked round None = false
is_marked round (Some h) = has_round round h

-- the head of a key that is given room in the next round, and keeps what it has in this one
abbrev pub roomed : ℕ → ℕ → Option Head → Head
roomed round next None = record { newest = None; round = next; before = 0 }
roomed round next (Some h) = record { newest = h.newest; round = next; before = cond (nat_eq h.round round) round h.before }

-- the head of a key whose newest version was put into this slot, which used up its room
abbrev pub written : ℕ → Head
written slot = record { newest = Some slot; round = 0; before = 0 }

module _ {K : Type 0} where
  -- the keys that have room in this round
  abbrev pub room_in : ℕ → List (K × Head) → List K
  room_in round [] = []
  room_in round (e ∷ es) = cond (has_round round e.1) (e.0 ∷ room_in round es) (room_in round es)

  -- all the keys are given room
  abbrev pub all_roomed : (K → K → Ordering) → ℕ → ℕ → List K → List (K × Head) → List (K × Head)
  all_roomed cmp round next keys es = fold (λ fs k. put cmp k (roomed round next (find cmp k fs)) fs) es keys

module _ {K V : Type 0} where
  abbrev pub with_versions : K → List (Version V) → Versions K V → Versions K V
  with_versions key [] rest = rest
  with_versions key (v ∷ vs) rest = (key, v ∷ vs) ∷ rest

  -- the keys that have versions, with these
  abbrev pub kept_by : (Option ℕ → List (Version V)) → List (K × Head) → Versions K V
  kept_by chain [] = []
  kept_by chain (e ∷ es) = with_versions e.0 (chain e.1.newest) (kept_by chain es)
