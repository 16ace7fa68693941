-- What a transaction records of its reads.
use Rattle.fn_tree.specs.declared.look.Look.{Look}
use Rattle.std.specs.Prelude.{ℕ, ◌+◌, Bool, false, ◌&&◌, ◌||◌, List, [], ◌∷◌, ◌++◌, length, codes, Option, Some, None, nat_lt, if◌then◌else◌}
use Rattle.std.specs.Str.{bytes_eq}
use Rattle.fn_tree.specs.declared.look.Look.TheVariants as look
use Rattle.fn_tree.specs.Ends.{At, Ends, Failed}
use Rattle.fn_tree.specs.Writes.{Log, Never}

-- the number of read items of a look: 1, and for a range 1 more for each key
abbrev pub items_of_look : Look → ℕ
items_of_look (look.At table key version) = 1
items_of_look (look.Range table lo hi keys) = 1 + length keys

abbrev pub read_items : List Look → ℕ
read_items [] = 0
read_items (l ∷ ls) = items_of_look l + read_items ls

abbrev pub same_place : Look → Look → Bool
same_place (look.At t k v) (look.At t' k' v') = bytes_eq t t' && bytes_eq k k'
same_place (look.Range t lo hi ks) (look.Range t' lo' hi' ks') = bytes_eq t t' && bytes_eq lo lo' && bytes_eq hi hi'
same_place _ _ = false

abbrev pub contains_look : List Look → Look → Bool
contains_look [] l = false
contains_look (m ∷ ms) l = same_place m l || contains_look ms l

-- Records a look, once. One that would make more than 4,096 read items fails and isn't recorded.
abbrev pub with_look : {A : Type 0} → Look → At Log → (At Log → Ends Never Log A) → Ends Never Log A
with_look l at go =
    if contains_look at.world.looks l then go at
    else if nat_lt 4096 (read_items at.world.looks + items_of_look l) then Failed (codes "size") at
    else go (record at { world = record { looks = at.world.looks ++ l ∷ []; writes = at.world.writes } })

-- a key is a text of 1 to 256 bytes
abbrev pub fits_key : List ℕ → Bool
fits_key [] = false
fits_key (b ∷ bs) = nat_lt (length bs) 256

abbrev pub fits_bound : List ℕ → Bool
fits_bound bs = nat_lt (length bs) 257

-- goes on with a text that passes the test: else `type` where it is none, and `size` where it doesn't
abbrev pub with_text : {A : Type 0} → (List ℕ → Bool) → Option (List ℕ) → At Log → (List ℕ → Ends Never Log A) → Ends Never Log A
with_text fits None at go = Failed (codes "type") at
with_text fits (Some t) at go = if fits t then go t else Failed (codes "size") at
