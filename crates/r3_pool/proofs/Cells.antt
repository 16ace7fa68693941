-- One cell of a pool is filled or emptied.
use Rattle.std.proofs.Common.{◌≡◌, ◌≢◌, ℕ, ◌+◌, ◌-◌, ◌<◌, ◌≤◌, List, [], ◌∷◌, ◌++◌, length, take, set, get_or, Option, Some, None, is_some, IsSome, true, false, cond, refl, ap, sym, ◌∙◌, arith, suc, zero, length-append}
use Rattle.std.specs.List.{count_by}
use Rattle.std.proofs.lemmas.List.{get_or-set_other, get_or-set_same, get_or_append_left, get_or_past, length-set}
use Rattle.std.proofs.lemmas.List.Sums.{sum_by-set, sum_by_push}
use Rattle.std.proofs.Math.Seq.{get_or-append_seam, take-append_seam}
use Rattle.r3_pool.specs.Slots.{Slots, Fills, Empties, set_cell}
use Rattle.r3_pool.specs.SlotLaws.{set_cell_here, set_cell_other}
use Rattle.r3_pool.specs.Sound.{IsSound}

module _ {T : Type 0} where
  pub set_cell_within : (xs : List (Option T)) (i : ℕ) (c : Option T) → i < length xs → set_cell xs i c ≡ set xs i c
  set_cell_within [] i c h = absurd (omega arith)
  set_cell_within (x ∷ xs) zero c h = refl
  set_cell_within (x ∷ xs) (suc i) c h = ap (λ ys. x ∷ ys) (set_cell_within xs i c (omega arith))

  pub set_cell_at_end : (xs : List (Option T)) (c : Option T) → set_cell xs (length xs) c ≡ xs ++ c ∷ []
  set_cell_at_end [] c = refl
  set_cell_at_end (x ∷ xs) c = ap (λ ys. x ∷ ys) (set_cell_at_end xs c)

  abbrev weight : Option T → ℕ
  weight c = cond (is_some c) 1 0

  count_filled : (cells : List (Option T)) (s : ℕ) (x : T) → s < length cells → get_or cells s None ≡ None
      → count_by is_some (set cells s (Some x)) ≡ count_by is_some cells + 1
  count_filled cells s x within none =
      let k : count_by is_some (set cells s (Some x)) + weight (get_or cells s None) ≡ count_by is_some cells + 1 =
      sum_by-set weight cells s (Some x) None within in
      let z : weight (get_or cells s None) ≡ 0 = ap weight none in
      omega arith

  count_emptied : (cells : List (Option T)) (s : ℕ) → s < length cells → IsSome (get_or cells s None)
      → count_by is_some (set cells s None) + 1 ≡ count_by is_some cells
  count_emptied cells s within some =
      let k : count_by is_some (set cells s None) + weight (get_or cells s None) ≡ count_by is_some cells + 0 =
      sum_by-set weight cells s None None within in
      let z : weight (get_or cells s None) ≡ 1 = rw some refl in
      omega arith

  -- the slot freed last is filled
  pub sound_put : (cells : List (Option T)) (freed rest : List ℕ) (most spare a b c s : ℕ) (x : T)
      → freed ≡ rest ++ s ∷ [] → 0 < spare → c ≡ b → IsSound cells freed most spare a b → IsSound (set cells s (Some x)) rest most (spare - 1) a c
  sound_put cells freed rest most spare a b c s x e some still h =
      let n : length freed ≡ length rest + 1 = rw e (length-append rest (s ∷ [])) in
      let last : get_or freed (length rest) 0 ≡ s = rw e (get_or-append_seam rest s [] 0) in
      let old : (i : ℕ) → i < length rest → get_or freed i 0 ≡ get_or rest i 0 = λ i p. rw e (get_or_append_left rest (s ∷ []) 0 i p) in
      let within : s < length cells = rw (← last) (h.used (length rest) (omega arith)) in
      let none : get_or cells s None ≡ None = rw (← last) (h.empty (length rest) (omega arith)) in
      let apart : (i : ℕ) → i < length rest → get_or rest i 0 ≢ s = λ i p q. h.distinct i (length rest) p (omega arith) (old i p ∙ q ∙ sym last) in
      let count : count_by is_some (set cells s (Some x)) ≡ count_by is_some cells + 1 = count_filled cells s x within none in
      let same : length (set cells s (Some x)) ≡ length cells = length-set cells s (Some x) in
      record {
        used = λ i p. rw (same, ← old i p) (h.used i (omega arith));
        empty = λ i p. get_or-set_other cells s (get_or rest i 0) (Some x) None (apart i p) ∙ rw (← old i p) (h.empty i (omega arith));
        distinct = λ i j p q r. h.distinct i j p (omega arith) (old i (omega arith) ∙ r ∙ sym (old j q));
        full = omega (arith, h.full);
        within = omega (arith, h.within);
        small = h.small;
        kept = omega (arith, h.kept);
        cells_room = omega (arith, h.cells_room);
        freed_room = omega (arith, h.freed_room);
      }

  pub put_again : (cells : List (Option T)) (freed rest : List ℕ) (s d : ℕ) (c : Option T) → freed ≡ rest ++ s ∷ []
      → ((i : ℕ) → i < length freed → get_or freed i 0 < length cells)
      → (set cells s c ≡ set_cell cells (get_or freed (length freed - 1) d) c) × (rest ≡ take (length freed - 1) freed)
  put_again cells freed rest s d c e used =
      let n1 : length freed ≡ length rest + 1 = rw e (length-append rest (s ∷ [])) in
      let first : get_or freed (length rest) 0 ≡ s = rw e (get_or-append_seam rest s [] 0) in
      let within : s < length cells = rw (← first) (used (length rest) (omega arith)) in
      let n : length freed - 1 ≡ length rest = let k : length freed ≡ length rest + 1 = rw e (length-append rest (s ∷ [])) in omega arith in
      let last : get_or freed (length rest) d ≡ s = rw e (get_or-append_seam rest s [] d) in
      (rw (n, last) (sym (set_cell_within cells s c within)), rw (n, e) (sym (take-append_seam rest (s ∷ []))))

  pub put_fresh : (cells : List (Option T)) (freed : List ℕ) (c : Option T) → freed ≡ []
      → (cells ++ c ∷ [] ≡ set_cell cells (get_or freed (length freed - 1) (length cells)) c) × (freed ≡ take (length freed - 1) freed)
  put_fresh cells freed c e = rw e (sym (set_cell_at_end cells c), refl)

  live_within : (cells : List (Option T)) (s : ℕ) → IsSome (get_or cells s None) → s < length cells
  live_within [] s h = cc
  live_within (x ∷ xs) zero h = omega arith
  live_within (x ∷ xs) (suc s) h = omega (arith, live_within xs s h)

  -- a slot in use is freed
  pub sound_take : (cells : List (Option T)) (freed : List ℕ) (most spare a b c s : ℕ)
      → IsSome (get_or cells s None) → b ≤ c → IsSound cells freed most spare a b
      → IsSound (set cells s None) (freed ++ s ∷ []) most (spare + 1) a c
  sound_take cells freed most spare a b c s some more h =
      let within : s < length cells = live_within cells s some in
      let n : length (freed ++ s ∷ []) ≡ length freed + 1 = length-append freed (s ∷ []) in
      let last : get_or (freed ++ s ∷ []) (length freed) 0 ≡ s = get_or-append_seam freed s [] 0 in
      let old : (i : ℕ) → i < length freed → get_or (freed ++ s ∷ []) i 0 ≡ get_or freed i 0 = λ i p. get_or_append_left freed (s ∷ []) 0 i p in
      let apart : (i : ℕ) → i < length freed → get_or freed i 0 ≢ s =
      λ i p q. let none : get_or cells s None ≡ None = rw (← q) (h.empty i p) in let e : false ≡ true = rw none at some in cc in
      let count : count_by is_some (set cells s None) + 1 ≡ count_by is_some cells = count_emptied cells s within some in
      let same : length (set cells s None) ≡ length cells = length-set cells s None in
      record {
        used = λ i p. grind (arith, old i, h.used i, last, same);
        empty = λ i p. grind (arith, old i, h.empty i, apart i, last, same, get_or-set_other cells s, get_or-set_same cells s);
        distinct = λ i j p q r. grind (arith, old i, old j, last, apart i, h.distinct i j);
        full = omega (arith, h.full);
        within = omega (arith, h.within);
        small = h.small;
        kept = omega (arith, h.kept);
        cells_room = omega (arith, h.cells_room);
        freed_room = omega (arith, h.freed_room);
      }

  -- the slot freed last was used, and is empty
  last_freed : (cells : List (Option T)) (freed rest : List ℕ) (most spare a b s : ℕ) → freed ≡ rest ++ s ∷ [] → IsSound cells freed most spare a b
      → (s < length cells) × (get_or cells s None ≡ None)
  last_freed cells freed rest most spare a b s e h =
      let n : length freed ≡ length rest + 1 = rw e (length-append rest (s ∷ [])) in
      let last : get_or freed (length rest) 0 ≡ s = rw e (get_or-append_seam rest s [] 0) in
      (rw (← last) (h.used (length rest) (omega arith)), rw (← last) (h.empty (length rest) (omega arith)))

  fills : (old new : Slots T) (s : ℕ) (x : T) → s ≤ length old.cells → get_or old.cells s None ≡ None → new.cells ≡ set_cell old.cells s (Some x)
      → count_by is_some (set_cell old.cells s (Some x)) ≡ count_by is_some old.cells + 1 → Fills old new s x
  fills old new s x le none e count = record {
    was_free = none;
    holds = rw e (set_cell_here old.cells s (Some x) le);
    others = λ t ne. rw e (set_cell_other old.cells s t (Some x) le ne);
    live = rw e count;
  }

  -- `put` into the slot freed last
  pub fills_again : (old new : Slots T) (rest : List ℕ) (most spare a b s : ℕ) (x : T) → old.freed ≡ rest ++ s ∷ [] → IsSound old.cells old.freed most spare a b
      → new.cells ≡ set old.cells s (Some x) → Fills old new s x
  fills_again old new rest most spare a b s x e h put =
      let at : (s < length old.cells) × (get_or old.cells s None ≡ None) = last_freed old.cells old.freed rest most spare a b s e h in
      let same : set_cell old.cells s (Some x) ≡ set old.cells s (Some x) = set_cell_within old.cells s (Some x) at.0 in
      let within : s < length old.cells = at.0 in
      fills old new s x (omega arith) at.1 (put ∙ sym same) (ap (count_by is_some) same ∙ count_filled old.cells s x at.0 at.1)

  -- `put` into a fresh one
  pub fills_fresh : (old new : Slots T) (s : ℕ) (x : T) → s ≡ length old.cells → new.cells ≡ old.cells ++ Some x ∷ [] → Fills old new s x
  fills_fresh old new s x is put =
      rw is (
      let same : set_cell old.cells (length old.cells) (Some x) ≡ old.cells ++ Some x ∷ [] = set_cell_at_end old.cells (Some x) in
      let count : count_by is_some (old.cells ++ Some x ∷ []) ≡ count_by is_some old.cells + 1 = sum_by_push weight old.cells (Some x) in
      let le : length old.cells ≤ length old.cells = omega arith in
      fills old new (length old.cells) x le (get_or_past old.cells (length old.cells) None le) (put ∙ sym same) (ap (count_by is_some) same ∙ count))

  pub empties : (old new : Slots T) (s : ℕ) → IsSome (get_or old.cells s None) → new.cells ≡ set old.cells s None → Empties old new s
  empties old new s some e =
      let within : s < length old.cells = live_within old.cells s some in record {
        free = rw e (get_or-set_same old.cells s None None within);
        others = λ t ne. rw e (get_or-set_other old.cells s t None None ne);
        live = rw e (count_emptied old.cells s within some);
      }
