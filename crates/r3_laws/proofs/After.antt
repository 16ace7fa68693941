-- What stands after an entry, by its writes.
use Rattle.std.proofs.Common.{◌≡◌, ◌≢◌, ℕ, suc, zero, ◌+◌, ◌<◌, Bool, true, false, cond, List, [], ◌∷◌, ◌++◌, map, length, Option, Some, None, refl, ap, ◌∙◌, arith}
use Rattle.std.specs.Prelude.{fold, option_and_then, slice_get}
use Rattle.std.specs.List.{list_any, enumerate_from}
use Rattle.std.specs.Ordering.{eq_by_cmp, is_eq}
use Rattle.std.specs.FinMap.{find}
use Rattle.std.specs.FinMap.Entries.{put, find-put}
use Rattle.std.specs.declared.cmp.Ordering.{Ordering}
use Rattle.std.specs.declared.cmp.Ordering.TheVariants.{Less, Equal, Greater}
use Rattle.r3_rows.specs.declared.rows.Key.{Key}
use Rattle.r3_rows.specs.declared.rows.Key.TheVariants as keys
use Rattle.r3_rows.specs.declared.rows.Cell.{Cell}
use Rattle.r3_rows.specs.declared.rows.Cell.TheVariants as cells
use Rattle.r3_rows.specs.declared.rows.StepRow.{StepRow}
use Rattle.r3_entry.specs.declared.entry.Entry.{Entry}
use Rattle.r3_rows.specs.Keys.{key_cmp}
use Rattle.r3_entry.specs.History.{Write, Map, map_at, cell_at}
use Rattle.r3_rows.specs.KeyOrder.{key_cmp-total, key_cmp-same}
use Rattle.r3_entry.proofs.Append.{map_at-push}
use Rattle.r3_model.specs.Language.{Text}
use Rattle.r3_model.specs.Rows.{step_of}
use Rattle.r3_model.specs.Acts.{Writes, step_write}
use Rattle.r3_model.specs.Made.{is_own}
use Rattle.r3_laws.proofs.Frame.{length-push, untouched, or_none}
use Rattle.r3_laws.proofs.Quiet.{leaves}
use Rattle.r3_laws.proofs.Tells.{tie-refl}

-- a key's cell after writes, where c stood before
abbrev pub after : Writes → Key → Option Cell → Option Cell
after ws q c = fold (λ (c : Option Cell) (w : Key × Option Cell). cond (eq_by_cmp key_cmp q w.0) w.1 c) c ws

cell_of : Option Write → Option Cell
cell_of o = option_and_then (λ (w : Write). w.1) o

by_hit : (b : Bool) (j : ℕ) (c : Option Cell) (o : Option Write) → option_and_then (λ (w : Write). w.1) (cond b (Some (j, c)) o) ≡ cond b c (option_and_then (λ (w : Write). w.1) o)
by_hit true j c o = refl
by_hit false j c o = refl

find-after : (ws : Writes) (m : Map) (j : ℕ) (q : Key) → option_and_then (λ (w : Write). w.1) (find key_cmp q (fold (λ (m : Map) (w : Key × Option Cell). put key_cmp w.0 (j, w.1) m) m ws)) ≡ after ws q (option_and_then (λ (w : Write). w.1) (find key_cmp q m))
find-after [] m j q = refl
find-after (w ∷ ws) m j q =
    find-after ws (put key_cmp w.0 (j, w.1) m) j q
    ∙ ap (λ (o : Option Write). after ws q (option_and_then (λ (w : Write). w.1) o)) (find-put key_cmp key_cmp-total q w.0 (j, w.1) m)
    ∙ ap (λ (c : Option Cell). after ws q c) (by_hit (eq_by_cmp key_cmp q w.0) j w.1 (find key_cmp q m))

pub cell-after : (h : List Entry) (e : Entry) (q : Key) → cell_at (h ++ e ∷ []) (length (h ++ e ∷ [])) q ≡ after e.writes q (cell_at h (length h) q)
cell-after h e q =
    ap (λ (k : ℕ). cell_at (h ++ e ∷ []) k q) (length-push h e)
    ∙ ap (λ (m : Map). option_and_then (λ (w : Write). w.1) (find key_cmp q m)) (map_at-push h e)
    ∙ find-after e.writes (map_at h (length h)) (1 + length h) q

-- ---- writes that don't touch the key

pub after-unwritten : (ws : Writes) (q : Key) (c : Option Cell) → list_any (λ (w : Key × Option Cell). eq_by_cmp key_cmp q w.0) ws ≡ false → after ws q c ≡ c
after-unwritten [] q c none = refl
after-unwritten (w ∷ ws) q c none =
    let both = or_none (eq_by_cmp key_cmp q w.0) (list_any (λ (w : Key × Option Cell). eq_by_cmp key_cmp q w.0) ws) none in
    ap (λ (b : Bool). after ws q (cond b w.1 c)) both.0 ∙ after-unwritten ws q c both.1

pub after-quiet : (id : Text) (ws : Writes) (q : Key) (c : Option Cell) → is_own id q ≡ true → leaves id ws ≡ false → after ws q c ≡ c
after-quiet id ws q c own quiet = after-unwritten ws q c (untouched (is_own id) q ws own quiet)

pub after-append : (first ws : Writes) (q : Key) (c : Option Cell) → after (first ++ ws) q c ≡ after ws q (after first q c)
after-append [] ws q c = refl
after-append (w ∷ first) ws q c = after-append first ws q (cond (eq_by_cmp key_cmp q w.0) w.1 c)

-- ---- steps

pub tied : (o : Ordering) → is_eq o ≡ true → o ≡ Equal
tied Less e = absurd cc
tied Equal e = refl
tied Greater e = absurd cc

apart_by : (q k : Key) → (q ≡ k → ⊥) → (b : Bool) → eq_by_cmp key_cmp q k ≡ b → eq_by_cmp key_cmp q k ≡ false
apart_by q k apart true is = absurd (apart (key_cmp-same q k (tied (key_cmp q k) is)))
apart_by q k apart false is = is

pub keys-apart : (q k : Key) → (q ≡ k → ⊥) → eq_by_cmp key_cmp q k ≡ false
keys-apart q k apart = apart_by q k apart (eq_by_cmp key_cmp q k) refl

pub steps-apart : (id : Text) (m n : ℕ) → m ≢ n → eq_by_cmp key_cmp (keys.Step id m) (keys.Step id n) ≡ false
steps-apart id m n apart = keys-apart (keys.Step id m) (keys.Step id n) (λ same. apart (let e : keys.Step id m ≡ keys.Step id n = same in cc))

abbrev pub or_old : Option StepRow → Option StepRow → Option StepRow
or_old None old = old
or_old (Some r) old = Some r

module _ (id : Text) where
  abbrev pub copies : ℕ → List StepRow → Writes
  copies k rows = map (λ (s : ℕ × StepRow). step_write id s.0 s.1) (enumerate_from k rows)

  -- copies from k on leave the steps before k
  copies-before : (k n : ℕ) (rows : List StepRow) (c : Option Cell) → n < k → after (copies k rows) (keys.Step id n) c ≡ c
  copies-before k n [] c lt = refl
  copies-before k n (r ∷ rs) c lt =
      ap (λ (b : Bool). after (copies (k + 1) rs) (keys.Step id n) (cond b (Some (cells.Step r)) c)) (steps-apart id n k (omega arith)) ∙ copies-before (k + 1) n rs c (omega arith)

  pub copies-at : (k n : ℕ) (rows : List StepRow) (c : Option Cell) → option_and_then step_of (after (copies k rows) (keys.Step id (k + n)) c) ≡ or_old (slice_get rows n) (option_and_then step_of c)
  copies-at k n [] c = refl
  copies-at k zero (r ∷ rs) c =
      let z : k + 0 ≡ k = omega arith in
      ap (λ (m : ℕ). option_and_then step_of (after (copies k (r ∷ rs)) (keys.Step id m) c)) z
      ∙ ap (λ (b : Bool). option_and_then step_of (after (copies (k + 1) rs) (keys.Step id k) (cond b (Some (cells.Step r)) c))) (tie-refl (keys.Step id k))
      ∙ ap (λ (o : Option Cell). option_and_then step_of o) (copies-before (k + 1) k rs (Some (cells.Step r)) (omega arith))
  copies-at k (suc n) (r ∷ rs) c =
      let z : k + suc n ≡ (k + 1) + n = omega arith in
      ap (λ (b : Bool). option_and_then step_of (after (copies (k + 1) rs) (keys.Step id (k + suc n)) (cond b (Some (cells.Step r)) c))) (steps-apart id (k + suc n) k (omega arith))
      ∙ ap (λ (m : ℕ). option_and_then step_of (after (copies (k + 1) rs) (keys.Step id m) c)) z
      ∙ copies-at (k + 1) n rs c

  -- copies leave the flow row
  pub copies-flow : (k : ℕ) (rows : List StepRow) (c : Option Cell) → after (copies k rows) (keys.Flow id) c ≡ c
  copies-flow k [] c = refl
  copies-flow k (r ∷ rs) c = copies-flow (k + 1) rs c
