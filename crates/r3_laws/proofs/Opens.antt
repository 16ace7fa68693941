-- An open snapshot stays open over entries that don't write its workflow's rows.
use Rattle.std.proofs.Common.{◌≡◌, ℕ, ◌+◌, Bool, true, false, cond, ◌&&◌, List, [], ◌∷◌, ◌++◌, map, Option, Some, None, refl, ap, ◌∙◌, arith, length-append}
use Rattle.std.specs.Prelude.{find, nat_lt, option_map, option_and_then}
use Rattle.std.specs.List.{enumerate_from, list_any}
use Rattle.r3_rows.specs.declared.rows.Key.{Key}
use Rattle.r3_rows.specs.declared.rows.Key.TheVariants as keys
use Rattle.r3_rows.specs.declared.rows.Cell.{Cell}
use Rattle.r3_rows.specs.declared.rows.StepRow.{StepRow}
use Rattle.r3_entry.specs.declared.entry.Entry.{Entry}
use Rattle.r3_model.specs.Language.{Text, Language}
use Rattle.r3_model.specs.Rows.{flow_of, step_of, steps_at, answer_of}
use Rattle.r3_model.specs.Turns.{writer_past}
use Rattle.r3_model.specs.Made.{is_own}
use Rattle.r3_model.specs.Valid.{IsOpen}
use Rattle.r3_laws.proofs.Frame.{cell_at-before, steps_from-same, IsQuiet}

abbrev pub writes : ℕ → (Key → Bool) → ℕ × Entry → Bool
writes s p e = nat_lt s e.0 && list_any (λ (w : Key × Option Cell). p w.0) e.1.writes

-- one more entry that doesn't write such a key
no_more : (a b : Bool) → b ≡ false → (a && b) ≡ false
no_more true b e = e
no_more false b e = refl

found : (s : ℕ) (p : Key → Bool) (n : ℕ) (h : List Entry) (e : Entry) → list_any (λ (w : Key × Option Cell). p w.0) e.writes ≡ false → find (writes s p) (enumerate_from n h) ≡ None → find (writes s p) (enumerate_from n (h ++ e ∷ [])) ≡ None
found s p n [] e quiet none = ap (λ (b : Bool). cond b (Some (n, e)) None) (no_more (nat_lt s n) _ quiet)
found s p n (x ∷ xs) e quiet none = by_first (writes s p (n, x)) (found s p (n + 1) xs e quiet) none where
  by_first : (b : Bool) → (find (writes s p) (enumerate_from (n + 1) xs) ≡ None → find (writes s p) (enumerate_from (n + 1) (xs ++ e ∷ [])) ≡ None) → cond b (Some (n, x)) (find (writes s p) (enumerate_from (n + 1) xs)) ≡ None
      → cond b (Some (n, x)) (find (writes s p) (enumerate_from (n + 1) (xs ++ e ∷ []))) ≡ None
  by_first true later none = absurd (let z : Some (n, x) ≡ None = none in cc)
  by_first false later none = later none

pub mapped : (o : Option (ℕ × Entry)) → option_map (λ (e : ℕ × Entry). e.0) o ≡ None → o ≡ None
mapped None e = refl
mapped (Some x) e = absurd (let z : Some x.0 ≡ None = e in cc)

pub writer_past-push : (h : List Entry) (s : ℕ) (p : Key → Bool) (e : Entry) → list_any (λ (w : Key × Option Cell). p w.0) e.writes ≡ false → writer_past h s p ≡ None → writer_past (h ++ e ∷ []) s p ≡ None
writer_past-push h s p e quiet none = ap (λ (o : Option (ℕ × Entry)). option_map (λ (e : ℕ × Entry). e.0) o) (found s p 1 h e quiet (mapped (find (writes s p) (enumerate_from 1 h)) none))

pub open-push : (P : Language) (h : List Entry) (e : Entry) (id : Text) (s : ℕ) → IsQuiet id e → IsOpen P h id s → IsOpen P (h ++ e ∷ []) id s
open-push P h e id s quiet o =
    let more = e ∷ [] in
    let steps : steps_at (h ++ more) s id ≡ steps_at h s id = steps_from-same (h ++ more) h s s id (λ n. ap (λ (c : Option Cell). option_and_then step_of c) (cell_at-before h more s (keys.Step id n) o.past)) 1000 0 in
    record {
      past = omega (arith, o.past, length-append h more);
      row = o.row;
      there = ap (λ (c : Option Cell). option_and_then flow_of c) (cell_at-before h more s (keys.Flow id) o.past) ∙ o.there;
      pending = o.pending;
      request = o.request;
      asks = ap (λ (r : List StepRow). P.flow o.row.function o.row.args (map answer_of r)) steps ∙ o.asks;
      kind = o.kind;
      own = writer_past-push h s (is_own id) e quiet o.own;
    }
