-- Rows in rising order, with a step behind them.
use Rattle.std.proofs.Common.{◌≡◌, ℕ, ◌+◌, ◌<◌, Bool, true, false, List, [], ◌∷◌, ◌++◌, map, length, Option, None, refl, sym, ap, ◌∙◌, arith}
use Rattle.std.specs.Prelude.{IsTrue, ◌&&◌}
use Rattle.std.specs.FinMap.Entries.{below_all, is_sorted}
use Rattle.std.specs.List.{enumerate_from}
use Rattle.std.specs.Prelude.{take}
use Rattle.std.specs.Ordering.{nat_cmp, is_lt}
use Rattle.std.specs.Cmp.{nat_cmp_is}
use Rattle.std.specs.declared.cmp.Ordering.{Ordering}
use Rattle.std.specs.declared.cmp.Ordering.TheVariants.{Less, Equal}
use Rattle.std.proofs.lemmas.Bool.{and_parts}
use Rattle.r3_rows.specs.Keys.{bytes_cmp, key_cmp}
use Rattle.r3_rows.specs.declared.rows.FlowRow.{FlowRow}
use Rattle.r3_rows.specs.declared.rows.StepRow.{StepRow}
use Rattle.r3_rows.specs.declared.rows.Status.TheVariants as status
use Rattle.r3_entry.specs.declared.entry.Act.TheVariants as acts
use Rattle.r3_entry.specs.declared.entry.Entry.{Entry}
use Rattle.r3_rows.specs.declared.rows.Cell.{Cell}
use Rattle.r3_rows.specs.declared.rows.Key.{Key}
use Rattle.r3_rows.specs.declared.rows.Key.TheVariants as keys
use Rattle.fn_tree.specs.Writes.{Write}
use Rattle.r3_model.specs.Rows.{steps_at}
use Rattle.r3_model.specs.Acts.{Writes, put_write, flow_write, step_write, started, plain, fork_entry}

both : (a b : Bool) → a ≡ true → b ≡ true → (a && b) ≡ true
both a b p q = rw (p, q) refl

below_last : (table key : List ℕ) (ws : List Write) (id : List ℕ) (n : ℕ) (c : Option Cell) → below_all key_cmp (keys.User table key) (map put_write ws) ≡ true
    → below_all key_cmp (keys.User table key) (map put_write ws ++ (keys.Step id n, c) ∷ []) ≡ true
below_last table key [] id n c below = refl
below_last table key (w ∷ ws) id n c below =
    let parts = and_parts _ (below_all key_cmp (keys.User table key) (map put_write ws)) below in
    both _ _ parts.0 (below_last table key ws id n c parts.1)

pub step_last : (ws : List Write) (id : List ℕ) (n : ℕ) (c : Option Cell) → IsTrue (is_sorted key_cmp (map put_write ws))
    → IsTrue (is_sorted key_cmp (map put_write ws ++ (keys.Step id n, c) ∷ []))
step_last [] id n c rises = refl
step_last (w ∷ ws) id n c rises =
    let parts = and_parts (below_all key_cmp (keys.User w.0 w.1) (map put_write ws)) (is_sorted key_cmp (map put_write ws)) rises in
    both _ _ (below_last w.0 w.1 ws id n c parts.0) (step_last ws id n c parts.1)

-- ---- the steps of one workflow

same_bytes : (xs : List ℕ) → bytes_cmp xs xs ≡ Equal
same_bytes [] = refl
same_bytes (x ∷ xs) = rw (sym (nat_cmp_is x x Equal refl)) (same_bytes xs)

step_less : (id : List ℕ) (n m : ℕ) → n < m → key_cmp (keys.Step id n) (keys.Step id m) ≡ Less
step_less id n m lt = rw (same_bytes id) (sym (nat_cmp_is n m Less lt))

below_steps : (id : List ℕ) (n m : ℕ) (steps : List StepRow) → n < m → below_all key_cmp (keys.Step id n) (map (λ (s : ℕ × StepRow). step_write id s.0 s.1) (enumerate_from m steps)) ≡ true
below_steps id n m [] lt = refl
below_steps id n m (s ∷ ss) lt =
    let less : key_cmp (keys.Step id n) (keys.Step id m) ≡ Less = step_less id n m lt in
    both _ _ (ap (λ (o : Ordering). is_lt o) less) (below_steps id n (m + 1) ss (omega (arith, lt)))

rising_steps : (id : List ℕ) (n : ℕ) (steps : List StepRow) → is_sorted key_cmp (map (λ (s : ℕ × StepRow). step_write id s.0 s.1) (enumerate_from n steps)) ≡ true
rising_steps id n [] = refl
rising_steps id n (s ∷ ss) = both _ _ (below_steps id n (n + 1) ss (omega arith)) (rising_steps id (n + 1) ss)

below_flow : (id : List ℕ) (n : ℕ) (steps : List StepRow) → below_all key_cmp (keys.Flow id) (map (λ (s : ℕ × StepRow). step_write id s.0 s.1) (enumerate_from n steps)) ≡ true
below_flow id n [] = refl
below_flow id n (s ∷ ss) = both _ _ refl (below_flow id (n + 1) ss)

pub flow_first : (id : List ℕ) (row : FlowRow) (steps : List StepRow)
    → IsTrue (is_sorted key_cmp (flow_write id row ∷ map (λ (s : ℕ × StepRow). step_write id s.0 s.1) (enumerate_from 0 steps)))
flow_first id row steps = both _ _ (below_flow id 0 steps) (rising_steps id 0 steps)

pub forked : (h : List Entry) (id source a b : List ℕ) (row first : FlowRow) (below count : ℕ) (steps : List StepRow) (ws : Writes) → length h ≡ count → a ≡ id → b ≡ source
    → first ≡ started status.Pending row.function row.args None (count + 1) None → steps ≡ take below (steps_at h (length h) source)
    → ws ≡ flow_write id first ∷ map (λ (s : ℕ × StepRow). step_write id s.0 s.1) (enumerate_from 0 steps)
    → plain h (acts.Fork a b below) ws ≡ fork_entry h id source row below
forked h id source a b row first below count steps ws len p q f s w = rw (w, f, s, p, q, sym len) refl
