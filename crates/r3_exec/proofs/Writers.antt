-- The store's conflict of a transaction is the machine's: past an open snapshot nobody wrote the step that it commits.
use Rattle.std.proofs.Common.{◌≡◌, ℕ, ◌+◌, Bool, true, false, cond, ◌&&◌, ◌||◌, nat_lt, List, [], ◌∷◌, ◌++◌, map, Option, Some, None, refl, sym, ap, ◌∙◌}
use Rattle.std.specs.Prelude.{find}
use Rattle.std.specs.Option.{option_map}
use Rattle.std.specs.List.{enumerate_from, list_any}
use Rattle.std.specs.Ordering.{eq_by_cmp, is_eq, ordering_reverse}
use Rattle.std.specs.declared.cmp.Ordering.{Ordering}
use Rattle.std.specs.declared.cmp.Ordering.TheVariants.{Less, Equal, Greater}
use Rattle.std.specs.FinMap.Entries as sorted_list
use Rattle.std.proofs.lemmas.Slice.Eq.{bytes_eq-Decides}
use Rattle.r3_rows.specs.declared.rows.Key.{Key}
use Rattle.r3_rows.specs.declared.rows.Key.TheVariants as keys
use Rattle.r3_rows.specs.declared.rows.Cell.{Cell}
use Rattle.r3_rows.specs.declared.rows.StepRow.{StepRow}
use Rattle.r3_rows.specs.declared.rows.StepKind.TheVariants as kinds
use Rattle.r3_rows.specs.Keys.{key_cmp, bytes_cmp}
use Rattle.r3_rows.specs.KeyOrder.{key_cmp-total}
use Rattle.r3_entry.specs.declared.entry.Entry.{Entry}
use Rattle.r3_entry.specs.History.{writes_key}
use Rattle.r3_snap.specs.Conflicts.{keys_of}
use Rattle.r3_formed.specs.Past.{first_conflict, first_writer}
use Rattle.fn_tree.specs.declared.flow.Request.{Request}
use Rattle.fn_tree.specs.Writes.{Write as Put}
use Rattle.r3_model.specs.Acts.{Writes, put_write, step_row, step_write, txn_entry}
use Rattle.r3_model.specs.Language.{Language, Text}
use Rattle.r3_model.specs.Machine.{State}
use Rattle.r3_model.specs.Made.{is_own}
use Rattle.r3_model.specs.Turns.{conflict_keys, run_on, writer_past}
use Rattle.r3_model.specs.Valid.{IsOpen, IsValid}
use Rattle.r3_laws.proofs.Frame.{untouched}

-- ---- the writes of one entry

flipped : (o : Ordering) → is_eq (ordering_reverse o) ≡ is_eq o
flipped Less = refl
flipped Equal = refl
flipped Greater = refl

tie_turned : (a b : Key) → eq_by_cmp key_cmp a b ≡ eq_by_cmp key_cmp b a
tie_turned a b = ap is_eq (key_cmp-total.antisymm a b) ∙ flipped (key_cmp b a)

writes_turned : (k : Key) (ws : Writes) → list_any (λ (w : Key × Option Cell). eq_by_cmp key_cmp k w.0) ws ≡ list_any (λ (w : Key × Option Cell). eq_by_cmp key_cmp w.0 k) ws
writes_turned k [] = refl
writes_turned k (w ∷ ws) =
    ap (λ (b : Bool). b || list_any (λ (w : Key × Option Cell). eq_by_cmp key_cmp k w.0) ws) (tie_turned k w.0)
    ∙ ap (λ (b : Bool). eq_by_cmp key_cmp w.0 k || b) (writes_turned k ws)

none_of : (ws : Writes) → list_any (λ (w : Key × Option Cell). false) ws ≡ false
none_of [] = refl
none_of (w ∷ ws) = none_of ws

or_mixed : (a b c d : Bool) → ((a || b) || (c || d)) ≡ ((a || c) || (b || d))
or_mixed true b c d = refl
or_mixed false true true d = refl
or_mixed false true false d = refl
or_mixed false false c d = refl

either_of : (f g : Key → Bool) (ws : Writes) → list_any (λ (w : Key × Option Cell). f w.0 || g w.0) ws ≡ (list_any (λ (w : Key × Option Cell). f w.0) ws || list_any (λ (w : Key × Option Cell). g w.0) ws)
either_of f g [] = refl
either_of f g (w ∷ ws) =
    ap (λ (b : Bool). (f w.0 || g w.0) || b) (either_of f g ws)
    ∙ or_mixed (f w.0) (g w.0) (list_any (λ (w : Key × Option Cell). f w.0) ws) (list_any (λ (w : Key × Option Cell). g w.0) ws)

abbrev is_put : List Put → Key → Bool
is_put puts key = list_any (λ (p : Put). eq_by_cmp key_cmp key (put_write p).0) puts

module _ (id : Text) (n : ℕ) (r : StepRow) where
  abbrev committed : List Put → Writes
  committed puts = map put_write puts ++ step_write id n r ∷ []

  -- an entry that wrote no row of the workflow wrote one of the keys just where it wrote one of the body's
  same_keys : (e : Entry) (puts : List Put) → list_any (λ (w : Key × Option Cell). is_own id w.0) e.writes ≡ false
      → list_any (writes_key e) (keys_of (committed puts)) ≡ list_any (λ (w : Key × Option Cell). is_put puts w.0) e.writes
  same_keys e [] none =
      ap (λ (b : Bool). b || false) (untouched (is_own id) (keys.Step id n) e.writes ((bytes_eq-Decides id id).1 refl) none) ∙ sym (none_of e.writes)
  same_keys e (p ∷ ps) none =
      ap (λ (b : Bool). b || list_any (writes_key e) (keys_of (committed ps))) (writes_turned (put_write p).0 e.writes)
      ∙ ap (λ (b : Bool). list_any (λ (w : Key × Option Cell). eq_by_cmp key_cmp w.0 (put_write p).0) e.writes || b) (same_keys e ps none)
      ∙ sym (either_of (λ (k : Key). eq_by_cmp key_cmp k (put_write p).0) (is_put ps) e.writes)

-- ---- entry after entry

abbrev writes_past : ℕ → (Key → Bool) → ℕ × Entry → Bool
writes_past s is_such e = nat_lt s e.0 && list_any (λ (w : Key × Option Cell). is_such w.0) e.1.writes

abbrev takes_past : ℕ → List Key → ℕ × Entry → Bool
takes_past s ks e = nat_lt s e.0 && list_any (writes_key e.1) ks

abbrev number_of : ℕ × Entry → ℕ
number_of e = e.0

not_here : (b : Bool) (e : ℕ × Entry) (o : Option (ℕ × Entry)) → option_map number_of (cond b (Some e) o) ≡ None → (b ≡ false) × (option_map number_of o ≡ None)
not_here true e o none = absurd cc
not_here false e o none = (refl, none)

past_alike : (b own x y : Bool) → (b && own) ≡ false → (own ≡ false → x ≡ y) → (b && x) ≡ (b && y)
past_alike true own x y none alike = alike none
past_alike false own x y none alike = refl

module _ (id : Text) (n : ℕ) (r : StepRow) (s : ℕ) (puts : List Put) where
  same_entry : (j : ℕ) (h : List Entry) → option_map number_of (find (writes_past s (is_own id)) (enumerate_from j h)) ≡ None
      → find (takes_past s (keys_of (committed id n r puts))) (enumerate_from j h) ≡ find (writes_past s (is_put puts)) (enumerate_from j h)
  same_entry j [] none = refl
  same_entry j (e ∷ es) none =
      let apart = not_here (writes_past s (is_own id) (j, e)) (j, e) (find (writes_past s (is_own id)) (enumerate_from (j + 1) es)) none in
      let here : takes_past s (keys_of (committed id n r puts)) (j, e) ≡ writes_past s (is_put puts) (j, e) =
      past_alike (nat_lt s j) (list_any (λ (w : Key × Option Cell). is_own id w.0) e.writes) _ _ apart.0 (λ own. same_keys id n r e puts own) in
      ap (λ (b : Bool). cond b (Some (j, e)) (find (takes_past s (keys_of (committed id n r puts))) (enumerate_from (j + 1) es))) here
      ∙ ap (λ (o : Option (ℕ × Entry)). cond (writes_past s (is_put puts) (j, e)) (Some (j, e)) o) (same_entry (j + 1) es apart.1)

-- ---- the conflict

-- the store's conflict, entry by entry
abbrev pub FirstConflictIs : Type 0
FirstConflictIs = (h : List Entry) (snap : ℕ) (keys : List Key) → first_conflict h snap keys ≡ first_writer h snap keys

module _ (law : FirstConflictIs) (P : Language) (h : List Entry) (id : Text) (s : ℕ) (q : Request) where
  -- past an open snapshot the first entry that wrote a key of the transaction's entry is the machine's writer
  pub same_writer : IsOpen P h id s
      → first_conflict h s (keys_of (txn_entry h id q s (run_on P h id s q)).writes) ≡ writer_past h s (conflict_keys (run_on P h id s q))
  same_writer is_open =
      law h s (keys_of (txn_entry h id q s (run_on P h id s q)).writes)
      ∙ ap (λ (o : Option (ℕ × Entry)). option_map number_of o) (same_entry id q.n (step_row q.name kinds.Txn (run_on P h id s q).outcome) s (run_on P h id s q).writes 1 h is_open.own)

  pub same_conflict : (e : Entry) → e ≡ txn_entry h id q s (run_on P h id s q) → IsOpen P h id s
      → (e.snap ≡ s) × (first_conflict h e.snap (keys_of e.writes) ≡ writer_past h s (conflict_keys (run_on P h id s q)))
  same_conflict e is is_open = (
    ap (λ (x : Entry). x.snap) is,
    ap (λ (x : Entry). first_conflict h x.snap (keys_of x.writes)) is ∙ same_writer is_open,
  )

-- where the state is valid and the snapshot is that of the workflow
pub is_open_now : (P : Language) (st : State) (id : Text) (s : ℕ) → IsValid P st → sorted_list.find bytes_cmp id st.begun ≡ Some s → IsOpen P st.history id s
is_open_now P st id s valid found = valid.snapshots.each id s found
