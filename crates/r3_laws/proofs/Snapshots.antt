-- What opening and closing leave of the open snapshots.
use Rattle.std.proofs.Common.{◌≡◌, ℕ, Bool, true, false, cond, Option, Some, None, refl, sym, ap, ◌∙◌}
use Rattle.std.specs.Prelude.{bytes_eq, not}
use Rattle.std.specs.Ordering.{eq_by_cmp, is_eq}
use Rattle.std.specs.Cmp.{IsTotalOrder, tied_itself}
use Rattle.std.specs.FinMap.{slice_cmp-IsAntisymmetric, nat_cmp-IsAntisymmetric}
use Rattle.std.proofs.lemmas.Cmp.{nat_list_cmp_total}
use Rattle.std.specs.FinMap.Entries.{find, is_sorted, is_sorted-put, is_sorted-where_key, find-put, find-where_key}
use Rattle.std.specs.declared.cmp.Ordering.{Ordering}
use Rattle.std.specs.declared.cmp.Ordering.TheVariants.{Less, Equal, Greater}
use Rattle.std.proofs.lemmas.Slice.Eq.{bytes_eq-Decides}
use Rattle.r3_entry.specs.declared.entry.Act.{Act}
use Rattle.r3_entry.specs.declared.entry.Act.TheVariants as acts
use Rattle.r3_rows.specs.Keys.{bytes_cmp}
use Rattle.r3_model.specs.Language.{Text}
use Rattle.r3_model.specs.Machine.{Begun, opened, closed, after_act}
use Rattle.r3_laws.proofs.InOrder.{true_from, from_true}
use Rattle.r3_laws.proofs.Spares.{IsClosing}

-- ---- the order of IDs

bytes_total : IsTotalOrder bytes_cmp
bytes_total = nat_list_cmp_total

bytes_same : (x y : Text) → bytes_cmp x y ≡ Equal → x ≡ y
bytes_same = slice_cmp-IsAntisymmetric nat_cmp-IsAntisymmetric

tied : (o : Ordering) → is_eq o ≡ true → o ≡ Equal
tied Less e = absurd cc
tied Equal e = refl
tied Greater e = absurd cc

bytes_eq-refl : (s : Text) → bytes_eq s s ≡ true
bytes_eq-refl s = (bytes_eq-Decides s s).1 refl

-- ---- closing and opening

pub closed-sorted : (id : Text) (begun : Begun) → is_sorted bytes_cmp begun ≡ true → is_sorted bytes_cmp (closed id begun) ≡ true
closed-sorted id begun sorted = true_from _ (is_sorted-where_key bytes_cmp (λ i. not (bytes_eq i id)) begun (from_true _ sorted))

pub opened-sorted : (id : Text) (s : ℕ) (begun : Begun) → is_sorted bytes_cmp begun ≡ true → is_sorted bytes_cmp (opened id s begun) ≡ true
opened-sorted id s begun sorted = true_from _ (is_sorted-put bytes_cmp bytes_total id s begun (from_true _ sorted))

find-closed : (id i : Text) (begun : Begun) → find bytes_cmp i (closed id begun) ≡ cond (not (bytes_eq i id)) (find bytes_cmp i begun) None
find-closed id i begun = find-where_key bytes_cmp (λ j. not (bytes_eq j id)) i (λ x e. ap (λ (j : Text). not (bytes_eq j id)) (sym (bytes_same i x e))) begun

kept : (b : Bool) (o : Option ℕ) (s : ℕ) → cond (not b) o None ≡ Some s → (b ≡ false) × (o ≡ Some s)
kept true o s is = absurd cc
kept false o s is = (refl, is)

pub closed-kept : (id i : Text) (s : ℕ) (begun : Begun) → find bytes_cmp i (closed id begun) ≡ Some s → (find bytes_cmp i begun ≡ Some s) × (id ≡ i → ⊥)
closed-kept id i s begun is =
    let k = kept (bytes_eq i id) (find bytes_cmp i begun) s (sym (find-closed id i begun) ∙ is) in
    (k.1, λ same. let clash : true ≡ false = sym (bytes_eq-refl i) ∙ ap (λ (x : Text). bytes_eq i x) (sym same) ∙ k.0 in cc)

placed_at : {A : Type 0} (id i : Text) (s t : ℕ) (o : Option ℕ) (b : Bool) → eq_by_cmp bytes_cmp i id ≡ b → cond b (Some s) o ≡ Some t → (i ≡ id → t ≡ s → A) → (o ≡ Some t → A) → A
placed_at id i s t o true is found here there = here (bytes_same i id (tied (bytes_cmp i id) is)) (let e : Some s ≡ Some t = found in cc)
placed_at id i s t o false is found here there = there found

pub opened-is : {A : Type 0} (id i : Text) (s t : ℕ) (begun : Begun) → find bytes_cmp i (opened id s begun) ≡ Some t → (i ≡ id → t ≡ s → A) → (find bytes_cmp i begun ≡ Some t → A) → A
opened-is id i s t begun found here there = placed_at id i s t (find bytes_cmp i begun) (eq_by_cmp bytes_cmp i id) refl (sym (find-put bytes_cmp bytes_total i id s begun) ∙ found) here there

-- ---- after an act

pub act-sorted : (act : Act) (begun : Begun) → is_sorted bytes_cmp begun ≡ true → is_sorted bytes_cmp (after_act act begun) ≡ true
act-sorted (acts.Txn id n args) begun sorted = closed-sorted id begun sorted
act-sorted (acts.Cancel id) begun sorted = closed-sorted id begun sorted
act-sorted (acts.Recover id) begun sorted = closed-sorted id begun sorted
act-sorted act begun sorted = sorted

pub act-kept : (act : Act) (begun : Begun) (i : Text) (s : ℕ) → find bytes_cmp i (after_act act begun) ≡ Some s → (find bytes_cmp i begun ≡ Some s) × (IsClosing i act → ⊥)
act-kept (acts.Txn id n args) begun i s found = closed-kept id i s begun found
act-kept (acts.Cancel id) begun i s found = closed-kept id i s begun found
act-kept (acts.Recover id) begun i s found = closed-kept id i s begun found
act-kept act begun i s found = (found, λ none. none)

put_at : (id i : Text) (s t : ℕ) (o : Option ℕ) (b : Bool) → eq_by_cmp bytes_cmp i id ≡ b → (i ≡ id → t ≡ s) → ((i ≡ id → ⊥) → o ≡ Some t) → cond b (Some s) o ≡ Some t
put_at id i s t o true is here there = ap (λ (k : ℕ). Some k) (sym (here (bytes_same i id (tied (bytes_cmp i id) is))))
put_at id i s t o false is here there =
    there (λ same. let clash : true ≡ false = sym (tie i) ∙ ap (λ (x : Text). eq_by_cmp bytes_cmp i x) same ∙ is in (let z : true ≡ false = clash in cc)) where
      tie : (x : Text) → eq_by_cmp bytes_cmp x x ≡ true
      tie x = ap is_eq (tied_itself bytes_total x)

pub find-opened : (id i : Text) (s t : ℕ) (begun : Begun) → (i ≡ id → t ≡ s) → ((i ≡ id → ⊥) → find bytes_cmp i begun ≡ Some t) → find bytes_cmp i (opened id s begun) ≡ Some t
find-opened id i s t begun here there = find-put bytes_cmp bytes_total i id s begun ∙ put_at id i s t (find bytes_cmp i begun) (eq_by_cmp bytes_cmp i id) refl here there

-- ---- what isn't closed stays

unless_closed : (id i : Text) (b : Bool) (o : Option ℕ) → bytes_eq i id ≡ b → (id ≡ i → ⊥) → cond (not b) o None ≡ o
unless_closed id i true o is apart = absurd (apart (sym ((bytes_eq-Decides i id).0 is)))
unless_closed id i false o is apart = refl

closed-stays : (id i : Text) (begun : Begun) → (id ≡ i → ⊥) → find bytes_cmp i (closed id begun) ≡ find bytes_cmp i begun
closed-stays id i begun apart = find-closed id i begun ∙ unless_closed id i (bytes_eq i id) (find bytes_cmp i begun) refl apart

pub act-stays : (act : Act) (begun : Begun) (i : Text) → (IsClosing i act → ⊥) → find bytes_cmp i (after_act act begun) ≡ find bytes_cmp i begun
act-stays (acts.Txn id n args) begun i open_still = closed-stays id i begun open_still
act-stays (acts.Cancel id) begun i open_still = closed-stays id i begun open_still
act-stays (acts.Recover id) begun i open_still = closed-stays id i begun open_still
act-stays act begun i open_still = refl
