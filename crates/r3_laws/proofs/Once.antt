-- On a made history each step is written once.
use Rattle.std.proofs.Common.{◌≡◌, ℕ, ◌||◌, Bool, true, false, cond, List, [], ◌∷◌, ◌++◌, length, Option, Some, None, refl, sym, subst, ap, ◌∙◌, inl, inr}
use Rattle.std.specs.Prelude.{slice_get, option_and_then, is_some, IsTrue}
use Rattle.std.specs.Ordering.{eq_by_cmp}
use Rattle.std.proofs.lemmas.List.{append_assoc, append-nil}
use Rattle.r3_rows.specs.declared.rows.Key.{Key}
use Rattle.r3_rows.specs.declared.rows.Key.TheVariants as keys
use Rattle.r3_rows.specs.declared.rows.Cell.{Cell}
use Rattle.r3_rows.specs.declared.rows.Cell.TheVariants as cells
use Rattle.r3_rows.specs.declared.rows.StepRow.{StepRow}
use Rattle.r3_entry.specs.declared.entry.Entry.{Entry}
use Rattle.r3_entry.specs.Formed.{IsOfKind}
use Rattle.r3_rows.specs.Keys.{key_cmp}
use Rattle.r3_entry.specs.History.{cell_at, writes_key}
use Rattle.r3_rows.specs.KeyOrder.{key_cmp-same}
use Rattle.r3_model.specs.Language.{Text, Language}
use Rattle.r3_model.specs.Rows.{step_of, step_at}
use Rattle.r3_model.specs.Acts.{Writes}
use Rattle.r3_model.specs.Made.{AllAgree, IsMade, Agrees}
use Rattle.r3_model.specs.Lawful.{IsLawful}
use Rattle.r3_laws.specs.OfHistories.{WritesStepsOnce}
use Rattle.r3_laws.proofs.After.{after, tied, cell-after, after-unwritten}
use Rattle.r3_laws.proofs.CaseKinds.{AreOfKind, case-kinds}
use Rattle.r3_laws.proofs.NewSteps.{touches, case-new}
use Rattle.r3_laws.proofs.Places.{place-cases}
use Rattle.r3_laws.proofs.Told.{Told}
use Rattle.r3_laws.proofs.ToldBy.{case-told}
use Rattle.r3_laws.proofs.ToldMade.{agrees-case, told-none}

-- ---- a step that is written has a row

abbrev has_row : Option Cell → Bool
has_row c = is_some (option_and_then step_of c)

step-row : (id : Text) (n : ℕ) (k : Key) (c : Option Cell) → keys.Step id n ≡ k → IsOfKind (k, c) → has_row c ≡ true
step-row id n (keys.User t k) c same kind = absurd (let e : keys.Step id n ≡ keys.User t k = same in cc)
step-row id n (keys.Flow i) c same kind = absurd (let e : keys.Step id n ≡ keys.Flow i = same in cc)
step-row id n (keys.Step i m) None same kind = absurd kind
step-row id n (keys.Step i m) (Some (cells.Row v)) same kind = absurd kind
step-row id n (keys.Step i m) (Some (cells.Flow r)) same kind = absurd kind
step-row id n (keys.Step i m) (Some (cells.Step r)) same kind = refl

module _ (id : Text) (n : ℕ) where
  abbrev step : Key
  step = keys.Step id n

  same-key : (k : Key) → eq_by_cmp key_cmp step k ≡ true → step ≡ k
  same-key k is = key_cmp-same step k (tied (key_cmp step k) is)

  one-row : (w : Key × Option Cell) (c : Option Cell) (b : Bool) → eq_by_cmp key_cmp step w.0 ≡ b → IsOfKind w → has_row c ≡ true → has_row (cond b w.1 c) ≡ true
  one-row w c true is kind has = step-row id n w.0 w.1 (same-key w.0 is) kind
  one-row w c false is kind has = has

  rows-stay : (ws : Writes) (c : Option Cell) → AreOfKind ws → has_row c ≡ true → has_row (after ws step c) ≡ true
  rows-stay [] c kinds has = has
  rows-stay (w ∷ ws) c kinds has = rows-stay ws (cond (eq_by_cmp key_cmp step w.0) w.1 c) kinds.1 (one-row w c (eq_by_cmp key_cmp step w.0) refl kinds.0 has)

  first-row : (w : Key × Option Cell) (ws : Writes) (c : Option Cell) (b : Bool) → eq_by_cmp key_cmp step w.0 ≡ b → AreOfKind (w ∷ ws) → (b ≡ false → touches ws step ≡ true) → (touches ws step ≡ true → has_row (after ws step c) ≡ true) → has_row (after ws step (cond b w.1 c)) ≡ true
  first-row w ws c true is kinds rest later = rows-stay ws w.1 kinds.1 (step-row id n w.0 w.1 (same-key w.0 is) kinds.0)
  first-row w ws c false is kinds rest later = later (rest refl)

  written-row : (ws : Writes) (c : Option Cell) → AreOfKind ws → touches ws step ≡ true → has_row (after ws step c) ≡ true
  written-row [] c kinds is = absurd cc
  written-row (w ∷ ws) c kinds is = first-row w ws c (eq_by_cmp key_cmp step w.0) refl kinds (λ no_tie. sym (ap (λ (b : Bool). b || touches ws step) no_tie) ∙ is) (λ later. written-row ws c kinds.1 later)

-- ---- a step without a row was never written

abbrev pub Unwritten : List Entry → Type 0
Unwritten h = (id : Text) (n : ℕ) → step_at h (length h) id n ≡ None → (k : ℕ) (e : Entry) → slice_get h k ≡ Some e → writes_key e (keys.Step id n) ≡ false

module _ (P : Language) (lawful : IsLawful P) (h : List Entry) (e : Entry) (a : Agrees P h e) where
  by_touch : (id : Text) (n : ℕ) (b : Bool) → touches e.writes (keys.Step id n) ≡ b → step_at (h ++ e ∷ []) (length (h ++ e ∷ [])) id n ≡ None → (touches e.writes (keys.Step id n) ≡ false) × (step_at h (length h) id n ≡ None)
  by_touch id n true is gone =
      let has : has_row (after e.writes (keys.Step id n) (cell_at h (length h) (keys.Step id n))) ≡ true = written-row id n e.writes (cell_at h (length h) (keys.Step id n)) (case-kinds P h e (agrees-case P h e a)) is in
      let clash : false ≡ true = sym (ap (λ (o : Option StepRow). is_some o) (sym (ap (λ (c : Option Cell). option_and_then step_of c) (cell-after h e (keys.Step id n))) ∙ gone)) ∙ has in
      absurd (let z : false ≡ true = clash in cc)
  by_touch id n false is gone =
      (is, ap (λ (c : Option Cell). option_and_then step_of c) (sym (cell-after h e (keys.Step id n) ∙ after-unwritten e.writes (keys.Step id n) (cell_at h (length h) (keys.Step id n)) is)) ∙ gone)

  unwritten-push : Unwritten h → Unwritten (h ++ e ∷ [])
  unwritten-push old id n gone k x is =
      let t = by_touch id n (touches e.writes (keys.Step id n)) refl gone in
      elim (place-cases h e k x is) [
        | inl before ↦ old id n t.1 k x before
        | inr here ↦ ap (λ (y : Entry). writes_key y (keys.Step id n)) (sym here.0) ∙ t.0
      ]

  clashes : {A : Type 0} → ((id : Text) → Told P h id) → Unwritten h → (id : Text) (n : ℕ) (k : ℕ) (x y : Entry) → slice_get h k ≡ Some x → e ≡ y → IsTrue (writes_key x (keys.Step id n)) → IsTrue (writes_key y (keys.Step id n)) → A
  clashes told old id n k x y is same one two =
      let new : touches e.writes (keys.Step id n) ≡ true = ap (λ (z : Entry). writes_key z (keys.Step id n)) same ∙ two in
      let gone : step_at h (length h) id n ≡ None = case-new P lawful h told e id n new (agrees-case P h e a) in
      let clash : false ≡ true = sym (old id n gone k x is) ∙ one in
      absurd (let z : false ≡ true = clash in cc)

  once-push : ((id : Text) → Told P h id) → Unwritten h → WritesStepsOnce h → WritesStepsOnce (h ++ e ∷ [])
  once-push told old once id n i j x y at_i at_j one two =
      elim (place-cases h e i x at_i) [
        | inl left ↦ elim (place-cases h e j y at_j) [ inl right ↦ once id n i j x y left right one two | inr right ↦ clashes told old id n i x y left right.0 one two ]
        | inr left ↦ elim (place-cases h e j y at_j) [ inl right ↦ clashes told old id n j y x right left.0 two one | inr right ↦ left.1 ∙ sym right.1 ]
      ]

module _ (P : Language) (lawful : IsLawful P) where
  all-once : (h es : List Entry) → ((id : Text) → Told P h id) → Unwritten h → WritesStepsOnce h → AllAgree P h es → WritesStepsOnce (h ++ es)
  all-once h [] told old once all = subst WritesStepsOnce (sym (append-nil h)) once
  all-once h (e ∷ es) told old once all =
      subst WritesStepsOnce (append_assoc h (e ∷ []) es)
      (all-once (h ++ e ∷ []) es (λ i. case-told P lawful h told e i (agrees-case P h e all.0)) (unwritten-push P lawful h e all.0 old) (once-push P lawful h e all.0 told old once) all.1)

  pub made-once : (h : List Entry) → IsMade P h → WritesStepsOnce h
  made-once h made =
      all-once [] h (told-none P lawful) (λ id n gone k e is. absurd (let z : None ≡ Some e = is in cc)) (λ id n i j e f is other one two. absurd (let z : None ≡ Some e = is in cc)) made
