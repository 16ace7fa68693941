-- The entry that started a workflow is the first of its ID, and stays it.
use Rattle.std.proofs.Common.{◌≡◌, inl, inr, ℕ, ◌+◌, ◌<◌, ◌≤◌, List, [], ◌∷◌, ◌++◌, take, length, Option, Some, None, refl, sym, subst, ap, ◌∙◌, arith, length-append}
use Rattle.std.specs.Prelude.{option_and_then}
use Rattle.std.proofs.lemmas.Bool.{cases_lt}
use Rattle.std.proofs.lemmas.List.{append_assoc, append-nil, take_all}
use Rattle.r3_rows.specs.declared.rows.Key.TheVariants as keys
use Rattle.r3_rows.specs.declared.rows.Cell.{Cell}
use Rattle.r3_rows.specs.declared.rows.FlowRow.{FlowRow}
use Rattle.r3_entry.specs.declared.entry.Entry.{Entry}
use Rattle.r3_model.specs.Language.{Text, Language}
use Rattle.r3_model.specs.Rows.{flow_of, flow_at}
use Rattle.r3_laws.proofs.Frame.{cell_at-before, length-push}
use Rattle.r3_repeats.specs.Flows.{row_now, IsSameFlow, IsFirstOf}
use Rattle.r3_repeats.specs.Laws.{EachHasFirst}
use Rattle.r3_repeats.proofs.Same.{same-refl, same-trans}
use Rattle.r3_repeats.proofs.Keeping.{IsGiven}
use Rattle.r3_repeats.proofs.Bringing.{given-numbers}
use Rattle.r3_repeats.proofs.Growing.{AllGiven, Grows, grows-take, grows-keeps, flow-take, made-given}

-- what stood after the first entries stands after them in a longer history
flow-before : (h more : List Entry) (j : ℕ) (id : Text) → j ≤ length h → flow_at (h ++ more) j id ≡ flow_at h j id
flow-before h more j id le = ap (λ (c : Option Cell). option_and_then flow_of c) (cell_at-before h more j (keys.Flow id) le)

flow-grown : (P : Language) (g h : List Entry) (grows : Grows P g h) (j : ℕ) (id : Text) → j ≤ length g → flow_at h j id ≡ flow_at g j id
flow-grown P g h grows j id le = ap (λ (x : List Entry). flow_at x j id) grows.is ∙ flow-before g grows.entries j id le

-- the workflow is there after the first entries
abbrev StaysAt : List Entry → ℕ → Text → FlowRow → Type 0
StaysAt h j id row = (later : FlowRow) × (flow_at h j id ≡ Some later) × IsSameFlow row later

pub first-grown : (P : Language) (g h : List Entry) (id : Text) (k : ℕ) (row : FlowRow) → Grows P g h → IsFirstOf g id k row → IsFirstOf h id k row
first-grown P g h id k row grows first =
    let longer : length h ≡ length g + length grows.entries = ap (λ (x : List Entry). length x) grows.is ∙ length-append g grows.entries in
    record {
      within = omega (arith, longer, first.within);
      none_before = λ j le. flow-grown P g h grows j id (omega (arith, le, first.within)) ∙ first.none_before j le;
      starts = flow-grown P g h grows (k + 1) id (omega (arith, first.within)) ∙ first.starts;
      number = first.number;
      since = λ j lt. elim (cases_lt (length g) j) [ inl past ↦ later j past | inr within ↦ sooner j lt within ];
    } where
      sooner : (j : ℕ) → k < j → j ≤ length g → StaysAt h j id row
      sooner j lt le = let s = first.since j lt in (s.0, flow-grown P g h grows j id le ∙ s.1, s.2)

      later : (j : ℕ) → length g < j → StaysAt h j id row
      later j lt =
          let s = first.since (length g) first.within in
          let r = grows-keeps P g (take j h) id s.0 (grows-take P g h j grows (omega (arith, lt))) s.1 in
          (r.0, flow-take h j id ∙ r.1, same-trans row s.0 r.0 s.2 r.2)

-- ---- the first is found

module _ (P : Language) (id : Text) where
  abbrev NoneIn : List Entry → Type 0
  NoneIn g = (j : ℕ) → j ≤ length g → flow_at g j id ≡ None

  record HasFirst (h : List Entry) (row : FlowRow) : Type 0 where
    k : ℕ
    first : FlowRow
    is : IsFirstOf h id k first
    same : IsSameFlow first row

  none-push : (g : List Entry) (e : Entry) → NoneIn g → row_now (g ++ e ∷ []) id ≡ None → NoneIn (g ++ e ∷ [])
  none-push g e none last j le = elim (cases_lt (length g) j) [ inl past ↦ at_end past | inr within ↦ flow-before g (e ∷ []) j id within ∙ none j within ] where
    at_end : length g < j → flow_at (g ++ e ∷ []) j id ≡ None
    at_end past =
        let same : j ≡ length (g ++ e ∷ []) = omega (arith, past, le, length-push g e) in
        ap (λ (i : ℕ). flow_at (g ++ e ∷ []) i id) same ∙ last

  first-push : (g : List Entry) (e : Entry) (first : FlowRow) → NoneIn g → IsGiven P g e → row_now (g ++ e ∷ []) id ≡ Some first → IsFirstOf (g ++ e ∷ []) id (length g) first
  first-push g e first none given_is there = record {
    within = omega (arith, length-push g e);
    none_before = λ j le. flow-before g (e ∷ []) j id le ∙ none j le;
    starts = ap (λ (i : ℕ). flow_at (g ++ e ∷ []) i id) (sym (length-push g e)) ∙ there;
    number = given-numbers P g id (none (length g) (omega arith)) e given_is first there;
    since = λ j lt. (first, flow-take (g ++ e ∷ []) j id ∙ ap (λ (x : List Entry). row_now x id) (take_all j (g ++ e ∷ []) (omega (arith, lt, length-push g e))) ∙ there, same-refl first);
  }

  found : (g : List Entry) (e : Entry) (es : List Entry) (row first : FlowRow) → IsFirstOf (g ++ e ∷ []) id (length g) first → AllGiven P (g ++ e ∷ []) es → row_now (g ++ e ∷ []) id ≡ Some first → row_now (g ++ e ∷ es) id ≡ Some row → HasFirst (g ++ e ∷ es) row
  found g e es row first is given_all there last =
      let grows : Grows P (g ++ e ∷ []) (g ++ e ∷ es) = record { entries = es; given = given_all; is = sym (append_assoc g (e ∷ []) es) } in
      let s = grows-keeps P (g ++ e ∷ []) (g ++ e ∷ es) id first grows there in
      let both : Some s.0 ≡ Some row = sym s.1 ∙ last in
      let same : s.0 ≡ row = cc in
      let Of : FlowRow → Type 0 = λ r. IsSameFlow first r in
      record { k = length g; first = first; is = first-grown P (g ++ e ∷ []) (g ++ e ∷ es) id (length g) first grows is; same = subst Of same s.2 }

  by_row : (g : List Entry) (e : Entry) (es : List Entry) (row : FlowRow) → NoneIn g → AllGiven P g (e ∷ es) → row_now (g ++ e ∷ es) id ≡ Some row
      → (o : Option FlowRow) → row_now (g ++ e ∷ []) id ≡ o → (row_now (g ++ e ∷ []) id ≡ None → HasFirst (g ++ e ∷ es) row) → HasFirst (g ++ e ∷ es) row
  by_row g e es row none a last None is later = later is
  by_row g e es row none a last (Some first) is later = found g e es row first (first-push g e first none a.0 is) a.1 is last

  find-first : (g es : List Entry) (row : FlowRow) → NoneIn g → AllGiven P g es → row_now (g ++ es) id ≡ Some row → HasFirst (g ++ es) row
  find-first g [] row none a last =
      absurd (let z : None ≡ Some row = sym (none (length g) (omega arith)) ∙ ap (λ (x : List Entry). row_now x id) (sym (append-nil g)) ∙ last in cc)
  find-first g (e ∷ es) row none a last =
      by_row g e es row none a last (row_now (g ++ e ∷ []) id) refl
      (λ gone.
      let Of : List Entry → Type 0 = λ x. HasFirst x row in
      subst Of (append_assoc g (e ∷ []) es) (find-first (g ++ e ∷ []) es row (none-push g e none gone) a.1 (ap (λ (x : List Entry). row_now x id) (append_assoc g (e ∷ []) es) ∙ last)))

pub each-has_first : EachHasFirst
each-has_first P h id row made there =
    let f : HasFirst P id h row = find-first P id [] h row (λ j le. let z : j ≡ 0 = omega (arith, le) in ap (λ (i : ℕ). flow_at [] i id) z) (made-given P h made) there in
    (f.k, f.first, f.is, f.same)
