-- The values of an array and their size, item by item.
use Rattle.std.proofs.Common.{◌≡◌, ℕ, ◌+◌, ◌<◌, ◌≤◌, max, List, [], ◌∷◌, ◌++◌, length, get_or, drop, map, Ok, Err, Result, ◌⊎◌, inl, inr, refl, ap, sym, ◌∙◌}
use Rattle.std.proofs.lemmas.List.{drop_more, drop_all}
use Rattle.serde_json.specs.Data.{item}
use Rattle.serde_json.specs.View.{view, items_view, items_of as items_of_data}
use Rattle.serde_json.specs.declared.value.Value.{Value as Json}
use Rattle.r3_value.specs.Value as value
use Rattle.r3_value.specs.declared.value.Val.{Val}
use Rattle.r3_value.specs.View.{value_of, items_of}
use Rattle.r3_json.specs.declared.fault.JsonFault.{JsonFault}
use Rattle.r3_json.specs.declared.fault.JsonFault.TheVariants.{Memory}
use Rattle.r3_json.specs.declared.sizes.Size.{Size}
use Rattle.r3_json.specs.Values.{data_of, items_data, before, first_then, value_from, values_from}

-- the values found so far, and then what the rest gives
abbrev pub after : List Val → Result value.Items JsonFault → Result value.Items JsonFault
after [] r = r
after (v ∷ vs) r = before (value_of v) (after vs r)

after-push : (vs : List Val) (v : Val) (r : Result value.Items JsonFault) → after (vs ++ v ∷ []) r ≡ after vs (before (value_of v) r)
after-push [] v r = refl
after-push (w ∷ vs) v r = ap (before (value_of w)) (after-push vs v r)

after-Err : (vs : List Val) (e : JsonFault) → after vs (Err e) ≡ Err e
after-Err [] e = refl
after-Err (v ∷ vs) e = ap (before (value_of v)) (after-Err vs e)

after-Ok : (vs : List Val) → after vs (Ok value.no_items) ≡ Ok (items_of vs)
after-Ok [] = refl
after-Ok (v ∷ vs) = ap (before (value_of v)) (after-Ok vs)

-- what the rest of the array gives
abbrev pub rest_from : List Json → ℕ → Result value.Items JsonFault
rest_from js i = values_from (items_view (drop i js))

next : (js : List Json) (i : ℕ) (j : Json) → i < length js → j ≡ get_or js i j → rest_from js i ≡ first_then (value_from (view j)) (rest_from js (i + 1))
next js i j lt is =
    ap (λ xs. values_from (items_view xs)) (drop_more js i j lt) ∙ ap (λ x. first_then (value_from (view x)) (rest_from js (i + 1))) (sym is)

-- the next item is a value
pub grown : (js : List Json) (i : ℕ) (j : Json) (vs : List Val) (v : Val) → i < length js → j ≡ get_or js i j → values_from (items_view js) ≡ after vs (rest_from js i) → value_from (view j) ≡ Ok (value_of v)
    → values_from (items_view js) ≡ after (vs ++ v ∷ []) (rest_from js (i + 1))
grown js i j vs v lt is so_far ok =
    so_far ∙ ap (after vs) (next js i j lt is ∙ ap (λ r. first_then r (rest_from js (i + 1))) ok) ∙ sym (after-push vs v (rest_from js (i + 1)))

-- the next item has a fault
pub stopped : (js : List Json) (i : ℕ) (j : Json) (vs : List Val) (e : JsonFault) → i < length js → j ≡ get_or js i j → values_from (items_view js) ≡ after vs (rest_from js i)
    → (e ≡ Memory) ⊎ (value_from (view j) ≡ Err e) → (e ≡ Memory) ⊎ (values_from (items_view js) ≡ Err e)
stopped js i j vs e lt is so_far (inl memory) = inl memory
stopped js i j vs e lt is so_far (inr bad) =
    inr (so_far ∙ ap (after vs) (next js i j lt is ∙ ap (λ r. first_then r (rest_from js (i + 1))) bad) ∙ after-Err vs e)

-- there is no further item
pub ended : (js : List Json) (i : ℕ) (vs : List Val) → length js ≤ i → values_from (items_view js) ≡ after vs (rest_from js i) → values_from (items_view js) ≡ Ok (items_of vs)
ended js i vs all so_far = so_far ∙ ap (λ xs. after vs (values_from (items_view xs))) (drop_all i js all) ∙ after-Ok vs

-- so much beside what is there already
abbrev pub beside : ℕ → ℕ → Result Size JsonFault → Result Size JsonFault
beside w d (Ok s) = Ok (record { weight = w + s.weight; depth = max d s.depth })
beside w d (Err e) = Err e

-- the JSON of a list, value by value
pub items_data-items_of : (vs : List Val) → items_data (items_of vs) ≡ items_of_data (map (λ v. data_of (value_of v)) vs)
items_data-items_of [] = refl
items_data-items_of (v ∷ vs) = ap (item (data_of (value_of v))) (items_data-items_of vs)
