-- Each recorded step's name is what its workflow asked for on the steps before it.
use Rattle.std.proofs.Common.{◌≡◌, ◌≢◌, ℕ, ◌<◌, List, [], ◌∷◌, ◌++◌, map, length, take, Some, None, sym, subst, ap, ◌∙◌, arith, inl, inr}
use Rattle.std.specs.Prelude.{slice_get}
use Rattle.std.proofs.lemmas.List.{map-append}
use Rattle.r3_value.specs.declared.value.Val.{Val}
use Rattle.r3_rows.specs.declared.rows.StepRow.{StepRow}
use Rattle.r3_model.specs.Language.{Text, Language}
use Rattle.fn_tree.specs.declared.flow.Answer.{Answer}
use Rattle.fn_tree.specs.declared.flow.Request.{Request}
use Rattle.fn_tree.specs.declared.flow.FlowEnd.{FlowEnd}
use Rattle.fn_tree.specs.declared.flow.FlowEnd.TheVariants.{Asks, Unexpected}
use Rattle.r3_model.specs.Rows.{answer_of}
use Rattle.r3_model.specs.Lawful.{IsLawful, Counts}
use Rattle.r3_laws.proofs.Places.{push-cases, take-cases, EndsIn, last-case}

-- after these steps the workflow asks for this name
pub record AsksFor (P : Language) (function : Text) (args : Val) (steps : List StepRow) (name : Text) : Type 0 where
  pub request : Request
  pub asks : P.flow function args (map answer_of steps) ≡ Asks request
  pub name_is : name ≡ request.name

module _ (P : Language) (function : Text) (args : Val) where
  abbrev pub Expected : List StepRow → Type 0
  Expected steps = (k : ℕ) (r : StepRow) → slice_get steps k ≡ Some r → AsksFor P function args (take k steps) r.name

  pub expected-none : Expected []
  expected-none k r is = absurd (let e : None ≡ Some r = is in cc)

  moved : (steps old : List StepRow) (name : Text) → steps ≡ old → AsksFor P function args old name → AsksFor P function args steps name
  moved steps old name is a = let Of : List StepRow → Type 0 = λ s. AsksFor P function args s name in subst Of (sym is) a

  pub expected-push : (steps : List StepRow) (r : StepRow) → Expected steps → AsksFor P function args steps r.name → Expected (steps ++ r ∷ [])
  expected-push steps r old new k x is =
      elim (push-cases steps r k x is) [
        | inl before ↦ moved (take k (steps ++ r ∷ [])) (take k steps) x.name before.1 (old k x before.0)
        | inr here ↦ moved (take k (steps ++ r ∷ [])) steps x.name here.1 (let Of : StepRow → Type 0 = λ y. AsksFor P function args steps y.name in subst Of here.0 new)
      ]

  pub expected-take : (steps : List StepRow) (b : ℕ) → Expected steps → Expected (take b steps)
  expected-take steps b old k r is =
      let t = take-cases b steps k r is in
      moved (take k (take b steps)) (take k steps) r.name t.1 (old k r t.0)

  -- so no run on them meets a name that it doesn't expect
  pub never-unexpected : IsLawful P → (steps : List StepRow) → Expected steps → (n : ℕ) (recorded asked : Text) → P.flow function args (map answer_of steps) ≢ Unexpected n recorded asked
  never-unexpected lawful [] old n recorded asked is =
      let Of : FlowEnd → Type 0 = Counts 0 in
      let lt : n < 0 = subst Of is (lawful.counts function args []) in
      absurd (omega arith)
  never-unexpected lawful (s ∷ steps) old n recorded asked is =
      let v : EndsIn (s ∷ steps) = last-case s steps in
      let a : AsksFor P function args v.first v.last.name = moved v.first (take (length v.first) (s ∷ steps)) v.last.name (sym v.before) (old (length v.first) v.last v.at) in
      let whole : map answer_of (s ∷ steps) ≡ map answer_of v.first ++ answer_of v.last ∷ [] = ap (λ (l : List StepRow). map answer_of l) v.whole ∙ map-append answer_of v.first (v.last ∷ []) in
      lawful.goes_on function args (map answer_of v.first) (answer_of v.last) a.request a.asks a.name_is n recorded asked (ap (λ (l : List Answer). P.flow function args l) (sym whole) ∙ is)
