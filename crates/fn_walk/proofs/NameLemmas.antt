-- The newest binding of a name, from the end of the bindings.
use Rattle.std.proofs.Common.{◌≡◌, ℕ, ◌<◌, Bool, true, false, not, ◌||◌, List, [], ◌∷◌, ◌++◌, length, get_or, Option, Some, None, refl, ap, sym, ◌∙◌, arith}
use Rattle.std.proofs.lemmas.List.{set-append_left, get_or_append_left, get_or_push, length-append, set_at}
use Rattle.std.specs.Prelude.{if◌then◌else◌, slice_set}
use Rattle.std.specs.Str.{bytes_eq}
use Rattle.r3_value.specs.declared.value.Val.{Val}
use Rattle.fn_tree.specs.Evaluation.{Binding}
use Rattle.fn_tree.specs.Ends.{is_bound, assigned}
use Rattle.fn_walk.specs.Newest.{IsNewest}

or_true : (b : Bool) → (b || true) ≡ true
or_true true = refl
or_true false = refl

bound_last : (env : List Binding) (b : Binding) (name : List ℕ) → bytes_eq b.0 name ≡ true → is_bound (env ++ b ∷ []) name ≡ true
bound_last [] b name h = rw h refl
bound_last (d ∷ env) b name h = rw (bound_last env b name h) (or_true (bytes_eq d.0 name))

bound_other : (env : List Binding) (b : Binding) (name : List ℕ) → bytes_eq b.0 name ≡ false → is_bound (env ++ b ∷ []) name ≡ is_bound env name
bound_other [] b name h = rw h refl
bound_other (d ∷ env) b name h = ap (λ x. bytes_eq d.0 name || x) (bound_other env b name h)

assigned_last : (env : List Binding) (b : Binding) (name : List ℕ) (v : Val) → bytes_eq b.0 name ≡ true → assigned (env ++ b ∷ []) name v ≡ env ++ (b.0, v) ∷ []
assigned_last [] b name v h = rw h refl
assigned_last (d ∷ env) b name v h = rw (bound_last env b name h, assigned_last env b name v h) refl

if_last : (c : Bool) (x y z : List Binding) (d e : Binding) → x ≡ y ++ e ∷ [] → (if c then d ∷ x else z ++ e ∷ []) ≡ (if c then d ∷ y else z) ++ e ∷ []
if_last true x y z d e h = ap (λ l. d ∷ l) h
if_last false x y z d e h = refl

assigned_other : (env : List Binding) (b : Binding) (name : List ℕ) (v : Val) → bytes_eq b.0 name ≡ false → assigned (env ++ b ∷ []) name v ≡ assigned env name v ++ b ∷ []
assigned_other [] b name v h = rw h refl
assigned_other (d ∷ env) b name v h =
    ap (λ c. if c || not (bytes_eq d.0 name) then d ∷ assigned (env ++ b ∷ []) name v else (d.0, v) ∷ env ++ b ∷ []) (bound_other env b name h)
    ∙ if_last (is_bound env name || not (bytes_eq d.0 name)) (assigned (env ++ b ∷ []) name v) (assigned env name v) ((d.0, v) ∷ env) d b (assigned_other env b name v h)

pub newest_none : (name : List ℕ) → IsNewest [] name None
newest_none name = λ v. refl

pub newest_here : (env : List Binding) (b : Binding) (name : List ℕ) → bytes_eq b.0 name ≡ true → IsNewest (env ++ b ∷ []) name (Some (length env))
newest_here env b name h = (
  omega (arith, length-append env (b ∷ [])),
  λ v c is. let same : c ≡ b = is ∙ get_or_push env b c (length env) refl in
      assigned_last env b name v h ∙ sym (set_at env b [] (b.0, v) (length env) refl) ∙ ap (λ d. slice_set (env ++ b ∷ []) (length env) (d.0, v)) (sym same),
)

pub newest_other : (env : List Binding) (b : Binding) (name : List ℕ) (r : Option ℕ) → bytes_eq b.0 name ≡ false → IsNewest env name r → IsNewest (env ++ b ∷ []) name r
newest_other env b name None h n = λ v. assigned_other env b name v h ∙ ap (λ l. l ++ b ∷ []) (n v)
newest_other env b name (Some i) h n = (
  omega (arith, length-append env (b ∷ []), n.0),
  λ v c is. assigned_other env b name v h ∙ ap (λ l. l ++ b ∷ []) (n.1 v c (is ∙ get_or_append_left env (b ∷ []) c i n.0)) ∙ sym (set-append_left env (b ∷ []) i (c.0, v) n.0),
)
