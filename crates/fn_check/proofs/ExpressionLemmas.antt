-- The check of an expression, one level at a time, and what it says of soundness.
use Rattle.std.proofs.Common.{◌≡◌, ℕ, suc, Bool, List, [], ◌∷◌, refl, ap, sym, ◌∙◌, length}
use Rattle.std.specs.Prelude.{◌&&◌, map}
use Rattle.fn_tree.specs.declared.expr.Expr.{Expr, roll-Expr}
use Rattle.fn_tree.specs.declared.expr.Expr.TheOpen.{Expr-F}
use Rattle.fn_tree.specs.declared.expr.Expr as variant
use Rattle.fn_tree.specs.declared.expr.Expr.TheVariants.{rolls-Helper, rolls-List}
use Rattle.fn_tree.specs.declared.expr.Expr.TheFolds.{map-Expr, fold-roll-Expr}
use Rattle.fn_tree.specs.declared.program.Item.{Item}
use Rattle.fn_tree.specs.Soundness.{Scope, Test, contains, is_some, is_helper, any, each_is, node_is_sound, expr_is_sound}
use Rattle.fn_meaning.proofs.ExpressionLemmas.{Shown, by_levels, expr_is_sound_roll}
use Rattle.fn_check.specs.Found.{Check, then_, needs, none}
use Rattle.fn_check.specs.Uses.{declared, helper_use}
use Rattle.fn_check.specs.ExpressionCheck.{each_check, both_check, node_check, expr_check}
use Rattle.fn_check.proofs.BoolLemmas.{and_same}
use Rattle.fn_check.proofs.UseLemmas.{ok, ok_then, ok_needs, HelpersAgree}

pub check_roll : (callable items : List Item) (x : Expr-F Expr) (scope : Scope) → expr_check callable items (roll-Expr x) scope ≡ node_check callable items (map-Expr Expr Check (expr_check callable items) x) scope
check_roll callable items x scope = ap (λ (c : Check). c scope) (fold-roll-Expr Check (node_check callable items) x)

same_length : {A B C : Type 0} (f : A → B) (g : A → C) (xs : List A) → length (map f xs) ≡ length (map g xs)
same_length f g [] = refl
same_length f g (x ∷ xs) = ap (λ (n : ℕ). suc n) (same_length f g xs)

same_length_as : {A B : Type 0} (f : A → B) (xs : List A) → length (map f xs) ≡ length xs
same_length_as f [] = refl
same_length_as f (x ∷ xs) = ap (λ (n : ℕ). suc n) (same_length_as f xs)

-- the equations of the nodes that have a list, at the variant that a `match` names
pub check_helper : (callable items : List Item) (name : List ℕ) (args : List Expr) (scope : Scope) → expr_check callable items (variant.Helper name args) scope
    ≡ then_ (helper_use (declared items name) (is_some (declared callable name)) (length args)) (λ u. each_check (map (expr_check callable items) args) scope)
check_helper callable items name args scope =
    ap (λ e. expr_check callable items e scope) (sym (rolls-Helper name args)) ∙ check_roll callable items (Expr-F.Helper name args) scope
    ∙ ap (λ (n : ℕ). then_ (helper_use (declared items name) (is_some (declared callable name)) n) (λ u. each_check (map (expr_check callable items) args) scope)) (same_length_as (expr_check callable items) args)

pub check_list : (callable items : List Item) (es : List Expr) (scope : Scope) → expr_check callable items (variant.List es) scope ≡ each_check (map (expr_check callable items) es) scope
check_list callable items es scope = ap (λ e. expr_check callable items e scope) (sym (rolls-List es)) ∙ check_roll callable items (Expr-F.List es) scope

pub ruleset list_checks = (check_helper, check_list)

module _ (callable items : List Item) (agree : HelpersAgree callable items) where
  abbrev P : Expr → Type 0
  P e = (scope : Scope) → ok (expr_check callable items e scope) ≡ expr_is_sound callable e scope

  abbrev checks : List (Shown P) → List Check
  checks ss = map (expr_check callable items) (map (λ s. s.0) ss)

  abbrev tests : List (Shown P) → List Test
  tests ss = map (expr_is_sound callable) (map (λ s. s.0) ss)

  each_agrees : (ss : List (Shown P)) (scope : Scope) → ok (each_check (checks ss) scope) ≡ each_is (tests ss) scope
  each_agrees [] scope = refl
  each_agrees (s ∷ ss) scope =
      ok_then (expr_check callable items s.0 scope) (λ u. each_check (checks ss) scope)
      ∙ and_same (ok (expr_check callable items s.0 scope)) (expr_is_sound callable s.0 scope) (ok (each_check (checks ss) scope)) (each_is (tests ss) scope) (s.1 scope) (each_agrees ss scope)

  both_agree : (a b : Shown P) (scope : Scope) → ok (both_check (expr_check callable items a.0) (expr_check callable items b.0) scope) ≡ (expr_is_sound callable a.0 scope && expr_is_sound callable b.0 scope)
  both_agree a b scope =
      ok_then (expr_check callable items a.0 scope) (λ u. expr_check callable items b.0 scope)
      ∙ and_same (ok (expr_check callable items a.0 scope)) (expr_is_sound callable a.0 scope) (ok (expr_check callable items b.0 scope)) (expr_is_sound callable b.0 scope) (a.1 scope) (b.1 scope)

  helper_agrees : (name : List ℕ) (args : List (Shown P)) (scope : Scope) → ok (then_ (helper_use (declared items name) (is_some (declared callable name)) (length (checks args))) (λ u. each_check (checks args) scope))
      ≡ (any (is_helper name (length (tests args))) callable && each_is (tests args) scope)
  helper_agrees name args scope =
      ok_then (helper_use (declared items name) (is_some (declared callable name)) (length (checks args))) (λ u. each_check (checks args) scope)
      ∙ and_same (ok (helper_use (declared items name) (is_some (declared callable name)) (length (checks args)))) (any (is_helper name (length (tests args))) callable) (ok (each_check (checks args) scope)) (each_is (tests args) scope)
      (agree name (length (checks args)) ∙ ap (λ (n : ℕ). any (is_helper name n) callable) (same_length (expr_check callable items) (expr_is_sound callable) (map (λ s. s.0) args)))
      (each_agrees args scope)

  node_agrees : (y : Expr-F (Shown P)) (scope : Scope) → ok (node_check callable items (map-Expr Expr Check (expr_check callable items) (map-Expr (Shown P) Expr (λ s. s.0) y)) scope) ≡ node_is_sound callable (map-Expr Expr Test (expr_is_sound callable) (map-Expr (Shown P) Expr (λ s. s.0) y)) scope
  node_agrees (Expr-F.Int z) scope = refl
  node_agrees (Expr-F.Text t) scope = refl
  node_agrees Expr-F.Null scope = refl
  node_agrees Expr-F.True scope = refl
  node_agrees Expr-F.False scope = refl
  node_agrees (Expr-F.Name x) scope = ok_needs (contains scope x) _
  node_agrees (Expr-F.Helper name args) scope = helper_agrees name args scope
  node_agrees (Expr-F.List es) scope = each_agrees es scope
  node_agrees (Expr-F.Len a) scope = a.1 scope
  node_agrees (Expr-F.Str a) scope = a.1 scope
  node_agrees (Expr-F.Neg a) scope = a.1 scope
  node_agrees (Expr-F.Not a) scope = a.1 scope
  node_agrees (Expr-F.Index a b) scope = both_agree a b scope
  node_agrees (Expr-F.Or a b) scope = both_agree a b scope
  node_agrees (Expr-F.And a b) scope = both_agree a b scope
  node_agrees (Expr-F.Eq a b) scope = both_agree a b scope
  node_agrees (Expr-F.Ne a b) scope = both_agree a b scope
  node_agrees (Expr-F.Lt a b) scope = both_agree a b scope
  node_agrees (Expr-F.Le a b) scope = both_agree a b scope
  node_agrees (Expr-F.Gt a b) scope = both_agree a b scope
  node_agrees (Expr-F.Ge a b) scope = both_agree a b scope
  node_agrees (Expr-F.Add a b) scope = both_agree a b scope
  node_agrees (Expr-F.Sub a b) scope = both_agree a b scope
  node_agrees (Expr-F.Join a b) scope = both_agree a b scope
  node_agrees (Expr-F.Mul a b) scope = both_agree a b scope
  node_agrees (Expr-F.Div a b) scope = both_agree a b scope
  node_agrees (Expr-F.Rem a b) scope = both_agree a b scope

  level : (y : Expr-F (Shown P)) → P (roll-Expr (map-Expr (Shown P) Expr (λ s. s.0) y))
  level y scope =
      let x = map-Expr (Shown P) Expr (λ s. s.0) y in
      ap ok (check_roll callable items x scope) ∙ node_agrees y scope ∙ sym (expr_is_sound_roll callable x scope)

  -- an expression has no fault exactly where it is sound
  pub expr_agrees : (e : Expr) (scope : Scope) → ok (expr_check callable items e scope) ≡ expr_is_sound callable e scope
  expr_agrees = by_levels P level

  pub exprs_agree : (es : List Expr) (scope : Scope) → ok (each_check (map (expr_check callable items) es) scope) ≡ each_is (map (expr_is_sound callable) es) scope
  exprs_agree [] scope = refl
  exprs_agree (e ∷ es) scope =
      ok_then (expr_check callable items e scope) (λ u. each_check (map (expr_check callable items) es) scope)
      ∙ and_same (ok (expr_check callable items e scope)) (expr_is_sound callable e scope) (ok (each_check (map (expr_check callable items) es) scope)) (each_is (map (expr_is_sound callable) es) scope) (expr_agrees e scope) (exprs_agree es scope)
