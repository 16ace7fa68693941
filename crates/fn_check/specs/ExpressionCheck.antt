-- The first fault of an expression.
use Rattle.std.specs.Prelude.{◌≡◌, Result, Ok, Err, List, [], ◌∷◌, length}
use Rattle.fn_tree.specs.declared.expr.Expr.{Expr}
use Rattle.fn_tree.specs.declared.expr.Expr.TheFolds.{fold-Expr}
use Rattle.fn_tree.specs.declared.expr.Expr.TheOpen.{Expr-F}
use Rattle.fn_tree.specs.declared.program.Item.{Item}
use Rattle.fn_tree.specs.Soundness.{contains, is_some}
use Rattle.fn_check.specs.declared.fault.CheckKind.TheVariants.{Unbound}
use Rattle.fn_check.specs.Found.{Check, then_, needs, none}
use Rattle.fn_check.specs.Uses.{declared, helper_use}

abbrev pub each_check : List Check → Check
each_check [] scope = none
each_check (c ∷ cs) scope = then_ (c scope) (λ u. each_check cs scope)

abbrev pub both_check : Check → Check → Check
both_check a b scope = then_ (a scope) (λ u. b scope)

-- One node, among all items, of which the helpers of the given ones may be called.
abbrev pub node_check : List Item → List Item → Expr-F Check → Check
node_check callable items (Expr-F.Int z) scope = none
node_check callable items (Expr-F.Text t) scope = none
node_check callable items Expr-F.Null scope = none
node_check callable items Expr-F.True scope = none
node_check callable items Expr-F.False scope = none
node_check callable items (Expr-F.Name x) scope = needs (contains scope x) Unbound
node_check callable items (Expr-F.Helper name args) scope =
    then_ (helper_use (declared items name) (is_some (declared callable name)) (length args)) (λ u. each_check args scope)
node_check callable items (Expr-F.List es) scope = each_check es scope
node_check callable items (Expr-F.Len a) scope = a scope
node_check callable items (Expr-F.Str a) scope = a scope
node_check callable items (Expr-F.Neg a) scope = a scope
node_check callable items (Expr-F.Not a) scope = a scope
node_check callable items (Expr-F.Index a b) scope = both_check a b scope
node_check callable items (Expr-F.Or a b) scope = both_check a b scope
node_check callable items (Expr-F.And a b) scope = both_check a b scope
node_check callable items (Expr-F.Eq a b) scope = both_check a b scope
node_check callable items (Expr-F.Ne a b) scope = both_check a b scope
node_check callable items (Expr-F.Lt a b) scope = both_check a b scope
node_check callable items (Expr-F.Le a b) scope = both_check a b scope
node_check callable items (Expr-F.Gt a b) scope = both_check a b scope
node_check callable items (Expr-F.Ge a b) scope = both_check a b scope
node_check callable items (Expr-F.Add a b) scope = both_check a b scope
node_check callable items (Expr-F.Sub a b) scope = both_check a b scope
node_check callable items (Expr-F.Join a b) scope = both_check a b scope
node_check callable items (Expr-F.Mul a b) scope = both_check a b scope
node_check callable items (Expr-F.Div a b) scope = both_check a b scope
node_check callable items (Expr-F.Rem a b) scope = both_check a b scope

abbrev pub expr_check : List Item → List Item → Expr → Check
expr_check callable items = fold-Expr Check (node_check callable items)
