-- Which expressions are sound in a scope.
use Rattle.fn_tree.specs.declared.expr.Expr.{Expr}
use Rattle.fn_tree.specs.declared.expr.Expr.TheFolds.{fold-Expr}
use Rattle.fn_tree.specs.declared.expr.Expr.TheOpen.{Expr-F}
use Rattle.fn_tree.specs.declared.program.Item.{Item}
use Rattle.std.specs.Prelude.{ℕ, Bool, true, ◌&&◌, List, [], ◌∷◌, length}
use Rattle.fn_tree.specs.Declarations.{contains, is_helper, any}

-- the names in scope, the newest last
abbrev pub Scope : Type 0
Scope = List (List ℕ)

-- whether something is sound in a scope
abbrev pub Test : Type 0
Test = Scope → Bool

abbrev pub each_is : List Test → Test
each_is [] scope = true
each_is (t ∷ ts) scope = t scope && each_is ts scope

-- One node: its names are bound, and its helpers are among the items with that number of parameters.
abbrev pub node_is_sound : List Item → Expr-F Test → Test
node_is_sound items (Expr-F.Int z) scope = true
node_is_sound items (Expr-F.Text t) scope = true
node_is_sound items Expr-F.Null scope = true
node_is_sound items Expr-F.True scope = true
node_is_sound items Expr-F.False scope = true
node_is_sound items (Expr-F.Name x) scope = contains scope x
node_is_sound items (Expr-F.Helper name args) scope = any (is_helper name (length args)) items && each_is args scope
node_is_sound items (Expr-F.List es) scope = each_is es scope
node_is_sound items (Expr-F.Len a) scope = a scope
node_is_sound items (Expr-F.Str a) scope = a scope
node_is_sound items (Expr-F.Neg a) scope = a scope
node_is_sound items (Expr-F.Not a) scope = a scope
node_is_sound items (Expr-F.Index a b) scope = a scope && b scope
node_is_sound items (Expr-F.Or a b) scope = a scope && b scope
node_is_sound items (Expr-F.And a b) scope = a scope && b scope
node_is_sound items (Expr-F.Eq a b) scope = a scope && b scope
node_is_sound items (Expr-F.Ne a b) scope = a scope && b scope
node_is_sound items (Expr-F.Lt a b) scope = a scope && b scope
node_is_sound items (Expr-F.Le a b) scope = a scope && b scope
node_is_sound items (Expr-F.Gt a b) scope = a scope && b scope
node_is_sound items (Expr-F.Ge a b) scope = a scope && b scope
node_is_sound items (Expr-F.Add a b) scope = a scope && b scope
node_is_sound items (Expr-F.Sub a b) scope = a scope && b scope
node_is_sound items (Expr-F.Join a b) scope = a scope && b scope
node_is_sound items (Expr-F.Mul a b) scope = a scope && b scope
node_is_sound items (Expr-F.Div a b) scope = a scope && b scope
node_is_sound items (Expr-F.Rem a b) scope = a scope && b scope

abbrev pub expr_is_sound : List Item → Expr → Test
expr_is_sound items = fold-Expr Test (node_is_sound items)
