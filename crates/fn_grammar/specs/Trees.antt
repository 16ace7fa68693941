-- The trees of the parts that were read: a stack of each kind, and the items. A rule's symbols
-- leave there what `Make` takes, so the trees that are named for an empty stack never come up.
use Rattle.std.specs.Prelude.{ℕ, List, [], ◌∷◌, ◌++◌, Option, Some, None, false}
use Rattle.fn_tree.specs.declared.expr.Expr.{Expr}
use Rattle.fn_tree.specs.declared.expr.Expr as tree
use Rattle.fn_tree.specs.declared.stmt.Ask.{Ask}
use Rattle.fn_tree.specs.declared.stmt.Ask.TheVariants as step
use Rattle.fn_tree.specs.declared.stmt.Rhs.{Rhs}
use Rattle.fn_tree.specs.declared.stmt.Rhs.TheVariants as right
use Rattle.fn_tree.specs.declared.stmt.Stmt.{Stmt}
use Rattle.fn_tree.specs.declared.stmt.Stmt as stmt
use Rattle.fn_tree.specs.declared.program.Item.{Item}
use Rattle.fn_tree.specs.declared.program.Item.TheVariants as item
use Rattle.fn_grammar.specs.declared.symbol.Action.{Action}
use Rattle.fn_grammar.specs.declared.symbol.Action.TheVariants as act
use Rattle.fn_grammar.specs.declared.symbol.Binary.{Binary}
use Rattle.fn_grammar.specs.declared.symbol.Binary.TheVariants as two
use Rattle.fn_grammar.specs.declared.symbol.Unary.{Unary}
use Rattle.fn_grammar.specs.declared.symbol.Unary.TheVariants as one
use Rattle.fn_grammar.specs.declared.symbol.Declaration.{Declaration}
use Rattle.fn_grammar.specs.declared.symbol.Declaration.TheVariants as item_kind
use Rattle.fn_grammar.specs.declared.symbol.Statement.{Statement}
use Rattle.fn_grammar.specs.declared.symbol.Statement.TheVariants as stmt_kind
use Rattle.fn_grammar.specs.declared.symbol.Binding.{Binding}
use Rattle.fn_grammar.specs.declared.symbol.Binding.TheVariants as bind_kind

-- names and lists of them, numbers of queues, expressions and lists of them, steps, right sides,
-- blocks; and the items
pub record Trees : Type 0 where
  pub names : List (List ℕ)
  pub lists : List (List (List ℕ))
  pub bounds : List ℕ
  pub exprs : List Expr
  pub groups : List (List Expr)
  pub asks : List Ask
  pub rights : List Rhs
  pub blocks : List (List Stmt)
  pub items : List Item

abbrev pub no_trees : Trees
no_trees =
    record {
      names = [];
      lists = [];
      bounds = [];
      exprs = [];
      groups = [];
      asks = [];
      rights = [];
      blocks = [];
      items = [];
    }

-- the first, and the others
abbrev pub first : {X : Type 0} → X → List X → X
first d [] = d
first d (x ∷ xs) = x

abbrev pub rest : {X : Type 0} → List X → List X
rest [] = []
rest (x ∷ xs) = xs

abbrev pub head : {X : Type 0} → List X → Option X
head [] = None
head (x ∷ xs) = Some x

-- what stands on top of each stack
abbrev pub name : Trees → List ℕ
name t = first [] t.names

abbrev pub list : Trees → List (List ℕ)
list t = first [] t.lists

abbrev pub bound : Trees → ℕ
bound t = first 0 t.bounds

abbrev pub expr : Trees → Expr
expr t = first tree.Null t.exprs

abbrev pub group : Trees → List Expr
group t = first [] t.groups

abbrev pub ask : Trees → Ask
ask t = first (step.Await tree.Null) t.asks

abbrev pub rhs : Trees → Rhs
rhs t = first (right.Plain tree.Null) t.rights

abbrev pub block : Trees → List Stmt
block t = first [] t.blocks

-- the two below those
abbrev pub expr_below : Trees → Expr
expr_below t = first tree.Null (rest t.exprs)

abbrev pub block_below : Trees → List Stmt
block_below t = first [] (rest t.blocks)

-- one more at the end of the list on top
abbrev pub onto : {X : Type 0} → X → List (List X) → List (List X)
onto x xss = (first [] xss ++ x ∷ []) ∷ rest xss

-- the node of an operation
abbrev pub node_of_two : Binary → Expr → Expr → Expr
node_of_two two.Or a b = tree.Or a b
node_of_two two.And a b = tree.And a b
node_of_two two.Eq a b = tree.Eq a b
node_of_two two.Ne a b = tree.Ne a b
node_of_two two.Lt a b = tree.Lt a b
node_of_two two.Le a b = tree.Le a b
node_of_two two.Gt a b = tree.Gt a b
node_of_two two.Ge a b = tree.Ge a b
node_of_two two.Add a b = tree.Add a b
node_of_two two.Sub a b = tree.Sub a b
node_of_two two.Join a b = tree.Join a b
node_of_two two.Mul a b = tree.Mul a b
node_of_two two.Div a b = tree.Div a b
node_of_two two.Rem a b = tree.Rem a b
node_of_two two.Index a b = tree.Index a b

abbrev pub node_of_one : Unary → Expr → Expr
node_of_one one.Neg a = tree.Neg a
node_of_one one.Not a = tree.Not a
node_of_one one.Len a = tree.Len a
node_of_one one.Str a = tree.Str a

-- a statement is put behind the others of its block
abbrev pub statement_made : Statement → Trees → Trees
statement_made stmt_kind.Let t =
    record t {
      names = rest t.names;
      rights = rest t.rights;
      blocks = onto (stmt.Let (name t) (rhs t)) t.blocks;
    }
statement_made stmt_kind.Set t =
    record t {
      names = rest t.names;
      rights = rest t.rights;
      blocks = onto (stmt.Set (name t) (rhs t)) t.blocks;
    }
statement_made stmt_kind.Do t = record t { asks = rest t.asks; blocks = onto (stmt.Do (ask t)) t.blocks }
statement_made stmt_kind.Put t =
    record t {
      names = rest t.names;
      exprs = rest (rest t.exprs);
      blocks = onto (stmt.Put (name t) (expr_below t) (expr t)) t.blocks;
    }
statement_made stmt_kind.Delete t =
    record t {
      names = rest t.names;
      exprs = rest t.exprs;
      blocks = onto (stmt.Delete (name t) (expr t)) t.blocks;
    }
statement_made stmt_kind.If t =
    record t {
      exprs = rest t.exprs;
      blocks = onto (stmt.If (expr t) (block t) None) (rest t.blocks);
    }
statement_made stmt_kind.IfElse t =
    record t {
      exprs = rest t.exprs;
      blocks = onto (stmt.If (expr t) (block_below t) (Some (block t))) (rest (rest t.blocks));
    }
statement_made stmt_kind.While t =
    record t { exprs = rest t.exprs; blocks = onto (stmt.While (expr t) (block t)) (rest t.blocks) }
statement_made stmt_kind.Each t =
    record t {
      names = rest t.names;
      exprs = rest t.exprs;
      blocks = onto (stmt.Each (name t) (expr t) (block t)) (rest t.blocks);
    }
statement_made stmt_kind.Try t =
    record t {
      names = rest t.names;
      blocks = onto (stmt.Try (block_below t) (name t) (block t)) (rest (rest t.blocks));
    }
statement_made stmt_kind.Return t =
    record t { exprs = rest t.exprs; blocks = onto (stmt.Return (expr t)) t.blocks }
statement_made stmt_kind.Fail t =
    record t { exprs = rest t.exprs; blocks = onto (stmt.Fail (expr t)) t.blocks }

-- a right side or a step
abbrev pub binding_made : Binding → Trees → Trees
binding_made bind_kind.Call t =
    record t {
      names = rest t.names;
      groups = rest t.groups;
      asks = step.Call (name t) (group t) ∷ t.asks;
    }
binding_made bind_kind.Spawn t =
    record t {
      names = rest t.names;
      groups = rest t.groups;
      asks = step.Spawn (name t) (group t) ∷ t.asks;
    }
binding_made bind_kind.Await t = record t { exprs = rest t.exprs; asks = step.Await (expr t) ∷ t.asks }
binding_made bind_kind.Asked t = record t { asks = rest t.asks; rights = right.Ask (ask t) ∷ t.rights }
binding_made bind_kind.Get t =
    record t {
      names = rest t.names;
      exprs = rest t.exprs;
      rights = right.Get (name t) (expr t) ∷ t.rights;
    }
binding_made bind_kind.Scan t =
    record t {
      names = rest t.names;
      exprs = rest (rest t.exprs);
      rights = right.Scan (name t) (expr_below t) (expr t) ∷ t.rights;
    }
binding_made bind_kind.Plain t =
    record t { exprs = rest t.exprs; rights = right.Plain (expr t) ∷ t.rights }

-- an item is put behind the others
abbrev pub item_made : Declaration → Trees → Trees
item_made item_kind.Table t =
    record t { names = rest t.names; items = t.items ++ item.Table (name t) ∷ [] }
item_made item_kind.Queue t =
    record t {
      names = rest t.names;
      bounds = rest t.bounds;
      items = t.items ++ item.Queue (name t) (bound t) ∷ [];
    }
item_made item_kind.Outside t =
    record t {
      names = rest t.names;
      lists = rest t.lists;
      items = t.items ++ item.Outside (name t) (list t) ∷ [];
    }
item_made item_kind.Helper t =
    record t {
      names = rest t.names;
      lists = rest t.lists;
      exprs = rest t.exprs;
      items = t.items ++ item.Helper (name t) (list t) (expr t) ∷ [];
    }
item_made item_kind.Txn t =
    record t {
      names = rest t.names;
      lists = rest t.lists;
      blocks = rest t.blocks;
      items = t.items ++ item.Txn false (name t) (list t) (block t) ∷ [];
    }
item_made item_kind.Flow t =
    record t {
      names = rest t.names;
      lists = rest t.lists;
      blocks = rest t.blocks;
      items = t.items ++ item.Flow (name t) (list t) (block t) ∷ [];
    }

-- the trees after an action
abbrev pub made : Action → Trees → Trees
made (act.Item k) t = item_made k t
made (act.Stmt k) t = statement_made k t
made (act.Bind k) t = binding_made k t
made (act.Two op) t = record t { exprs = node_of_two op (expr_below t) (expr t) ∷ rest (rest t.exprs) }
made (act.One op) t = record t { exprs = node_of_one op (expr t) ∷ rest t.exprs }
made act.NoNames t = record t { lists = [] ∷ t.lists }
made act.AddName t = record t { names = rest t.names; lists = onto (name t) t.lists }
made act.NoExprs t = record t { groups = [] ∷ t.groups }
made act.AddExpr t = record t { exprs = rest t.exprs; groups = onto (expr t) t.groups }
made act.Empty t = record t { blocks = [] ∷ t.blocks }
made act.Null t = record t { exprs = tree.Null ∷ t.exprs }
made act.True t = record t { exprs = tree.True ∷ t.exprs }
made act.False t = record t { exprs = tree.False ∷ t.exprs }
made act.List t = record t { groups = rest t.groups; exprs = tree.List (group t) ∷ t.exprs }
made act.Apply t =
    record t {
      names = rest t.names;
      groups = rest t.groups;
      exprs = tree.Helper (name t) (group t) ∷ t.exprs;
    }
made act.Variable t = record t { names = rest t.names; exprs = tree.Name (name t) ∷ t.exprs }
