-- The spelling of a tree, with parentheses round every operation with one or two operands.
use Rattle.std.specs.Prelude.{ℕ, pos, List, [], ◌∷◌, ◌++◌, map, Some, None, Bool, true, false}
use Rattle.fn_tree.specs.declared.expr.Expr.{Expr}
use Rattle.fn_tree.specs.declared.expr.Expr.TheFolds.{fold-Expr}
use Rattle.fn_tree.specs.declared.expr.Expr.TheOpen.{Expr-F}
use Rattle.fn_tree.specs.declared.stmt.Ask.{Ask}
use Rattle.fn_tree.specs.declared.stmt.Ask.TheVariants as ask
use Rattle.fn_tree.specs.declared.stmt.Rhs.{Rhs}
use Rattle.fn_tree.specs.declared.stmt.Rhs.TheVariants as rhs
use Rattle.fn_tree.specs.declared.stmt.Stmt.{Stmt}
use Rattle.fn_tree.specs.declared.stmt.Stmt.TheFolds.{fold-Stmt}
use Rattle.fn_tree.specs.declared.stmt.Stmt.TheOpen.{Stmt-F}
use Rattle.fn_tree.specs.declared.program.Item.{Item}
use Rattle.fn_tree.specs.declared.program.Item.TheVariants as item
use Rattle.fn_grammar.specs.declared.lexeme.Lexeme.{Lexeme}
use Rattle.fn_grammar.specs.declared.lexeme.Lexeme.TheVariants as lex
use Rattle.fn_spell.specs.Pieces.{Piece, a_word, a_name, a_number, a_text, expr_begins, expr_ends}

-- in parentheses
abbrev pub parens : List Piece → List Piece
parens xs = a_word lex.OpenParen ∷ (xs ++ a_word lex.CloseParen ∷ [])

-- in brackets
abbrev pub brackets : List Piece → List Piece
brackets xs = a_word lex.OpenBracket ∷ (xs ++ a_word lex.CloseBracket ∷ [])

abbrev pub comma_unless : (first : Bool) → List Piece
comma_unless true = []
comma_unless false = a_word lex.Comma ∷ []

-- each with a comma before it unless it is the first, and the closing bracket
abbrev pub separated : (first : Bool) → (close : Lexeme) → List (List Piece) → List Piece
separated first close [] = a_word close ∷ []
separated first close (x ∷ xs) = comma_unless first ++ (x ++ separated false close xs)

-- `op a`, `a op b`, `f(a)` and `a[b]`
abbrev pub one_of : Lexeme → List Piece → List Piece
one_of op a = parens (a_word op ∷ a)

abbrev pub two_of : Lexeme → List Piece → List Piece → List Piece
two_of op a b = parens (a ++ a_word op ∷ b)

abbrev pub applied : Lexeme → List Piece → List Piece
applied f a = a_word f ∷ parens a

abbrev pub indexed : List Piece → List Piece → List Piece
indexed a b = a ++ brackets b

-- one node, its operands spelled
abbrev pub node_pieces : Expr-F (List Piece) → List Piece
node_pieces (Expr-F.Int z) = a_number z ∷ []
node_pieces (Expr-F.Text t) = a_text t ∷ []
node_pieces Expr-F.Null = a_word lex.Null ∷ []
node_pieces Expr-F.True = a_word lex.True ∷ []
node_pieces Expr-F.False = a_word lex.False ∷ []
node_pieces (Expr-F.Name x) = a_name x ∷ []
node_pieces (Expr-F.Helper f args) = a_name f ∷ a_word lex.OpenParen ∷ separated true lex.CloseParen args
node_pieces (Expr-F.List es) = a_word lex.OpenBracket ∷ separated true lex.CloseBracket es
node_pieces (Expr-F.Len a) = applied lex.Len a
node_pieces (Expr-F.Str a) = applied lex.Str a
node_pieces (Expr-F.Neg a) = one_of lex.Minus a
node_pieces (Expr-F.Not a) = one_of lex.Not a
node_pieces (Expr-F.Index a b) = indexed a b
node_pieces (Expr-F.Or a b) = two_of lex.Or a b
node_pieces (Expr-F.And a b) = two_of lex.And a b
node_pieces (Expr-F.Eq a b) = two_of lex.Eq a b
node_pieces (Expr-F.Ne a b) = two_of lex.Ne a b
node_pieces (Expr-F.Lt a b) = two_of lex.Lt a b
node_pieces (Expr-F.Le a b) = two_of lex.Le a b
node_pieces (Expr-F.Gt a b) = two_of lex.Gt a b
node_pieces (Expr-F.Ge a b) = two_of lex.Ge a b
node_pieces (Expr-F.Add a b) = two_of lex.Plus a b
node_pieces (Expr-F.Sub a b) = two_of lex.Minus a b
node_pieces (Expr-F.Join a b) = two_of lex.Join a b
node_pieces (Expr-F.Mul a b) = two_of lex.Times a b
node_pieces (Expr-F.Div a b) = two_of lex.Over a b
node_pieces (Expr-F.Rem a b) = two_of lex.Percent a b

abbrev pub expr_pieces : Expr → List Piece
expr_pieces = fold-Expr (List Piece) node_pieces

-- an expression that stands in no other, between its marks
abbrev pub outer_pieces : Expr → List Piece
outer_pieces e = expr_begins ∷ (expr_pieces e ++ expr_ends ∷ [])

-- the key of a row
abbrev pub key_pieces : Expr → List Piece
key_pieces e = brackets (outer_pieces e)

-- arguments of a step
abbrev pub args_pieces : List Expr → List Piece
args_pieces es = a_word lex.OpenParen ∷ separated true lex.CloseParen (map outer_pieces es)

abbrev pub ask_pieces : Ask → List Piece
ask_pieces (ask.Call f args) = a_word lex.Call ∷ a_name f ∷ args_pieces args
ask_pieces (ask.Spawn f args) = a_word lex.Spawn ∷ a_name f ∷ args_pieces args
ask_pieces (ask.Await id) = a_word lex.Await ∷ outer_pieces id

abbrev pub rhs_pieces : Rhs → List Piece
rhs_pieces (rhs.Plain e) = outer_pieces e
rhs_pieces (rhs.Ask a) = ask_pieces a
rhs_pieces (rhs.Get table key) = a_word lex.Get ∷ a_name table ∷ key_pieces key
rhs_pieces (rhs.Scan table lo hi) =
    a_word lex.Scan ∷ a_name table ∷ brackets (outer_pieces lo ++ a_word lex.Comma ∷ outer_pieces hi)

-- closed by a semicolon
abbrev pub ended : List Piece → List Piece
ended xs = xs ++ a_word lex.Semicolon ∷ []

-- the statements of a block, and the brace that closes it
abbrev pub closed : List (List Piece) → List Piece
closed [] = a_word lex.CloseBrace ∷ []
closed (s ∷ ss) = s ++ closed ss

abbrev pub block_pieces : List (List Piece) → List Piece
block_pieces ss = a_word lex.OpenBrace ∷ closed ss

-- one statement, its inner statements spelled
abbrev pub statement_pieces : Stmt-F (List Piece) → List Piece
statement_pieces (Stmt-F.Let x r) = a_word lex.Let ∷ a_name x ∷ a_word lex.Assign ∷ ended (rhs_pieces r)
statement_pieces (Stmt-F.Set x r) = a_word lex.Set ∷ a_name x ∷ a_word lex.Assign ∷ ended (rhs_pieces r)
statement_pieces (Stmt-F.Do a) = a_word lex.Do ∷ ended (ask_pieces a)
statement_pieces (Stmt-F.Put table key e) =
    a_word lex.Put ∷ a_name table ∷ (key_pieces key ++ a_word lex.Assign ∷ ended (outer_pieces e))
statement_pieces (Stmt-F.Delete table key) = a_word lex.Delete ∷ a_name table ∷ ended (key_pieces key)
statement_pieces (Stmt-F.If cond one None) = a_word lex.If ∷ (outer_pieces cond ++ block_pieces one)
statement_pieces (Stmt-F.If cond one (Some other)) =
    a_word lex.If ∷ (outer_pieces cond ++ (block_pieces one ++ a_word lex.Else ∷ block_pieces other))
statement_pieces (Stmt-F.While cond body) = a_word lex.While ∷ (outer_pieces cond ++ block_pieces body)
statement_pieces (Stmt-F.Each x list body) =
    a_word lex.Each ∷ a_name x ∷ a_word lex.In ∷ (outer_pieces list ++ block_pieces body)
statement_pieces (Stmt-F.Try body x handler) =
    a_word lex.Try ∷ (block_pieces body ++ a_word lex.Catch ∷ a_name x ∷ block_pieces handler)
statement_pieces (Stmt-F.Return e) = a_word lex.Return ∷ ended (outer_pieces e)
statement_pieces (Stmt-F.Fail e) = a_word lex.Fail ∷ ended (outer_pieces e)

abbrev pub stmt_pieces : Stmt → List Piece
stmt_pieces = fold-Stmt (List Piece) statement_pieces

abbrev pub body_pieces : List Stmt → List Piece
body_pieces body = block_pieces (map stmt_pieces body)

abbrev pub name_pieces : List ℕ → List Piece
name_pieces x = a_name x ∷ []

abbrev pub params_pieces : List (List ℕ) → List Piece
params_pieces xs = a_word lex.OpenParen ∷ separated true lex.CloseParen (map name_pieces xs)

-- A transaction marked `serial` is spelled without its mark: the grammar has none yet.
abbrev pub item_pieces : Item → List Piece
item_pieces (item.Table x) = a_word lex.Table ∷ a_name x ∷ a_word lex.Semicolon ∷ []
item_pieces (item.Queue x n) = a_word lex.Queue ∷ a_name x ∷ a_number (pos n) ∷ a_word lex.Semicolon ∷ []
item_pieces (item.Outside x params) = a_word lex.Outside ∷ a_name x ∷ ended (params_pieces params)
item_pieces (item.Helper x params e) =
    a_word lex.Helper ∷ a_name x ∷ (params_pieces params ++ a_word lex.Assign ∷ ended (outer_pieces e))
item_pieces (item.Txn serial x params body) =
    a_word lex.Txn ∷ a_name x ∷ (params_pieces params ++ body_pieces body)
item_pieces (item.Flow x params body) =
    a_word lex.Flow ∷ a_name x ∷ (params_pieces params ++ body_pieces body)

abbrev pub program_pieces : List Item → List Piece
program_pieces [] = []
program_pieces (i ∷ items) = item_pieces i ++ program_pieces items
