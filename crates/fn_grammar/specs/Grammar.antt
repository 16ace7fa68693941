-- The grammar, as a scheme that says of each part by which rules it is written and how its tree is made.
-- A rule is a list of symbols; `Make` takes no token and makes a tree of those that stand on the stack.
use Rattle.std.specs.Prelude.{List, [], ◌∷◌}
use Rattle.fn_grammar.specs.declared.lexeme.Lexeme.TheVariants as lex
use Rattle.fn_grammar.specs.declared.symbol.Part.{Part as Nonterminal}
use Rattle.fn_grammar.specs.declared.symbol.Part.TheVariants as part
use Rattle.fn_grammar.specs.declared.symbol.Action.TheVariants as act
use Rattle.fn_grammar.specs.declared.symbol.Binary.TheVariants as two
use Rattle.fn_grammar.specs.declared.symbol.Unary.TheVariants as one
use Rattle.fn_grammar.specs.declared.symbol.Declaration.TheVariants as item_kind
use Rattle.fn_grammar.specs.declared.symbol.Statement.TheVariants as stmt_kind
use Rattle.fn_grammar.specs.declared.symbol.Binding.TheVariants as bind_kind
use Rattle.fn_grammar.specs.declared.symbol.Symbol.{Symbol}
use Rattle.fn_grammar.specs.declared.symbol.Symbol.TheVariants.{Fixed, Name, Param, Bound, Number, Text, Part, Make, Begin, End}

-- the rules of a part
abbrev pub rules : Nonterminal → List (List Symbol)
rules part.Items =
    (Fixed lex.Table ∷ Name ∷ Fixed lex.Semicolon ∷ Make (act.Item item_kind.Table) ∷
    Part part.Items ∷ []) ∷
    (Fixed lex.Queue ∷ Name ∷ Bound ∷ Fixed lex.Semicolon ∷ Make (act.Item item_kind.Queue) ∷
    Part part.Items ∷ []) ∷
    (Fixed lex.Outside ∷ Name ∷ Part part.Params ∷ Fixed lex.Semicolon ∷
    Make (act.Item item_kind.Outside) ∷ Part part.Items ∷ []) ∷
    (Fixed lex.Helper ∷ Name ∷ Part part.Params ∷ Fixed lex.Assign ∷ Part part.Outer ∷
    Fixed lex.Semicolon ∷ Make (act.Item item_kind.Helper) ∷ Part part.Items ∷ []) ∷
    (Fixed lex.Txn ∷ Name ∷ Part part.Params ∷ Part part.Block ∷
    Make (act.Item item_kind.Txn) ∷ Part part.Items ∷ []) ∷
    (Fixed lex.Flow ∷ Name ∷ Part part.Params ∷ Part part.Block ∷
    Make (act.Item item_kind.Flow) ∷ Part part.Items ∷ []) ∷
    ([]) ∷
    []
rules part.Params =
    (Fixed lex.OpenParen ∷ Make act.NoNames ∷ Part part.Names ∷ []) ∷
    []
rules part.Names =
    (Fixed lex.CloseParen ∷ []) ∷
    (Param ∷ Make act.AddName ∷ Part part.MoreNames ∷ []) ∷
    []
rules part.MoreNames =
    (Fixed lex.Comma ∷ Param ∷ Make act.AddName ∷ Part part.MoreNames ∷ []) ∷
    (Fixed lex.CloseParen ∷ []) ∷
    []
rules part.Block =
    (Fixed lex.OpenBrace ∷ Make act.Empty ∷ Part part.Stmts ∷ []) ∷
    []
rules part.Stmts =
    (Fixed lex.Let ∷ Name ∷ Fixed lex.Assign ∷ Part part.Rhs ∷ Fixed lex.Semicolon ∷
    Make (act.Stmt stmt_kind.Let) ∷ Part part.Stmts ∷ []) ∷
    (Fixed lex.Set ∷ Name ∷ Fixed lex.Assign ∷ Part part.Rhs ∷ Fixed lex.Semicolon ∷
    Make (act.Stmt stmt_kind.Set) ∷ Part part.Stmts ∷ []) ∷
    (Fixed lex.Do ∷ Part part.Ask ∷ Fixed lex.Semicolon ∷ Make (act.Stmt stmt_kind.Do) ∷
    Part part.Stmts ∷ []) ∷
    (Fixed lex.Put ∷ Name ∷ Part part.Key ∷ Fixed lex.Assign ∷ Part part.Outer ∷
    Fixed lex.Semicolon ∷ Make (act.Stmt stmt_kind.Put) ∷ Part part.Stmts ∷ []) ∷
    (Fixed lex.Delete ∷ Name ∷ Part part.Key ∷ Fixed lex.Semicolon ∷
    Make (act.Stmt stmt_kind.Delete) ∷ Part part.Stmts ∷ []) ∷
    (Fixed lex.If ∷ Part part.Outer ∷ Part part.Block ∷ Part part.Else ∷ Part part.Stmts ∷ []) ∷
    (Fixed lex.While ∷ Part part.Outer ∷ Part part.Block ∷ Make (act.Stmt stmt_kind.While) ∷
    Part part.Stmts ∷ []) ∷
    (Fixed lex.Each ∷ Name ∷ Fixed lex.In ∷ Part part.Outer ∷ Part part.Block ∷
    Make (act.Stmt stmt_kind.Each) ∷ Part part.Stmts ∷ []) ∷
    (Fixed lex.Try ∷ Part part.Block ∷ Fixed lex.Catch ∷ Name ∷ Part part.Block ∷
    Make (act.Stmt stmt_kind.Try) ∷ Part part.Stmts ∷ []) ∷
    (Fixed lex.Return ∷ Part part.Outer ∷ Fixed lex.Semicolon ∷
    Make (act.Stmt stmt_kind.Return) ∷ Part part.Stmts ∷ []) ∷
    (Fixed lex.Fail ∷ Part part.Outer ∷ Fixed lex.Semicolon ∷ Make (act.Stmt stmt_kind.Fail) ∷
    Part part.Stmts ∷ []) ∷
    (Fixed lex.CloseBrace ∷ []) ∷
    []
rules part.Else =
    (Fixed lex.Else ∷ Part part.Block ∷ Make (act.Stmt stmt_kind.IfElse) ∷ []) ∷
    (Make (act.Stmt stmt_kind.If) ∷ []) ∷
    []
rules part.Key =
    (Fixed lex.OpenBracket ∷ Part part.Outer ∷ Fixed lex.CloseBracket ∷ []) ∷
    []
rules part.Rhs =
    (Fixed lex.Call ∷ Name ∷ Part part.Args ∷ Make (act.Bind bind_kind.Call) ∷
    Make (act.Bind bind_kind.Asked) ∷ []) ∷
    (Fixed lex.Spawn ∷ Name ∷ Part part.Args ∷ Make (act.Bind bind_kind.Spawn) ∷
    Make (act.Bind bind_kind.Asked) ∷ []) ∷
    (Fixed lex.Await ∷ Part part.Outer ∷ Make (act.Bind bind_kind.Await) ∷
    Make (act.Bind bind_kind.Asked) ∷ []) ∷
    (Fixed lex.Get ∷ Name ∷ Part part.Key ∷ Make (act.Bind bind_kind.Get) ∷ []) ∷
    (Fixed lex.Scan ∷ Name ∷ Fixed lex.OpenBracket ∷ Part part.Outer ∷ Fixed lex.Comma ∷
    Part part.Outer ∷ Fixed lex.CloseBracket ∷ Make (act.Bind bind_kind.Scan) ∷ []) ∷
    (Part part.Outer ∷ Make (act.Bind bind_kind.Plain) ∷ []) ∷
    []
rules part.Ask =
    (Fixed lex.Call ∷ Name ∷ Part part.Args ∷ Make (act.Bind bind_kind.Call) ∷ []) ∷
    (Fixed lex.Spawn ∷ Name ∷ Part part.Args ∷ Make (act.Bind bind_kind.Spawn) ∷ []) ∷
    (Fixed lex.Await ∷ Part part.Outer ∷ Make (act.Bind bind_kind.Await) ∷ []) ∷
    []
rules part.Args =
    (Fixed lex.OpenParen ∷ Make act.NoExprs ∷ Part part.OuterList ∷ []) ∷
    []
rules part.OuterList =
    (Fixed lex.CloseParen ∷ []) ∷
    (Part part.Outer ∷ Make act.AddExpr ∷ Part part.MoreOuter ∷ []) ∷
    []
rules part.MoreOuter =
    (Fixed lex.Comma ∷ Part part.Outer ∷ Make act.AddExpr ∷ Part part.MoreOuter ∷ []) ∷
    (Fixed lex.CloseParen ∷ []) ∷
    []
rules part.Outer =
    (Begin ∷ Part part.Expr ∷ End ∷ []) ∷
    []
rules part.Expr =
    (Part part.Conj ∷ Part part.Ors ∷ []) ∷
    []
rules part.Ors =
    (Fixed lex.Or ∷ Part part.Conj ∷ Make (act.Two two.Or) ∷ Part part.Ors ∷ []) ∷
    ([]) ∷
    []
rules part.Conj =
    (Part part.Cmp ∷ Part part.Ands ∷ []) ∷
    []
rules part.Ands =
    (Fixed lex.And ∷ Part part.Cmp ∷ Make (act.Two two.And) ∷ Part part.Ands ∷ []) ∷
    ([]) ∷
    []
rules part.Cmp =
    (Part part.Sum ∷ Part part.Compared ∷ []) ∷
    []
rules part.Compared =
    (Fixed lex.Eq ∷ Part part.Sum ∷ Make (act.Two two.Eq) ∷ []) ∷
    (Fixed lex.Ne ∷ Part part.Sum ∷ Make (act.Two two.Ne) ∷ []) ∷
    (Fixed lex.Lt ∷ Part part.Sum ∷ Make (act.Two two.Lt) ∷ []) ∷
    (Fixed lex.Le ∷ Part part.Sum ∷ Make (act.Two two.Le) ∷ []) ∷
    (Fixed lex.Gt ∷ Part part.Sum ∷ Make (act.Two two.Gt) ∷ []) ∷
    (Fixed lex.Ge ∷ Part part.Sum ∷ Make (act.Two two.Ge) ∷ []) ∷
    ([]) ∷
    []
rules part.Sum =
    (Part part.Prod ∷ Part part.Terms ∷ []) ∷
    []
rules part.Terms =
    (Fixed lex.Plus ∷ Part part.Prod ∷ Make (act.Two two.Add) ∷ Part part.Terms ∷ []) ∷
    (Fixed lex.Minus ∷ Part part.Prod ∷ Make (act.Two two.Sub) ∷ Part part.Terms ∷ []) ∷
    (Fixed lex.Join ∷ Part part.Prod ∷ Make (act.Two two.Join) ∷ Part part.Terms ∷ []) ∷
    ([]) ∷
    []
rules part.Prod =
    (Part part.Unary ∷ Part part.Factors ∷ []) ∷
    []
rules part.Factors =
    (Fixed lex.Times ∷ Part part.Unary ∷ Make (act.Two two.Mul) ∷ Part part.Factors ∷ []) ∷
    (Fixed lex.Over ∷ Part part.Unary ∷ Make (act.Two two.Div) ∷ Part part.Factors ∷ []) ∷
    (Fixed lex.Percent ∷ Part part.Unary ∷ Make (act.Two two.Rem) ∷ Part part.Factors ∷ []) ∷
    ([]) ∷
    []
rules part.Unary =
    (Fixed lex.Minus ∷ Part part.Unary ∷ Make (act.One one.Neg) ∷ []) ∷
    (Fixed lex.Not ∷ Part part.Unary ∷ Make (act.One one.Not) ∷ []) ∷
    (Number ∷ Part part.Indexes ∷ []) ∷
    (Text ∷ Part part.Indexes ∷ []) ∷
    (Fixed lex.Null ∷ Make act.Null ∷ Part part.Indexes ∷ []) ∷
    (Fixed lex.True ∷ Make act.True ∷ Part part.Indexes ∷ []) ∷
    (Fixed lex.False ∷ Make act.False ∷ Part part.Indexes ∷ []) ∷
    (Name ∷ Part part.Named ∷ Part part.Indexes ∷ []) ∷
    (Fixed lex.Len ∷ Fixed lex.OpenParen ∷ Part part.Expr ∷ Fixed lex.CloseParen ∷
    Make (act.One one.Len) ∷ Part part.Indexes ∷ []) ∷
    (Fixed lex.Str ∷ Fixed lex.OpenParen ∷ Part part.Expr ∷ Fixed lex.CloseParen ∷
    Make (act.One one.Str) ∷ Part part.Indexes ∷ []) ∷
    (Fixed lex.OpenBracket ∷ Make act.NoExprs ∷ Part part.ListItems ∷ Make act.List ∷
    Part part.Indexes ∷ []) ∷
    (Fixed lex.OpenParen ∷ Part part.Expr ∷ Fixed lex.CloseParen ∷ Part part.Indexes ∷ []) ∷
    []
rules part.Named =
    (Fixed lex.OpenParen ∷ Make act.NoExprs ∷ Part part.ParenList ∷ Make act.Apply ∷ []) ∷
    (Make act.Variable ∷ []) ∷
    []
rules part.Indexes =
    (Fixed lex.OpenBracket ∷ Part part.Expr ∷ Fixed lex.CloseBracket ∷
    Make (act.Two two.Index) ∷ Part part.Indexes ∷ []) ∷
    ([]) ∷
    []
rules part.ParenList =
    (Fixed lex.CloseParen ∷ []) ∷
    (Part part.Expr ∷ Make act.AddExpr ∷ Part part.MoreParen ∷ []) ∷
    []
rules part.MoreParen =
    (Fixed lex.Comma ∷ Part part.Expr ∷ Make act.AddExpr ∷ Part part.MoreParen ∷ []) ∷
    (Fixed lex.CloseParen ∷ []) ∷
    []
rules part.ListItems =
    (Fixed lex.CloseBracket ∷ []) ∷
    (Part part.Expr ∷ Make act.AddExpr ∷ Part part.MoreItems ∷ []) ∷
    []
rules part.MoreItems =
    (Fixed lex.Comma ∷ Part part.Expr ∷ Make act.AddExpr ∷ Part part.MoreItems ∷ []) ∷
    (Fixed lex.CloseBracket ∷ []) ∷
    []
