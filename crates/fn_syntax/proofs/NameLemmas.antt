-- Names have 1 to 64 bytes: those of statements, items and letters.
use Rattle.std.proofs.Common.{◌≡◌, ℕ, ◌≤◌, List, [], ◌∷◌, ◌++◌, length, Bool, true, false, Some, None, refl, sym, ap, ◌∙◌, arith}
use Rattle.std.specs.Prelude.{not, nat_lt, nat_le, slice_range}
use Rattle.std.specs.List.{AllByRecursion}
use Rattle.std.proofs.lemmas.Bool.{leb-true, lt-ltb}
use Rattle.fn_lex.specs.declared.span.TokenKind.{TokenKind}
use Rattle.fn_lex.specs.declared.span.TokenKind.TheVariants as kind
use Rattle.fn_lex.specs.declared.span.Token.{Token}
use Rattle.fn_lex.specs.Words.{is_reserved}
use Rattle.fn_lex.specs.Lexemes.{is_lexeme, is_within, is_name_run}
use Rattle.fn_lex.specs.Lexed.{IsSlice}
use Rattle.fn_tree.specs.declared.expr.Expr.{Expr}
use Rattle.fn_tree.specs.declared.stmt.Ask.{Ask}
use Rattle.fn_tree.specs.declared.stmt.Rhs.{Rhs}
use Rattle.fn_tree.specs.declared.stmt.Stmt.{Stmt, roll-Stmt}
use Rattle.fn_tree.specs.declared.stmt.Stmt as stmt
use Rattle.fn_tree.specs.declared.stmt.Stmt.TheOpen.{Stmt-F}
use Rattle.fn_tree.specs.declared.stmt.Stmt.TheFolds.{map-Stmt, fold-Stmt, fold-roll-Stmt}
use Rattle.fn_tree.specs.declared.stmt.Stmt.TheVariants.{rolls-Let, rolls-Set, rolls-Do, rolls-Put, rolls-Delete, rolls-If, rolls-While, rolls-Each, rolls-Try, rolls-Return, rolls-Fail}
use Rattle.fn_tree.specs.declared.program.Item.{Item}
use Rattle.fn_tree.specs.Soundness.{name_of, params_of, each_passes, is_name, are_names, names_among, names_bound, body_names, names_in}
use Rattle.fn_grammar.specs.Letters.{Letter, letters, is_name as names_kind}
use Rattle.fn_syntax.proofs.DerivationLemmas.{and_left, and_right, and_both}

abbrev pub IsName : List ℕ → Type 0
IsName w = is_name w ≡ true

pub are_joined : (xs ys : List (List ℕ)) → are_names xs ≡ true → are_names ys ≡ true → are_names (xs ++ ys) ≡ true
are_joined [] ys p q = q
are_joined (x ∷ xs) ys p q = and_both (is_name x) (are_names (xs ++ ys)) (and_left (is_name x) (are_names xs) p) (are_joined xs ys (and_right (is_name x) (are_names xs) p) q)

-- statements

abbrev pub bound_in : Stmt → List (List ℕ)
bound_in = fold-Stmt (List (List ℕ)) names_among

abbrev pub IsNamed : Stmt → Type 0
IsNamed s = are_names (bound_in s) ≡ true

abbrev pub IsBlock : List Stmt → Type 0
IsBlock b = AllByRecursion IsNamed b

pub block_named : (b : List Stmt) → IsBlock b → are_names (names_bound b) ≡ true
block_named [] h = refl
block_named (s ∷ b) h = are_joined (bound_in s) (names_bound b) h.0 (block_named b h.1)

bound_at : (x : Stmt-F Stmt) (s : Stmt) → roll-Stmt x ≡ s → bound_in s ≡ names_among (map-Stmt Stmt (List (List ℕ)) bound_in x)
bound_at x s is = ap bound_in (sym is) ∙ fold-roll-Stmt (List (List ℕ)) names_among x

pub let_named : (name : List ℕ) (r : Rhs) → IsName name → IsNamed (stmt.Let name r)
let_named name r n = ap are_names (bound_at (Stmt-F.Let name r) (stmt.Let name r) (rolls-Let name r)) ∙ and_both (is_name name) true n refl

pub set_named : (name : List ℕ) (r : Rhs) → IsNamed (stmt.Set name r)
set_named name r = ap are_names (bound_at (Stmt-F.Set name r) (stmt.Set name r) (rolls-Set name r))

pub do_named : (a : Ask) → IsNamed (stmt.Do a)
do_named a = ap are_names (bound_at (Stmt-F.Do a) (stmt.Do a) (rolls-Do a))

pub put_named : (table : List ℕ) (key e : Expr) → IsNamed (stmt.Put table key e)
put_named table key e = ap are_names (bound_at (Stmt-F.Put table key e) (stmt.Put table key e) (rolls-Put table key e))

pub delete_named : (table : List ℕ) (key : Expr) → IsNamed (stmt.Delete table key)
delete_named table key = ap are_names (bound_at (Stmt-F.Delete table key) (stmt.Delete table key) (rolls-Delete table key))

pub if_named : (cond : Expr) (one : List Stmt) → IsBlock one → IsNamed (stmt.If cond one None)
if_named cond one b = ap are_names (bound_at (Stmt-F.If cond one None) (stmt.If cond one None) (rolls-If cond one None)) ∙ are_joined (names_bound one) [] (block_named one b) refl

pub if_else_named : (cond : Expr) (one other : List Stmt) → IsBlock one → IsBlock other → IsNamed (stmt.If cond one (Some other))
if_else_named cond one other b c = ap are_names (bound_at (Stmt-F.If cond one (Some other)) (stmt.If cond one (Some other)) (rolls-If cond one (Some other))) ∙ are_joined (names_bound one) (names_bound other) (block_named one b) (block_named other c)

pub while_named : (cond : Expr) (body : List Stmt) → IsBlock body → IsNamed (stmt.While cond body)
while_named cond body b = ap are_names (bound_at (Stmt-F.While cond body) (stmt.While cond body) (rolls-While cond body)) ∙ block_named body b

pub each_named : (name : List ℕ) (list : Expr) (body : List Stmt) → IsName name → IsBlock body → IsNamed (stmt.Each name list body)
each_named name list body n b = ap are_names (bound_at (Stmt-F.Each name list body) (stmt.Each name list body) (rolls-Each name list body)) ∙ and_both (is_name name) (are_names (names_bound body)) n (block_named body b)

pub try_named : (body : List Stmt) (name : List ℕ) (handler : List Stmt) → IsBlock body → IsName name → IsBlock handler → IsNamed (stmt.Try body name handler)
try_named body name handler b n c =
    ap are_names (bound_at (Stmt-F.Try body name handler) (stmt.Try body name handler) (rolls-Try body name handler))
    ∙ are_joined (names_bound body) (name ∷ names_bound handler) (block_named body b) (and_both (is_name name) (are_names (names_bound handler)) n (block_named handler c))

pub return_named : (e : Expr) → IsNamed (stmt.Return e)
return_named e = ap are_names (bound_at (Stmt-F.Return e) (stmt.Return e) (rolls-Return e))

pub fail_named : (e : Expr) → IsNamed (stmt.Fail e)
fail_named e = ap are_names (bound_at (Stmt-F.Fail e) (stmt.Fail e) (rolls-Fail e))

-- one statement more
pub block_more : (b : List Stmt) (s : Stmt) → IsBlock b → IsNamed s → IsBlock (b ++ s ∷ [])
block_more [] s h n = (n, tt)
block_more (t ∷ b) s h n = (h.0, block_more b s h.1 n)

-- items

abbrev pub item_names : Item → Bool
item_names i = are_names (names_in i)

abbrev pub item_few : Item → Bool
item_few i = nat_lt (length (params_of i)) 17

pub named_item : (i : Item) → IsName (name_of i) → are_names (params_of i) ≡ true → are_names (body_names i) ≡ true → item_names i ≡ true
named_item i n p b = and_both (is_name (name_of i)) (are_names (params_of i ++ body_names i)) n (are_joined (params_of i) (body_names i) p b)

pub passes_more : (p : Item → Bool) (items : List Item) (i : Item) → each_passes p items ≡ true → p i ≡ true → each_passes p (items ++ i ∷ []) ≡ true
passes_more p [] i h n = and_both (p i) true n refl
passes_more p (j ∷ items) i h n = and_both (p j) (each_passes p (items ++ i ∷ [])) (and_left (p j) (each_passes p items) h) (passes_more p items i (and_right (p j) (each_passes p items) h) n)

-- lists of parameters

abbrev pub IsParams : List (List ℕ) → Type 0
IsParams l = (are_names l ≡ true) × (nat_lt (length l) 17 ≡ true)

-- there is room for one more
abbrev pub HasRoom : List (List ℕ) → Type 0
HasRoom l = nat_le 16 (length l) ≡ false

-- letters

-- it isn't free, and a name has 1 to 64 bytes
abbrev pub IsOfText : Letter → Type 0
IsOfText x = (x.free ≡ false) × (names_kind x.kind ≡ true → IsName x.word)

some_byte : (w : List ℕ) → is_name_run w ≡ true → nat_lt 0 (length w) ≡ true
some_byte [] h = absurd (cc)
some_byte (b ∷ w) h = lt-ltb 0 (length (b ∷ w)) (omega arith)

few_bytes : (w : List ℕ) → nat_le (length w) 64 ≡ true → nat_lt (length w) 65 ≡ true
few_bytes w h = let e : length w ≤ 64 = leb-true (length w) 64 h in lt-ltb (length w) 65 (omega (arith, e))

name_size : (k : TokenKind) (w : List ℕ) → names_kind k ≡ true → is_lexeme k w ≡ true → is_within k w ≡ true → IsName w
name_size kind.Name w n h g = and_both (nat_lt 0 (length w)) (nat_lt (length w) 65) (some_byte w (and_left (is_name_run w) (not (is_reserved w)) h)) (few_bytes w g)
name_size _ w n h g = absurd (cc)

pub are_of_text : (text : List ℕ) (ts : List Token) → AllByRecursion (IsSlice text) ts → AllByRecursion IsOfText (letters text ts)
are_of_text text [] h = tt
are_of_text text (t ∷ ts) h = ((refl, λ n. name_size t.kind (slice_range text t.from t.to) n h.0.is h.0.within), are_of_text text ts h.1)
