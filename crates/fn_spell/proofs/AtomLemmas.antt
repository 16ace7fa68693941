-- A spelled expression is read as an operand of any operation, whatever follows.
use Rattle.std.proofs.Common.{◌≡◌, ℕ, ◌≤◌, List, [], ◌∷◌, ◌++◌, true, false, refl, sym, ap, ◌∙◌, subst, append_assoc, append-nil, inl, inr, arith}
use Rattle.std.specs.Prelude.{pos, negsuc, ℤ, map}
use Rattle.std.specs.Fmt.{decimal}
use Rattle.std.proofs.lemmas.Bool.{and_parts, leb-true}
use Rattle.fn_tree.specs.declared.expr.Expr.{Expr, roll-Expr}
use Rattle.fn_tree.specs.declared.expr.Expr as tree
use Rattle.fn_tree.specs.declared.expr.Expr.TheOpen.{Expr-F}
use Rattle.fn_tree.specs.declared.expr.Expr.TheVariants.{rolls-Helper, rolls-List}
use Rattle.fn_tree.specs.declared.expr.Expr.TheFolds.{map-Expr, ind-Expr}
use Rattle.fn_lex.specs.declared.span.TokenKind.TheVariants as kind
use Rattle.fn_grammar.specs.declared.lexeme.Lexeme.{Lexeme}
use Rattle.fn_grammar.specs.declared.lexeme.Lexeme.TheVariants as lex
use Rattle.fn_grammar.specs.declared.symbol.Part.TheVariants as part
use Rattle.fn_grammar.specs.declared.symbol.Action.TheVariants as act
use Rattle.fn_grammar.specs.declared.symbol.Binary.{Binary}
use Rattle.fn_grammar.specs.declared.symbol.Binary.TheVariants as two
use Rattle.fn_grammar.specs.declared.symbol.Unary.{Unary}
use Rattle.fn_grammar.specs.declared.symbol.Unary.TheVariants as one
use Rattle.fn_grammar.specs.declared.symbol.Symbol.{Symbol}
use Rattle.fn_grammar.specs.declared.symbol.Symbol.TheVariants.{Fixed, Name, Number, Text, Part, Make}
use Rattle.fn_grammar.specs.Letters.{letter, fits, spelled}
use Rattle.fn_grammar.specs.Grammar.{rules}
use Rattle.fn_grammar.specs.Trees.{Trees, made, node_of_two, node_of_one}
use Rattle.fn_grammar.specs.Derivation.{IsOneOf, Derives, done, read, has, leads_item}
use Rattle.fn_lex.specs.Lexemes.{value_from}
use Rattle.fn_spell.specs.Pieces.{Piece, a_word, a_name, a_number, a_text, lexeme_kind, letters_of, quoted}
use Rattle.fn_spell.specs.Spelling.{parens, brackets, separated, node_pieces, expr_pieces}
use Rattle.fn_spell.proofs.ReadLemmas.{Reads, went, then, making_as, nothing, made_by, before, part_by, clear, word, name, push_name}
use Rattle.fn_spell.proofs.TokenLemmas.{value_decimal, denoted_quoted}
use Rattle.fn_spell.proofs.NodeLemmas.{pieces_roll}

abbrev pub push : Expr → Trees → Trees
push e t = record t { exprs = e ∷ t.exprs }

-- parts that are written as nothing

no_ors : Reads (Part part.Ors ∷ []) (λ t. t) []
no_ors = part_by part.Ors nothing (inr (inl refl))

no_ands : Reads (Part part.Ands ∷ []) (λ t. t) []
no_ands = part_by part.Ands nothing (inr (inl refl))

no_compared : Reads (Part part.Compared ∷ []) (λ t. t) []
no_compared = part_by part.Compared nothing (inr (inr (inr (inr (inr (inr (inl refl)))))))

no_terms : Reads (Part part.Terms ∷ []) (λ t. t) []
no_terms = part_by part.Terms nothing (inr (inr (inr (inl refl))))

no_factors : Reads (Part part.Factors ∷ []) (λ t. t) []
no_factors = part_by part.Factors nothing (inr (inr (inr (inl refl))))

no_indexes : Reads (Part part.Indexes ∷ []) (λ t. t) []
no_indexes = part_by part.Indexes nothing (inr (inl refl))

-- from each level to the next

prod_of : {f : Trees → Trees} {xs : List Piece} → Reads (Part part.Unary ∷ []) f xs → Reads (Part part.Prod ∷ []) f xs
prod_of p = part_by part.Prod (before p no_factors) (inl refl)

sum_of : {f : Trees → Trees} {xs : List Piece} → Reads (Part part.Prod ∷ []) f xs → Reads (Part part.Sum ∷ []) f xs
sum_of p = part_by part.Sum (before p no_terms) (inl refl)

cmp_of : {f : Trees → Trees} {xs : List Piece} → Reads (Part part.Sum ∷ []) f xs → Reads (Part part.Cmp ∷ []) f xs
cmp_of p = part_by part.Cmp (before p no_compared) (inl refl)

conj_of : {f : Trees → Trees} {xs : List Piece} → Reads (Part part.Cmp ∷ []) f xs → Reads (Part part.Conj ∷ []) f xs
conj_of p = part_by part.Conj (before p no_ands) (inl refl)

expr_of : {f : Trees → Trees} {xs : List Piece} → Reads (Part part.Conj ∷ []) f xs → Reads (Part part.Expr ∷ []) f xs
expr_of p = part_by part.Expr (before p no_ors) (inl refl)

-- The pieces are read as an operand, whatever indexes follow.
pub record IsAtom (e : Expr) (xs : List Piece) : Type 0 where
  pub by : (g : Trees → Trees) (ys : List Piece) → Reads (Part part.Indexes ∷ []) g ys → Reads (Part part.Unary ∷ []) (λ t. g (push e t)) (xs ++ ys)

atom : (e : Expr) {r : List Symbol} {xs : List Piece} → Reads r (push e) xs → IsOneOf (rules part.Unary) (r ++ Part part.Indexes ∷ []) → IsAtom e xs
atom e p is = record { by = λ g ys k. part_by part.Unary (then p k) is }

unary_at : {e : Expr} {xs : List Piece} → IsAtom e xs → Reads (Part part.Unary ∷ []) (push e) xs
unary_at {e = e} {xs = xs} a = subst (λ ys. Reads (Part part.Unary ∷ []) (push e) ys) (append-nil xs) (a.by (λ t. t) [] no_indexes)

prod_at : {e : Expr} {xs : List Piece} → IsAtom e xs → Reads (Part part.Prod ∷ []) (push e) xs
prod_at a = prod_of (unary_at a)

sum_at : {e : Expr} {xs : List Piece} → IsAtom e xs → Reads (Part part.Sum ∷ []) (push e) xs
sum_at a = sum_of (prod_at a)

cmp_at : {e : Expr} {xs : List Piece} → IsAtom e xs → Reads (Part part.Cmp ∷ []) (push e) xs
cmp_at a = cmp_of (sum_at a)

conj_at : {e : Expr} {xs : List Piece} → IsAtom e xs → Reads (Part part.Conj ∷ []) (push e) xs
conj_at a = conj_of (cmp_at a)

pub expr_at : {e : Expr} {xs : List Piece} → IsAtom e xs → Reads (Part part.Expr ∷ []) (push e) xs
expr_at a = expr_of (conj_at a)

-- in parentheses
grouped : (e : Expr) {xs : List Piece} → Reads (Part part.Expr ∷ []) (push e) xs → IsAtom e (parens xs)
grouped e p =
    atom e (then (word lex.OpenParen refl refl) (then p (word lex.CloseParen refl refl)))
    (inr (inr (inr (inr (inr (inr (inr (inr (inr (inr (inr (inl refl))))))))))))

-- operations

module _ (a b : Expr) (xs ys : List Piece) (p : IsAtom a xs) (q : IsAtom b ys) where
  either : IsAtom (tree.Or a b) (parens (xs ++ a_word lex.Or ∷ ys))
  either =
      let tail = part_by part.Ors (then (word lex.Or refl refl) (before (made_by (conj_at q) (act.Two two.Or)) no_ors)) (inl refl) in
      grouped (tree.Or a b) (part_by part.Expr (then (conj_at p) tail) (inl refl))

  both : IsAtom (tree.And a b) (parens (xs ++ a_word lex.And ∷ ys))
  both =
      let tail = part_by part.Ands (then (word lex.And refl refl) (before (made_by (cmp_at q) (act.Two two.And)) no_ands)) (inl refl) in
      grouped (tree.And a b) (expr_of (part_by part.Conj (then (cmp_at p) tail) (inl refl)))

  module _ (l : Lexeme) (op : Binary) (f : fits (Fixed l) (letter (lexeme_kind l) (spelled l)) ≡ true) (i : leads_item l ≡ false) where
    compared : IsOneOf (rules part.Compared) (Fixed l ∷ Part part.Sum ∷ Make (act.Two op) ∷ []) → IsAtom (node_of_two op a b) (parens (xs ++ a_word l ∷ ys))
    compared is =
        let tail = part_by part.Compared (then (word l f i) (made_by (sum_at q) (act.Two op))) is in
        grouped (node_of_two op a b) (expr_of (conj_of (part_by part.Cmp (then (sum_at p) tail) (inl refl))))

    added : IsOneOf (rules part.Terms) (Fixed l ∷ Part part.Prod ∷ Make (act.Two op) ∷ Part part.Terms ∷ []) → IsAtom (node_of_two op a b) (parens (xs ++ a_word l ∷ ys))
    added is =
        let tail = part_by part.Terms (then (word l f i) (before (made_by (prod_at q) (act.Two op)) no_terms)) is in
        grouped (node_of_two op a b) (expr_of (conj_of (cmp_of (part_by part.Sum (then (prod_at p) tail) (inl refl)))))

    multiplied : IsOneOf (rules part.Factors) (Fixed l ∷ Part part.Unary ∷ Make (act.Two op) ∷ Part part.Factors ∷ []) → IsAtom (node_of_two op a b) (parens (xs ++ a_word l ∷ ys))
    multiplied is =
        let tail = part_by part.Factors (then (word l f i) (before (made_by (unary_at q) (act.Two op)) no_factors)) is in
        grouped (node_of_two op a b) (expr_of (conj_of (cmp_of (sum_of (part_by part.Prod (then (unary_at p) tail) (inl refl))))))

  at_index : IsAtom (tree.Index a b) (xs ++ brackets ys)
  at_index = record {
    by = λ g zs k.
        let i = part_by part.Indexes (then (word lex.OpenBracket refl refl) (then (made_by (then (expr_at q) (word lex.CloseBracket refl refl)) (act.Two two.Index)) k)) (inl refl) in
        subst (λ ws. Reads (Part part.Unary ∷ []) (λ t. g (push (tree.Index a b) t)) ws) (sym (append_assoc xs (brackets ys) zs)) (p.by (λ t. g (made (act.Two two.Index) (push b t))) (brackets ys ++ zs) i);
  }

module _ (a : Expr) (xs : List Piece) (p : IsAtom a xs) (l : Lexeme) (op : Unary) (f : fits (Fixed l) (letter (lexeme_kind l) (spelled l)) ≡ true) (i : leads_item l ≡ false) where
  signed : IsOneOf (rules part.Unary) (Fixed l ∷ Part part.Unary ∷ Make (act.One op) ∷ []) → IsAtom (node_of_one op a) (parens (a_word l ∷ xs))
  signed is = grouped (node_of_one op a) (expr_of (conj_of (cmp_of (sum_of (prod_of (part_by part.Unary (then (word l f i) (made_by (unary_at p) (act.One op))) is))))))

  called : IsOneOf (rules part.Unary) (Fixed l ∷ Fixed lex.OpenParen ∷ Part part.Expr ∷ Fixed lex.CloseParen ∷ Make (act.One op) ∷ Part part.Indexes ∷ []) → IsAtom (node_of_one op a) (a_word l ∷ parens xs)
  called is = atom (node_of_one op a) (then (word l f i) (then (word lex.OpenParen refl refl) (made_by (then (expr_at p) (word lex.CloseParen refl refl)) (act.One op)))) is

-- single tokens

number : (z : ℤ) → Reads (Number ∷ []) (push (tree.Int z)) (a_number z ∷ [])
number (pos n) = record {
  by = λ v k h.
      let small : n ≤ 9223372036854775807 = leb-true n 9223372036854775807 (and_parts _ _ h).0 in
      let same : value_from 0 (decimal n) ≡ n = value_decimal n (omega (arith, small)) in
      subst (λ m. Derives (Number ∷ []) v (letters_of (a_number (pos n) ∷ [])) (went (push (tree.Int (pos m))) (a_number (pos n) ∷ []) v)) same
      (read Number (letter kind.Number (decimal n)) refl (inr (clear (has 1024 v.used) false false true k refl)) done);
}
number (negsuc n) = record { by = λ v k h. absurd (cc) }

text : (w : List ℕ) → Reads (Text ∷ []) (push (tree.Text w)) (a_text w ∷ [])
text w = record {
  by = λ v k h.
      subst (λ u. Derives (Text ∷ []) v (letters_of (a_text w ∷ [])) (went (push (tree.Text u)) (a_text w ∷ []) v)) (denoted_quoted w)
      (read Text (letter kind.Text (quoted w)) refl (inr (clear (has 1024 v.used) false false true k refl)) done);
}

-- several expressions

abbrev pub with_all : List Expr → Trees → Trees
with_all [] t = t
with_all (e ∷ es) t = with_all es (made act.AddExpr (push e t))

pub with_all_is : (es g : List Expr) (gs : List (List Expr)) (t : Trees) → with_all es (record t { groups = g ∷ gs }) ≡ record t { groups = (g ++ es) ∷ gs }
with_all_is [] g gs t = ap (λ (l : List Expr). record t { groups = l ∷ gs }) (sym (append-nil g))
with_all_is (e ∷ es) g gs t = with_all_is es (g ++ e ∷ []) gs t ∙ ap (λ (l : List Expr). record t { groups = l ∷ gs }) (append_assoc g (e ∷ []) es)

-- an expression, and why its spelling is read as it
abbrev IsRead : Type 0
IsRead = (e : Expr) × IsAtom e (expr_pieces e)

abbrev all_of : List IsRead → List Expr
all_of ss = map (λ s. s.0) ss

more_in_parens : (ss : List IsRead) → Reads (Part part.MoreParen ∷ []) (with_all (all_of ss)) (separated false lex.CloseParen (map expr_pieces (all_of ss)))
more_in_parens [] = part_by part.MoreParen (word lex.CloseParen refl refl) (inr (inl refl))
more_in_parens (s ∷ ss) = part_by part.MoreParen (then (word lex.Comma refl refl) (then (made_by (expr_at s.1) act.AddExpr) (more_in_parens ss))) (inl refl)

in_parens : (ss : List IsRead) → Reads (Part part.ParenList ∷ []) (with_all (all_of ss)) (separated true lex.CloseParen (map expr_pieces (all_of ss)))
in_parens [] = part_by part.ParenList (word lex.CloseParen refl refl) (inl refl)
in_parens (s ∷ ss) = part_by part.ParenList (then (made_by (expr_at s.1) act.AddExpr) (more_in_parens ss)) (inr (inl refl))

more_in_list : (ss : List IsRead) → Reads (Part part.MoreItems ∷ []) (with_all (all_of ss)) (separated false lex.CloseBracket (map expr_pieces (all_of ss)))
more_in_list [] = part_by part.MoreItems (word lex.CloseBracket refl refl) (inr (inl refl))
more_in_list (s ∷ ss) = part_by part.MoreItems (then (word lex.Comma refl refl) (then (made_by (expr_at s.1) act.AddExpr) (more_in_list ss))) (inl refl)

in_list : (ss : List IsRead) → Reads (Part part.ListItems ∷ []) (with_all (all_of ss)) (separated true lex.CloseBracket (map expr_pieces (all_of ss)))
in_list [] = part_by part.ListItems (word lex.CloseBracket refl refl) (inl refl)
in_list (s ∷ ss) = part_by part.ListItems (then (made_by (expr_at s.1) act.AddExpr) (more_in_list ss)) (inr (inl refl))

helper : (f : List ℕ) (ss : List IsRead) → IsAtom (tree.Helper f (all_of ss)) (a_name f ∷ a_word lex.OpenParen ∷ separated true lex.CloseParen (map expr_pieces (all_of ss)))
helper f ss =
    let named = part_by part.Named (then (made_by (word lex.OpenParen refl refl) act.NoExprs) (made_by (in_parens ss) act.Apply)) (inl refl) in
    atom (tree.Helper f (all_of ss))
    (making_as (then (name f) named) (push (tree.Helper f (all_of ss)))
    (λ t. ap (made act.Apply) (with_all_is (all_of ss) [] t.groups (push_name f t))))
    (inr (inr (inr (inr (inr (inr (inr (inl refl))))))))

list : (ss : List IsRead) → IsAtom (tree.List (all_of ss)) (a_word lex.OpenBracket ∷ separated true lex.CloseBracket (map expr_pieces (all_of ss)))
list ss =
    atom (tree.List (all_of ss))
    (making_as (then (made_by (word lex.OpenBracket refl refl) act.NoExprs) (made_by (in_list ss) act.List)) (push (tree.List (all_of ss)))
    (λ t. ap (made act.List) (with_all_is (all_of ss) [] t.groups t)))
    (inr (inr (inr (inr (inr (inr (inr (inr (inr (inr (inl refl)))))))))))

variable : (x : List ℕ) → IsAtom (tree.Name x) (a_name x ∷ [])
variable x =
    let named = part_by part.Named (made_by nothing act.Variable) (inr (inl refl)) in
    atom (tree.Name x) (then (name x) named) (inr (inr (inr (inr (inr (inr (inr (inl refl))))))))

node : (y : Expr-F IsRead) → IsAtom (roll-Expr (map-Expr IsRead Expr (λ s. s.0) y)) (node_pieces (map-Expr Expr (List Piece) expr_pieces (map-Expr IsRead Expr (λ s. s.0) y)))
unfolding roll-Expr denote.Hole.Carrier.roll
node (Expr-F.Int z) = atom (tree.Int z) (number z) (inr (inr (inl refl)))
node (Expr-F.Text t) = atom (tree.Text t) (text t) (inr (inr (inr (inl refl))))
node Expr-F.Null = atom tree.Null (made_by (word lex.Null refl refl) act.Null) (inr (inr (inr (inr (inl refl)))))
node Expr-F.True = atom tree.True (made_by (word lex.True refl refl) act.True) (inr (inr (inr (inr (inr (inl refl))))))
node Expr-F.False = atom tree.False (made_by (word lex.False refl refl) act.False) (inr (inr (inr (inr (inr (inr (inl refl)))))))
node (Expr-F.Name x) = variable x
node (Expr-F.Helper f args) = subst (λ e. IsAtom e (node_pieces (Expr-F.Helper f (map expr_pieces (all_of args))))) (sym (rolls-Helper f (all_of args))) (helper f args)
node (Expr-F.List es) = subst (λ e. IsAtom e (node_pieces (Expr-F.List (map expr_pieces (all_of es))))) (sym (rolls-List (all_of es))) (list es)
node (Expr-F.Len a) = called a.0 (expr_pieces a.0) a.1 lex.Len one.Len refl refl (inr (inr (inr (inr (inr (inr (inr (inr (inl refl)))))))))
node (Expr-F.Str a) = called a.0 (expr_pieces a.0) a.1 lex.Str one.Str refl refl (inr (inr (inr (inr (inr (inr (inr (inr (inr (inl refl))))))))))
node (Expr-F.Neg a) = signed a.0 (expr_pieces a.0) a.1 lex.Minus one.Neg refl refl (inl refl)
node (Expr-F.Not a) = signed a.0 (expr_pieces a.0) a.1 lex.Not one.Not refl refl (inr (inl refl))
node (Expr-F.Index a b) = at_index a.0 b.0 (expr_pieces a.0) (expr_pieces b.0) a.1 b.1
node (Expr-F.Or a b) = either a.0 b.0 (expr_pieces a.0) (expr_pieces b.0) a.1 b.1
node (Expr-F.And a b) = both a.0 b.0 (expr_pieces a.0) (expr_pieces b.0) a.1 b.1
node (Expr-F.Eq a b) = compared a.0 b.0 (expr_pieces a.0) (expr_pieces b.0) a.1 b.1 lex.Eq two.Eq refl refl (inl refl)
node (Expr-F.Ne a b) = compared a.0 b.0 (expr_pieces a.0) (expr_pieces b.0) a.1 b.1 lex.Ne two.Ne refl refl (inr (inl refl))
node (Expr-F.Lt a b) = compared a.0 b.0 (expr_pieces a.0) (expr_pieces b.0) a.1 b.1 lex.Lt two.Lt refl refl (inr (inr (inl refl)))
node (Expr-F.Le a b) = compared a.0 b.0 (expr_pieces a.0) (expr_pieces b.0) a.1 b.1 lex.Le two.Le refl refl (inr (inr (inr (inl refl))))
node (Expr-F.Gt a b) = compared a.0 b.0 (expr_pieces a.0) (expr_pieces b.0) a.1 b.1 lex.Gt two.Gt refl refl (inr (inr (inr (inr (inl refl)))))
node (Expr-F.Ge a b) = compared a.0 b.0 (expr_pieces a.0) (expr_pieces b.0) a.1 b.1 lex.Ge two.Ge refl refl (inr (inr (inr (inr (inr (inl refl))))))
node (Expr-F.Add a b) = added a.0 b.0 (expr_pieces a.0) (expr_pieces b.0) a.1 b.1 lex.Plus two.Add refl refl (inl refl)
node (Expr-F.Sub a b) = added a.0 b.0 (expr_pieces a.0) (expr_pieces b.0) a.1 b.1 lex.Minus two.Sub refl refl (inr (inl refl))
node (Expr-F.Join a b) = added a.0 b.0 (expr_pieces a.0) (expr_pieces b.0) a.1 b.1 lex.Join two.Join refl refl (inr (inr (inl refl)))
node (Expr-F.Mul a b) = multiplied a.0 b.0 (expr_pieces a.0) (expr_pieces b.0) a.1 b.1 lex.Times two.Mul refl refl (inl refl)
node (Expr-F.Div a b) = multiplied a.0 b.0 (expr_pieces a.0) (expr_pieces b.0) a.1 b.1 lex.Over two.Div refl refl (inr (inl refl))
node (Expr-F.Rem a b) = multiplied a.0 b.0 (expr_pieces a.0) (expr_pieces b.0) a.1 b.1 lex.Percent two.Rem refl refl (inr (inr (inl refl)))

abbrev P : Expr → Type 0
P e = IsAtom e (expr_pieces e)

level : (y : Expr-F IsRead) → P (roll-Expr (map-Expr IsRead Expr (λ s. s.0) y))
level y =
    let x = map-Expr IsRead Expr (λ s. s.0) y in
    subst (λ xs. IsAtom (roll-Expr x) xs) (sym (pieces_roll x)) (node y)

-- each expression is read from its spelling
pub expr_is_atom : (e : Expr) → IsAtom e (expr_pieces e)
expr_is_atom = ind-Expr P (λ x y same. subst (λ z. P (roll-Expr z)) same (level y))
