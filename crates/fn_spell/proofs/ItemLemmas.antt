-- A spelled program within the limits is a program of the grammar.
use Rattle.std.proofs.Common.{◌≡◌, ℕ, ◌+◌, ◌≤◌, ◌<◌, List, [], ◌∷◌, ◌++◌, Option, Bool, true, false, refl, sym, ap, ◌∙◌, subst, append_assoc, append-nil, inl, inr, length, length-append, arith}
use Rattle.std.specs.Prelude.{◌&&◌, nat_le, pos, map}
use Rattle.std.specs.List.{list_all}
use Rattle.std.specs.Fmt.{decimal}
use Rattle.std.proofs.lemmas.Bool.{and_parts, leb-true}
use Rattle.fn_tree.specs.declared.program.Item.{Item}
use Rattle.fn_tree.specs.declared.program.Item.TheVariants as item
use Rattle.fn_tree.specs.Declarations.{params_of}
use Rattle.fn_lex.specs.declared.span.TokenKind.TheVariants as kind
use Rattle.fn_lex.specs.Lexemes.{value_from}
use Rattle.fn_grammar.specs.declared.lexeme.Lexeme.{Lexeme}
use Rattle.fn_grammar.specs.declared.lexeme.Lexeme.TheVariants as lex
use Rattle.fn_grammar.specs.declared.symbol.Part.TheVariants as part
use Rattle.fn_grammar.specs.declared.symbol.Action.TheVariants as act
use Rattle.fn_grammar.specs.declared.symbol.Declaration.TheVariants as item_kind
use Rattle.fn_grammar.specs.declared.symbol.Symbol.{Symbol}
use Rattle.fn_grammar.specs.declared.symbol.Symbol.TheVariants.{Fixed, Name, Param, Bound, Part, Make}
use Rattle.fn_grammar.specs.Letters.{letter, fits, spelled}
use Rattle.fn_grammar.specs.Grammar.{rules}
use Rattle.fn_grammar.specs.Trees.{Trees, made, list}
use Rattle.fn_grammar.specs.Derivation.{State, start, IsOneOf, Derives, done, read, make, by_rule, IsProgram, has, deeper, crowded, leads_item, after_letter, after_make}
use Rattle.fn_spell.specs.Pieces.{Piece, a_word, a_name, a_number, lexeme_kind, letters_of}
use Rattle.fn_spell.specs.Spelling.{separated, outer_pieces, name_pieces, params_pieces, body_pieces, item_pieces, program_pieces}
use Rattle.fn_spell.specs.Limits.{is_token, depth_behind, used_behind, may_stand, keeps, is_ordinary, is_fit, KeepsLimits, HasTokens}
use Rattle.fn_spell.proofs.TokenLemmas.{value_decimal}
use Rattle.fn_spell.proofs.ReadLemmas.{Reads, went, then, after, making_as, made_by, part_by, keeps_parts, tokens_parts, clear, word, name, push_name}
use Rattle.fn_spell.proofs.StatementLemmas.{outer, body}

-- single tokens

not_le : (m n : ℕ) (b : Bool) → nat_le m n ≡ b → n < m → nat_le m n ≡ false
not_le m n true e lt = let le = leb-true m n e in absurd (omega (arith, le, lt))
not_le m n false e lt = e

none_crowded : (b c : Bool) → c ≡ false → (b && c) ≡ false
none_crowded true c e = e
none_crowded false c e = refl

keeps_rest : (n : ℕ) (u : Option ℕ) (x : Piece) (xs : List Piece) → keeps n u (x ∷ xs) ≡ true → keeps (depth_behind n x) (used_behind u x) xs ≡ true
keeps_rest n u x xs k = (and_parts (may_stand n u x) (keeps (depth_behind n x) (used_behind u x) xs) k).1

tokens_rest : (x : Piece) (xs : List Piece) → list_all is_token (x ∷ xs) ≡ true → list_all is_token xs ≡ true
tokens_rest x xs h = (and_parts (is_token x) (list_all is_token xs) h).1

-- the state behind a word, and behind a parameter
abbrev past_word : Lexeme → State → State
past_word l v = after_letter (Fixed l) (letter (lexeme_kind l) (spelled l)) v

abbrev past_param : List ℕ → State → State
past_param x v = after_letter Param (letter kind.Name x) v

after_word : (l : Lexeme) → fits (Fixed l) (letter (lexeme_kind l) (spelled l)) ≡ true → (r : List Symbol) (f : Trees → Trees) (xs : List Piece) (v : State)
    → crowded (Fixed l) v ≡ false → keeps v.depth v.used (a_word l ∷ xs) ≡ true
    → Derives r (past_word l v) (letters_of xs) (went f xs (past_word l v)) → Derives (Fixed l ∷ r) v (letters_of (a_word l ∷ xs)) (went f (a_word l ∷ xs) v)
after_word l f r g xs v c k d =
    read (Fixed l) (letter (lexeme_kind l) (spelled l)) f (inr (clear (has 1024 v.used) (deeper (Fixed l) v.depth) (crowded (Fixed l) v) (keeps (depth_behind v.depth (a_word l)) (used_behind v.used (a_word l)) xs) k c)) d

after_param : (x : List ℕ) (r : List Symbol) (f : Trees → Trees) (xs : List Piece) (v : State)
    → nat_le 16 (length (list v.trees)) ≡ false → keeps v.depth v.used (a_name x ∷ xs) ≡ true
    → Derives r (past_param x v) (letters_of xs) (went f xs (past_param x v)) → Derives (Param ∷ r) v (letters_of (a_name x ∷ xs)) (went (λ t. f (push_name x t)) (a_name x ∷ xs) v)
after_param x r f xs v c k d =
    read Param (letter kind.Name x) refl (inr (clear (has 1024 v.used) false (nat_le 16 (length (list v.trees))) (keeps (depth_behind v.depth (a_name x)) (used_behind v.used (a_name x)) xs) k c)) d

-- parameters

abbrev with_names : List (List ℕ) → Trees → Trees
with_names [] t = t
with_names (x ∷ xs) t = with_names xs (made act.AddName (push_name x t))

with_names_is : (xs g : List (List ℕ)) (gs : List (List (List ℕ))) (t : Trees) → with_names xs (record t { lists = g ∷ gs }) ≡ record t { lists = (g ++ xs) ∷ gs }
with_names_is [] g gs t = ap (λ (l : List (List ℕ)). record t { lists = l ∷ gs }) (sym (append-nil g))
with_names_is (x ∷ xs) g gs t = with_names_is xs (g ++ x ∷ []) gs t ∙ ap (λ (l : List (List ℕ)). record t { lists = l ∷ gs }) (append_assoc g (x ∷ []) xs)

abbrev names_after : Bool → List (List ℕ) → List Piece
names_after first xs = separated first lex.CloseParen (map name_pieces xs)

-- there is room for these parameters
abbrev Room : State → List (List ℕ) → Type 0
Room v xs = length (list v.trees) + length xs ≤ 16

abbrev past_named : List ℕ → State → State
past_named x v = after_make act.AddName (past_param x v)

room_more : (x : List ℕ) (xs : List (List ℕ)) (v : State) → Room v (x ∷ xs) → Room (past_named x v) xs
room_more x xs v n = let e = length-append (list v.trees) (x ∷ []) in omega (arith, n, e)

room_one : (x : List ℕ) (xs : List (List ℕ)) (v : State) → Room v (x ∷ xs) → nat_le 16 (length (list v.trees)) ≡ false
room_one x xs v n = not_le 16 (length (list v.trees)) (nat_le 16 (length (list v.trees))) refl (omega (arith, n))

more_names : (xs : List (List ℕ)) (v : State) → Room v xs → keeps v.depth v.used (names_after false xs) ≡ true
    → list_all is_token (names_after false xs) ≡ true → Derives (Part part.MoreNames ∷ []) v (letters_of (names_after false xs)) (went (with_names xs) (names_after false xs) v)
more_names [] v n k h =
    let p : Reads (Part part.MoreNames ∷ []) (λ t. t) (a_word lex.CloseParen ∷ []) = part_by part.MoreNames (word lex.CloseParen refl refl) (inr (inl refl)) in
    p.by v k h
more_names (x ∷ xs) v n k h =
    let u : State = past_word lex.Comma v in
    let k2 = keeps_rest v.depth v.used (a_word lex.Comma) (a_name x ∷ names_after false xs) k in
    let h2 = tokens_rest (a_word lex.Comma) (a_name x ∷ names_after false xs) h in
    let k3 = keeps_rest u.depth u.used (a_name x) (names_after false xs) k2 in
    let h3 = tokens_rest (a_name x) (names_after false xs) h2 in
    by_rule part.MoreNames (Fixed lex.Comma ∷ Param ∷ Make act.AddName ∷ Part part.MoreNames ∷ []) (inl refl)
    (after_word lex.Comma refl (Param ∷ Make act.AddName ∷ Part part.MoreNames ∷ []) (with_names (x ∷ xs)) (a_name x ∷ names_after false xs) v refl k
    (after_param x (Make act.AddName ∷ Part part.MoreNames ∷ []) (λ t. with_names xs (made act.AddName t)) (names_after false xs) u (room_one x xs u n) k2
    (make act.AddName (more_names xs (past_named x u) (room_more x xs u n) k3 h3))))

first_names : (xs : List (List ℕ)) (v : State) → Room v xs → keeps v.depth v.used (names_after true xs) ≡ true
    → list_all is_token (names_after true xs) ≡ true → Derives (Part part.Names ∷ []) v (letters_of (names_after true xs)) (went (with_names xs) (names_after true xs) v)
first_names [] v n k h =
    let p : Reads (Part part.Names ∷ []) (λ t. t) (a_word lex.CloseParen ∷ []) = part_by part.Names (word lex.CloseParen refl refl) (inl refl) in
    p.by v k h
first_names (x ∷ xs) v n k h =
    by_rule part.Names (Param ∷ Make act.AddName ∷ Part part.MoreNames ∷ []) (inr (inl refl))
    (after_param x (Make act.AddName ∷ Part part.MoreNames ∷ []) (λ t. with_names xs (made act.AddName t)) (names_after false xs) v (room_one x xs v n) k
    (make act.AddName (more_names xs (past_named x v) (room_more x xs v n) (keeps_rest v.depth v.used (a_name x) (names_after false xs) k) (tokens_rest (a_name x) (names_after false xs) h))))

abbrev push_list : List (List ℕ) → Trees → Trees
push_list xs t = record t { lists = xs ∷ t.lists }

opened_names : (xs : List (List ℕ)) → length xs ≤ 16 → Reads (Part part.Params ∷ []) (λ t. with_names xs (made act.NoNames t)) (params_pieces xs)
opened_names xs le = record {
  by = λ v k h.
      let u : State = after_make act.NoNames (past_word lex.OpenParen v) in
      by_rule part.Params (Fixed lex.OpenParen ∷ Make act.NoNames ∷ Part part.Names ∷ []) (inl refl)
      (after_word lex.OpenParen refl (Make act.NoNames ∷ Part part.Names ∷ []) (λ t. with_names xs (made act.NoNames t)) (names_after true xs) v refl k
      (make act.NoNames (first_names xs u (omega (arith, le)) (keeps_rest v.depth v.used (a_word lex.OpenParen) (names_after true xs) k) (tokens_rest (a_word lex.OpenParen) (names_after true xs) h))));
}

params : (xs : List (List ℕ)) → length xs ≤ 16 → Reads (Part part.Params ∷ []) (push_list xs) (params_pieces xs)
params xs le = making_as (opened_names xs le) (push_list xs) (λ t. with_names_is xs [] t.lists t)

abbrev push_bound : ℕ → Trees → Trees
push_bound n t = record t { bounds = n ∷ t.bounds }

bound : (n : ℕ) → (nat_le 1 n && nat_le n 1000) ≡ true → Reads (Bound ∷ []) (push_bound n) (a_number (pos n) ∷ [])
bound n b = record {
  by = λ v k h.
      let small : n ≤ 1000 = leb-true n 1000 (and_parts (nat_le 1 n) (nat_le n 1000) b).1 in
      let same : value_from 0 (decimal n) ≡ n = value_decimal n (omega (arith, small)) in
      let f : fits Bound (letter kind.Number (decimal n)) ≡ true = ap (λ m. nat_le 1 m && nat_le m 1000) same ∙ b in
      subst (λ m. Derives (Bound ∷ []) v (letters_of (a_number (pos n) ∷ [])) (went (push_bound m) (a_number (pos n) ∷ []) v)) same
      (read Bound (letter kind.Number (decimal n)) f (inr (clear (has 1024 v.used) false false true k refl)) done);
}

-- items

abbrev add : Item → Trees → Trees
add i t = record t { items = t.items ++ i ∷ [] }

-- a word and symbols of a rule of items are read as these pieces, and make the item
record IsItem (i : Item) (xs : List Piece) : Type 0 where
  lead : Lexeme
  fit : fits (Fixed lead) (letter (lexeme_kind lead) (spelled lead)) ≡ true
  symbols : List Symbol
  pieces : List Piece
  same : a_word lead ∷ pieces ≡ xs
  is : IsOneOf (rules part.Items) (Fixed lead ∷ symbols ++ Part part.Items ∷ [])
  reads : Reads symbols (add i) pieces

few : (i : Item) → is_fit i ≡ true → length (params_of i) ≤ 16
few i h = leb-true (length (params_of i)) 16 (and_parts (nat_le (length (params_of i)) 16) (is_ordinary i) h).0

ordinary : (i : Item) → is_fit i ≡ true → is_ordinary i ≡ true
ordinary i h = (and_parts (nat_le (length (params_of i)) 16) (is_ordinary i) h).1

an_item : (i : Item) → is_fit i ≡ true → IsItem i (item_pieces i)
an_item (item.Table x) h = record {
  lead = lex.Table;
  fit = refl;
  symbols = Name ∷ Fixed lex.Semicolon ∷ Make (act.Item item_kind.Table) ∷ [];
  pieces = a_name x ∷ a_word lex.Semicolon ∷ [];
  same = refl;
  is = inl refl;
  reads = then (name x) (made_by (word lex.Semicolon refl refl) (act.Item item_kind.Table));
}
an_item (item.Queue x n) h = record {
  lead = lex.Queue;
  fit = refl;
  symbols = Name ∷ Bound ∷ Fixed lex.Semicolon ∷ Make (act.Item item_kind.Queue) ∷ [];
  pieces = a_name x ∷ a_number (pos n) ∷ a_word lex.Semicolon ∷ [];
  same = refl;
  is = inr (inl refl);
  reads = then (name x) (then (bound n (ordinary (item.Queue x n) h)) (made_by (word lex.Semicolon refl refl) (act.Item item_kind.Queue)));
}
an_item (item.Outside x ps) h = record {
  lead = lex.Outside;
  fit = refl;
  symbols = Name ∷ Part part.Params ∷ Fixed lex.Semicolon ∷ Make (act.Item item_kind.Outside) ∷ [];
  pieces = a_name x ∷ (params_pieces ps ++ a_word lex.Semicolon ∷ []);
  same = refl;
  is = inr (inr (inl refl));
  reads = then (name x) (made_by (then (params ps (few (item.Outside x ps) h)) (word lex.Semicolon refl refl)) (act.Item item_kind.Outside));
}
an_item (item.Helper x ps e) h = record {
  lead = lex.Helper;
  fit = refl;
  symbols = Name ∷ Part part.Params ∷ Fixed lex.Assign ∷ Part part.Outer ∷ Fixed lex.Semicolon ∷ Make (act.Item item_kind.Helper) ∷ [];
  pieces = a_name x ∷ (params_pieces ps ++ a_word lex.Assign ∷ (outer_pieces e ++ a_word lex.Semicolon ∷ []));
  same = refl;
  is = inr (inr (inr (inl refl)));
  reads = then (name x) (then (params ps (few (item.Helper x ps e) h)) (then (word lex.Assign refl refl) (made_by (then (outer e) (word lex.Semicolon refl refl)) (act.Item item_kind.Helper))));
}
an_item (item.Txn true x ps b) h = absurd (let no : false ≡ true = ordinary (item.Txn true x ps b) h in cc)
an_item (item.Txn false x ps b) h = record {
  lead = lex.Txn;
  fit = refl;
  symbols = Name ∷ Part part.Params ∷ Part part.Block ∷ Make (act.Item item_kind.Txn) ∷ [];
  pieces = a_name x ∷ (params_pieces ps ++ body_pieces b);
  same = refl;
  is = inr (inr (inr (inr (inl refl))));
  reads = then (name x) (then (params ps (few (item.Txn false x ps b) h)) (made_by (body b) (act.Item item_kind.Txn)));
}
an_item (item.Flow x ps b) h = record {
  lead = lex.Flow;
  fit = refl;
  symbols = Name ∷ Part part.Params ∷ Part part.Block ∷ Make (act.Item item_kind.Flow) ∷ [];
  pieces = a_name x ∷ (params_pieces ps ++ body_pieces b);
  same = refl;
  is = inr (inr (inr (inr (inr (inl refl)))));
  reads = then (name x) (then (params ps (few (item.Flow x ps b) h)) (made_by (body b) (act.Item item_kind.Flow)));
}

one_item : (i : Item) (xs : List Piece) (q : IsItem i xs) (v : State) → length v.trees.items < 1000 → keeps v.depth v.used xs ≡ true
    → list_all is_token xs ≡ true → Derives (Fixed q.lead ∷ q.symbols) v (letters_of xs) (went (add i) xs v)
one_item i xs q v lt k h =
    let ys : List Piece = a_word q.lead ∷ q.pieces in
    let k2 : keeps v.depth v.used ys ≡ true = ap (λ zs. keeps v.depth v.used zs) q.same ∙ k in
    let h2 : list_all is_token ys ≡ true = ap (λ zs. list_all is_token zs) q.same ∙ h in
    let c : crowded (Fixed q.lead) v ≡ false = none_crowded (leads_item q.lead) (nat_le 1000 (length v.trees.items)) (not_le 1000 (length v.trees.items) (nat_le 1000 (length v.trees.items)) refl lt) in
    let d = q.reads.by (past_word q.lead v) (keeps_rest v.depth v.used (a_word q.lead) q.pieces k2) (tokens_rest (a_word q.lead) q.pieces h2) in
    subst (λ zs. Derives (Fixed q.lead ∷ q.symbols) v (letters_of zs) (went (add i) zs v)) q.same
    (after_word q.lead q.fit q.symbols (add i) q.pieces v c k2 d)

abbrev add_all : List Item → Trees → Trees
add_all [] t = t
add_all (i ∷ items) t = add_all items (add i t)

add_all_is : (items : List Item) (t : Trees) → (add_all items t).items ≡ t.items ++ items
add_all_is [] t = sym (append-nil t.items)
add_all_is (i ∷ items) t = add_all_is items (add i t) ∙ append_assoc t.items (i ∷ []) items

all_items : (items : List Item) (v : State) → length v.trees.items + length items ≤ 1000 → list_all is_fit items ≡ true
    → keeps v.depth v.used (program_pieces items) ≡ true → list_all is_token (program_pieces items) ≡ true
    → Derives (Part part.Items ∷ []) v (letters_of (program_pieces items)) (went (add_all items) (program_pieces items) v)
all_items [] v n f k h = by_rule part.Items [] (inr (inr (inr (inr (inr (inr (inl refl))))))) done
all_items (i ∷ items) v n f k h =
    let f2 = and_parts (is_fit i) (list_all is_fit items) f in
    let q = an_item i f2.0 in
    let k2 = keeps_parts v.depth v.used (item_pieces i) (program_pieces items) k in
    let h2 = tokens_parts (item_pieces i) (program_pieces items) h in
    let u : State = went (add i) (item_pieces i) v in
    let e = length-append v.trees.items (i ∷ []) in
    let d = one_item i (item_pieces i) q v (omega (arith, n)) k2.0 h2.0 in
    let more = all_items items u (omega (arith, n, e)) f2.1 k2.1 h2.1 in
    by_rule part.Items (Fixed q.lead ∷ q.symbols ++ Part part.Items ∷ []) q.is
    (subst (λ s. Derives s v (letters_of (program_pieces (i ∷ items))) (went (add_all (i ∷ items)) (program_pieces (i ∷ items)) v)) (sym (append-nil (Fixed q.lead ∷ q.symbols ++ Part part.Items ∷ [])))
    (after (Fixed q.lead ∷ q.symbols) (Part part.Items ∷ []) (add i) (add_all items) (item_pieces i) (program_pieces items) v d more))

pub spelled_program : (items : List Item) → HasTokens items → KeepsLimits items → IsProgram (letters_of (program_pieces items)) items
spelled_program items h l =
    let few : length items ≤ 1000 = l.few in
    (went (add_all items) (program_pieces items) start, all_items items start (omega (arith, few)) l.fit l.keeps h, add_all_is items start.trees)
