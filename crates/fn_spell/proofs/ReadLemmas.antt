-- What the grammar reads as which pieces, part by part.
use Rattle.std.proofs.Common.{◌≡◌, ℕ, ◌+◌, List, [], ◌∷◌, ◌++◌, Option, Bool, true, false, refl, sym, ap, ◌∙◌, subst, append_assoc, append-nil, inr, length}
use Rattle.std.specs.Prelude.{◌||◌, ◌&&◌, not, nat_le}
use Rattle.std.specs.List.{list_all}
use Rattle.std.proofs.lemmas.Bool.{and_parts}
use Rattle.std.proofs.lemmas.List.Folds.{list_all-append}
use Rattle.fn_lex.specs.declared.span.TokenKind.TheVariants as kind
use Rattle.fn_grammar.specs.declared.lexeme.Lexeme.{Lexeme}
use Rattle.fn_grammar.specs.declared.symbol.Action.{Action}
use Rattle.fn_grammar.specs.declared.symbol.Part.{Part as Nonterminal}
use Rattle.fn_grammar.specs.declared.symbol.Symbol.{Symbol}
use Rattle.fn_grammar.specs.declared.symbol.Symbol.TheVariants.{Fixed, Name, Number, Text, Part, Make, Begin, End}
use Rattle.fn_grammar.specs.Letters.{Letter, letter, fits, spelled}
use Rattle.fn_grammar.specs.Grammar.{rules}
use Rattle.fn_grammar.specs.Trees.{Trees, made}
use Rattle.fn_grammar.specs.Derivation.{State, IsOneOf, Derives, done, read, make, begin, end, by_rule, has, deeper, crowded, leads_item}
use Rattle.fn_spell.specs.Pieces.{Piece, a_word, a_name, a_number, a_text, expr_begins, expr_ends, word_of, lexeme_kind, letters_of}
use Rattle.fn_spell.specs.Limits.{is_token, depth_behind, used_behind, may_stand, keeps}

abbrev pub depth_over : ℕ → List Piece → ℕ
depth_over n [] = n
depth_over n (x ∷ xs) = depth_over (depth_behind n x) xs

abbrev pub used_over : Option ℕ → List Piece → Option ℕ
used_over u [] = u
used_over u (x ∷ xs) = used_over (used_behind u x) xs

-- the state behind these pieces, if they make that of the trees
abbrev pub went : (Trees → Trees) → List Piece → State → State
went f xs v = record { trees = f v.trees; depth = depth_over v.depth xs; used = used_over v.used xs }

-- The symbols are read as these pieces where those keep the limits, and make these trees.
pub record Reads (r : List Symbol) (f : Trees → Trees) (xs : List Piece) : Type 0 where
  pub by : (v : State) → keeps v.depth v.used xs ≡ true → list_all is_token xs ≡ true → Derives r v (letters_of xs) (went f xs v)

-- one after the other

and_assoc : (a b c : Bool) → (a && (b && c)) ≡ ((a && b) && c)
and_assoc true b c = refl
and_assoc false b c = refl

depth_append : (n : ℕ) (xs ys : List Piece) → depth_over n (xs ++ ys) ≡ depth_over (depth_over n xs) ys
depth_append n [] ys = refl
depth_append n (x ∷ xs) ys = depth_append (depth_behind n x) xs ys

used_append : (u : Option ℕ) (xs ys : List Piece) → used_over u (xs ++ ys) ≡ used_over (used_over u xs) ys
used_append u [] ys = refl
used_append u (x ∷ xs) ys = used_append (used_behind u x) xs ys

keeps_append : (n : ℕ) (u : Option ℕ) (xs ys : List Piece) → keeps n u (xs ++ ys) ≡ (keeps n u xs && keeps (depth_over n xs) (used_over u xs) ys)
keeps_append n u [] ys = refl
keeps_append n u (x ∷ xs) ys =
    ap (λ b. may_stand n u x && b) (keeps_append (depth_behind n x) (used_behind u x) xs ys)
    ∙ and_assoc (may_stand n u x) (keeps (depth_behind n x) (used_behind u x) xs) (keeps (depth_over (depth_behind n x) xs) (used_over (used_behind u x) xs) ys)

pub letters_append : (xs ys : List Piece) → letters_of (xs ++ ys) ≡ letters_of xs ++ letters_of ys
letters_append [] ys = refl
letters_append (expr_begins ∷ xs) ys = letters_append xs ys
letters_append (expr_ends ∷ xs) ys = letters_append xs ys
letters_append (a_word l ∷ xs) ys = ap (λ t. letter (lexeme_kind l) (spelled l) ∷ t) (letters_append xs ys)
letters_append (a_name w ∷ xs) ys = ap (λ t. letter kind.Name w ∷ t) (letters_append xs ys)
letters_append (a_number z ∷ xs) ys = ap (λ t. letter kind.Number (word_of (a_number z)) ∷ t) (letters_append xs ys)
letters_append (a_text w ∷ xs) ys = ap (λ t. letter kind.Text (word_of (a_text w)) ∷ t) (letters_append xs ys)

-- a derivation goes on with another
pub join : {r : List Symbol} {v w : State} {xs : List Letter} → Derives r v xs w → (todo : List Symbol) (ys : List Letter) (z : State) → Derives todo w ys z → Derives (r ++ todo) v (xs ++ ys) z
join done todo ys z d = d
join (read s x f k e) todo ys z d = read s x f k (join e todo ys z d)
join (make a e) todo ys z d = make a (join e todo ys z d)
join (begin e) todo ys z d = begin (join e todo ys z d)
join (end e) todo ys z d = end (join e todo ys z d)
join (by_rule {todo = t} {v = v} {xs = xs} p r is e) todo ys z d =
    by_rule p r is (subst (λ s. Derives s v (xs ++ ys) z) (append_assoc r t todo) (join e todo ys z d))

abbrev at : Trees → ℕ → Option ℕ → State
at t n u = record { trees = t; depth = n; used = u }

state_eq : (t : Trees) (n m : ℕ) (u w : Option ℕ) → n ≡ m → u ≡ w → at t n u ≡ at t m w
state_eq t n m u w p q = ap (λ n. at t n u) p ∙ ap (λ u. at t m u) q

pub keeps_parts : (n : ℕ) (u : Option ℕ) (xs ys : List Piece) → keeps n u (xs ++ ys) ≡ true → (keeps n u xs ≡ true) × (keeps (depth_over n xs) (used_over u xs) ys ≡ true)
keeps_parts n u xs ys k = and_parts (keeps n u xs) (keeps (depth_over n xs) (used_over u xs) ys) (sym (keeps_append n u xs ys) ∙ k)

pub tokens_parts : (xs ys : List Piece) → list_all is_token (xs ++ ys) ≡ true → (list_all is_token xs ≡ true) × (list_all is_token ys ≡ true)
tokens_parts xs ys h = and_parts (list_all is_token xs) (list_all is_token ys) (sym (list_all-append is_token xs ys) ∙ h)

-- a derivation over pieces goes on with another
pub after : (r s : List Symbol) (f g : Trees → Trees) (xs ys : List Piece) (v : State) → Derives r v (letters_of xs) (went f xs v)
    → Derives s (went f xs v) (letters_of ys) (went g ys (went f xs v)) → Derives (r ++ s) v (letters_of (xs ++ ys)) (went (λ t. g (f t)) (xs ++ ys) v)
after r s f g xs ys v d e =
    let u : State = went f xs v in
    let j : Derives (r ++ s) v (letters_of xs ++ letters_of ys) (went g ys u) = join d s (letters_of ys) (went g ys u) e in
    let same : went g ys u ≡ went (λ t. g (f t)) (xs ++ ys) v = state_eq (g (f v.trees)) (depth_over (depth_over v.depth xs) ys) (depth_over v.depth (xs ++ ys)) (used_over (used_over v.used xs) ys) (used_over v.used (xs ++ ys)) (sym (depth_append v.depth xs ys)) (sym (used_append v.used xs ys)) in
    subst (λ z. Derives (r ++ s) v (letters_of (xs ++ ys)) z) same
    (subst (λ ls. Derives (r ++ s) v ls (went g ys u)) (sym (letters_append xs ys)) j)

pub then : {r s : List Symbol} {f g : Trees → Trees} {xs ys : List Piece} → Reads r f xs → Reads s g ys → Reads (r ++ s) (λ t. g (f t)) (xs ++ ys)
then {r = r} {s = s} {f = f} {g = g} {xs = xs} {ys = ys} p q = record {
  by = λ v k h.
      let k2 = keeps_parts v.depth v.used xs ys k in
      let h2 = tokens_parts xs ys h in
      after r s f g xs ys v (p.by v k2.0 h2.0) (q.by (went f xs v) k2.1 h2.1);
}

-- another way to say which trees are made
pub making_as : {r : List Symbol} {f : Trees → Trees} {xs : List Piece} → Reads r f xs → (g : Trees → Trees) → ((t : Trees) → f t ≡ g t) → Reads r g xs
making_as {r = r} {f = f} {xs = xs} p g e = record {
  by = λ v k h.
      let same : went f xs v ≡ went g xs v = ap (λ t. at t (depth_over v.depth xs) (used_over v.used xs)) (e v.trees) in
      subst (λ z. Derives r v (letters_of xs) z) same (p.by v k h);
}

pub nothing : Reads [] (λ t. t) []
nothing = record { by = λ v k h. done }

making : (a : Action) → Reads (Make a ∷ []) (made a) []
making a = record { by = λ v k h. make a done }

pub made_by : {r : List Symbol} {f : Trees → Trees} {xs : List Piece} → Reads r f xs → (a : Action) → Reads (r ++ Make a ∷ []) (λ t. made a (f t)) xs
made_by {r = r} {f = f} {xs = xs} p a = subst (λ ys. Reads (r ++ Make a ∷ []) (λ t. made a (f t)) ys) (append-nil xs) (then p (making a))

-- with a part behind it that is written as nothing
pub before : {r s : List Symbol} {f : Trees → Trees} {xs : List Piece} → Reads r f xs → Reads s (λ t. t) [] → Reads (r ++ s) f xs
before {r = r} {s = s} {f = f} {xs = xs} p q = subst (λ ys. Reads (r ++ s) f ys) (append-nil xs) (then p q)

pub part_by : (p : Nonterminal) {r : List Symbol} {f : Trees → Trees} {xs : List Piece} → Reads r f xs → IsOneOf (rules p) r → Reads (Part p ∷ []) f xs
part_by p {r = r} {f = f} {xs = xs} q is = record {
  by = λ v k h. by_rule p r is (subst (λ s. Derives s v (letters_of xs) (went f xs v)) (sym (append-nil r)) (q.by v k h));
}

-- single tokens

pub clear : (a b c d : Bool) → ((not a && not b) && d) ≡ true → c ≡ false → (a || (b || c)) ≡ false
clear true b c d h e = absurd (cc)
clear false true c d h e = absurd (cc)
clear false false c d h e = e

pub leads_none : (a b : Bool) → a ≡ false → (a && b) ≡ false
leads_none true b h = absurd (cc)
leads_none false b h = refl

pub word : (l : Lexeme) → fits (Fixed l) (letter (lexeme_kind l) (spelled l)) ≡ true → leads_item l ≡ false → Reads (Fixed l ∷ []) (λ t. t) (a_word l ∷ [])
word l f i = record {
  by = λ v k h.
      let none : crowded (Fixed l) v ≡ false = leads_none (leads_item l) (nat_le 1000 (length v.trees.items)) i in
      read (Fixed l) (letter (lexeme_kind l) (spelled l)) f (inr (clear (has 1024 v.used) (deeper (Fixed l) v.depth) (crowded (Fixed l) v) true k none)) done;
}

abbrev pub push_name : List ℕ → Trees → Trees
push_name w t = record t { names = w ∷ t.names }

pub name : (w : List ℕ) → Reads (Name ∷ []) (push_name w) (a_name w ∷ [])
name w = record {
  by = λ v k h. read Name (letter kind.Name w) refl (inr (clear (has 1024 v.used) false false true k refl)) done;
}

pub begins : Reads (Begin ∷ []) (λ t. t) (expr_begins ∷ [])
begins = record { by = λ v k h. begin done }

pub ends : Reads (End ∷ []) (λ t. t) (expr_ends ∷ [])
ends = record { by = λ v k h. end done }
