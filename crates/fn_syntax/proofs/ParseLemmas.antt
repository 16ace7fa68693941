-- From steps of the parser to the program, or to the place.
use Rattle.std.proofs.Common.{◌≡◌, ℕ, suc, zero, ◌+◌, ◌<◌, ◌≤◌, List, [], ◌∷◌, ◌++◌, length, drop, take, Some, None, Result, Ok, Err, refl, sym, ap, ◌∙◌, subst, arith, append_assoc, append-nil, add-one, get_or}
use Rattle.std.specs.List.{AllByRecursion}
use Rattle.std.proofs.Math.Seq.{take-suc, drop-cons}
use Rattle.std.proofs.lemmas.List.{drop_all, take_all, length-take-le}
use Rattle.fn_lex.specs.Lexed.{IsSlice}
use Rattle.std.specs.Prelude.{◌↔◌, slice_range}
use Rattle.fn_lex.specs.declared.span.Token.{Token}
use Rattle.fn_tree.specs.declared.program.Item.{Item}
use Rattle.fn_tree.specs.declared.program.Program.{Program}
use Rattle.fn_syntax.specs.declared.fault.SyntaxError.{SyntaxError}
use Rattle.fn_syntax.specs.declared.fault.SyntaxError.TheVariants.{Syntax, Memory}
use Rattle.fn_grammar.specs.declared.symbol.Part.TheVariants as part
use Rattle.fn_grammar.specs.declared.symbol.Symbol.TheVariants.{Part}
use Rattle.fn_syntax.specs.declared.parser.Parser.{Parser}
use Rattle.fn_grammar.specs.Letters.{Letter, letter, letters}
use Rattle.fn_grammar.specs.Derivation.{State, start, Derives, IsProgram}
use Rattle.fn_grammar.specs.Place.{CanGoOn, IsStuck, IsPlace, start_of}
use Rattle.fn_grammar.specs.Steps.{Tame, AllTame, Went, Refuses}
use Rattle.fn_syntax.specs.Machine.{state_of}
use Rattle.fn_syntax.proofs.DerivationLemmas.{inv_done}
use Rattle.fn_syntax.proofs.ViableLemmas.{viable}

abbrev Whole : List Letter → State → Type 0
Whole xs w = Derives (Part part.Items ∷ []) start xs w

-- behind these letters, what is ahead of a program is what is ahead of the parser
abbrev pub Ahead : List Letter → Parser → Type 0
Ahead front p = (w : State) (xs : List Letter) → Whole (front ++ xs) w ↔ Derives p.todo (state_of p) xs w

pub ahead_start : (p : Parser) → p.todo ≡ Part part.Items ∷ [] → state_of p ≡ start → Ahead [] p
ahead_start p t s w xs = (
  λ d. subst (λ v. Derives p.todo v xs w) (sym s) (subst (λ todo. Derives todo start xs w) (sym t) d),
  λ d. subst (λ todo. Derives todo start xs w) t (subst (λ v. Derives p.todo v xs w) s d),
)

pub ahead_next : (front : List Letter) (x : Letter) (p q : Parser) → Ahead front p → Went (Some x) p.todo (state_of p) q.todo (state_of q) → Ahead (front ++ x ∷ []) q
ahead_next front x p q a g w xs =
    let e : (front ++ x ∷ []) ++ xs ≡ front ++ (x ∷ xs) = append_assoc front (x ∷ []) xs in (
      λ d. (g w xs).0 ((a w (x ∷ xs)).0 (subst (λ xs. Whole xs w) e d)),
      λ d. subst (λ xs. Whole xs w) (sym e) ((a w (x ∷ xs)).1 ((g w xs).1 d)),
    )

pub program_is : (front : List Letter) (p q : Parser) → Ahead front p → Went None p.todo (state_of p) q.todo (state_of q) → IsProgram front q.trees.items.items
program_is front p q a g = (state_of q, subst (λ xs. Whole xs (state_of q)) (append-nil front) ((a (state_of q) []).1 ((g (state_of q)).1 refl)), refl)

pub program_only : (front : List Letter) (p q : Parser) → Ahead front p → Went None p.todo (state_of p) q.todo (state_of q) → (items : List Item) → IsProgram front items → items ≡ q.trees.items.items
program_only front p q a g items d =
    let e : d.0 ≡ state_of q = (g d.0).0 ((a d.0 []).0 (subst (λ xs. Whole xs d.0) (sym (append-nil front)) d.1)) in
    sym d.2 ∙ ap (λ (w : State). w.trees.items) e

pub goes_on : (front : List Letter) (p : Parser) → Ahead front p → CanGoOn front
goes_on front p a =
    let d = viable p.todo (state_of p) in
    (d.0, d.1.trees.items, (d.1, (a d.1 d.0).1 d.2, refl))

pub stuck_at : (front rest : List Letter) (x : Letter) (p : Parser) → Ahead front p → Refuses (Some x) p.todo (state_of p) → IsStuck front (x ∷ rest)
stuck_at front rest x p a r = λ c.
    let d = c.2 in
    let e : (front ++ x ∷ []) ++ c.0 ≡ front ++ (x ∷ c.0) = append_assoc front (x ∷ []) c.0 in
    r d.0 c.0 ((a d.0 (x ∷ c.0)).0 (subst (λ xs. Whole xs d.0) e d.1))

pub none_at : (front rest : List Letter) (x : Letter) (p : Parser) → Ahead front p → Refuses (Some x) p.todo (state_of p) → (items : List Item) → IsProgram (front ++ x ∷ rest) items → ⊥
none_at front rest x p a r items d = r d.0 rest ((a d.0 (x ∷ rest)).0 d.1)

pub none_end : (front : List Letter) (p : Parser) → Ahead front p → Refuses None p.todo (state_of p) → (items : List Item) → IsProgram front items → ⊥
none_end front p a r items d = r d.0 [] ((a d.0 []).0 (subst (λ xs. Whole xs d.0) (sym (append-nil front)) d.1))

-- the letters of the tokens before one, and from it on

pub letters_join : (text : List ℕ) (a b : List Token) → letters text (a ++ b) ≡ letters text a ++ letters text b
letters_join text [] b = refl
letters_join text (t ∷ a) b = ap (λ xs. letter t.kind (slice_range text t.from t.to) ∷ xs) (letters_join text a b)

letters_length : (text : List ℕ) (ts : List Token) → length (letters text ts) ≡ length ts
letters_length text [] = refl
letters_length text (t ∷ ts) = ap suc (letters_length text ts)

-- the tokens, cut at one of them
pub cut : (ts : List Token) (i : ℕ) (d : Token) → i < length ts → ts ≡ take i ts ++ (get_or ts i d ∷ drop (suc i) ts)
cut [] i d lt = absurd (omega (arith, lt))
cut (t ∷ ts) zero d lt = refl
cut (t ∷ ts) (suc i) d lt = ap (λ r. t ∷ r) (cut ts i d (omega (arith, lt)))

letters_cut : (text : List ℕ) (ts : List Token) (i : ℕ) (d : Token) → i < length ts → letters text ts ≡ letters text (take i ts) ++ (letter (get_or ts i d).kind (slice_range text (get_or ts i d).from (get_or ts i d).to) ∷ letters text (drop (suc i) ts))
letters_cut text ts i d lt = ap (letters text) (cut ts i d lt) ∙ letters_join text (take i ts) (get_or ts i d ∷ drop (suc i) ts)

-- one token more was read
pub ahead_token : (text : List ℕ) (ts : List Token) (i : ℕ) (d t : Token) (p q : Parser) → i < length ts → t ≡ get_or ts i d → Ahead (letters text (take i ts)) p → Went (Some (letter t.kind (slice_range text t.from t.to))) p.todo (state_of p) q.todo (state_of q) → Ahead (letters text (take (i + 1) ts)) q
ahead_token text ts i d t p q lt e a g =
    let x = letter t.kind (slice_range text t.from t.to) in
    let cat : take (i + 1) ts ≡ take i ts ++ t ∷ [] = ap (λ j. take j ts) (add-one i) ∙ (take-suc ts i d lt ∙ ap (λ t. take i ts ++ t ∷ []) (sym e)) in
    let same : letters text (take (i + 1) ts) ≡ letters text (take i ts) ++ x ∷ [] = ap (letters text) cat ∙ letters_join text (take i ts) (t ∷ []) in
    subst (λ front. Ahead front q) (sym same) (ahead_next (letters text (take i ts)) x p q a g)

-- a token is refused
pub place_token : (text : List ℕ) (ts : List Token) (i : ℕ) (d t : Token) (p : Parser) → i < length ts → t ≡ get_or ts i d → Ahead (letters text (take i ts)) p → Refuses (Some (letter t.kind (slice_range text t.from t.to))) p.todo (state_of p) → IsPlace text ts t.from
place_token text ts i d t p lt e a r =
    let front = letters text (take i ts) in
    let x = letter t.kind (slice_range text t.from t.to) in
    let size : length front ≡ i = letters_length text (take i ts) ∙ length-take-le i ts (omega (arith, lt)) in
    record {
      front = front;
      rest = x ∷ letters text (drop (suc i) ts);
      split = letters_cut text ts i d lt ∙ ap (λ (t : Token). front ++ (letter t.kind (slice_range text t.from t.to) ∷ letters text (drop (suc i) ts))) (sym e);
      goes_on = goes_on front p a;
      stuck = stuck_at front (letters text (drop (suc i) ts)) x p a r;
      here = ap (λ j. start_of text (drop j ts)) size ∙ (ap (start_of text) (drop-cons ts i d lt) ∙ ap (λ (t : Token). t.from) (sym e));
    }

pub none_token : (text : List ℕ) (ts : List Token) (i : ℕ) (d t : Token) (p : Parser) → i < length ts → t ≡ get_or ts i d → Ahead (letters text (take i ts)) p → Refuses (Some (letter t.kind (slice_range text t.from t.to))) p.todo (state_of p) → (items : List Item) → IsProgram (letters text ts) items → ⊥
none_token text ts i d t p lt e a r items h =
    let front = letters text (take i ts) in
    let same = letters_cut text ts i d lt ∙ ap (λ (t : Token). front ++ (letter t.kind (slice_range text t.from t.to) ∷ letters text (drop (suc i) ts))) (sym e) in
    none_at front (letters text (drop (suc i) ts)) (letter t.kind (slice_range text t.from t.to)) p a r items (subst (λ xs. IsProgram xs items) same h)

-- the text ends too early
pub place_end : (text : List ℕ) (ts : List Token) (p : Parser) → Ahead (letters text ts) p → Refuses None p.todo (state_of p) → IsPlace text ts (length text)
place_end text ts p a r = record {
  front = letters text ts;
  rest = [];
  split = sym (append-nil (letters text ts));
  goes_on = goes_on (letters text ts) p a;
  stuck = none_end (letters text ts) p a r;
  here = ap (start_of text) (drop_all (length (letters text ts)) ts (omega (arith, letters_length text ts)));
}

-- all tokens were read
pub ahead_all : (text : List ℕ) (ts : List Token) (i : ℕ) (p : Parser) → length ts ≤ i → Ahead (letters text (take i ts)) p → Ahead (letters text ts) p
ahead_all text ts i p le a = subst (λ ts. Ahead (letters text ts) p) (take_all i ts le) a

slice_in : (text : List ℕ) (ts : List Token) (i : ℕ) (d : Token) → i < length ts → AllByRecursion (IsSlice text) ts → IsSlice text (get_or ts i d)
slice_in text [] i d lt h = absurd (omega (arith, lt))
slice_in text (t ∷ ts) zero d lt h = h.0
slice_in text (t ∷ ts) (suc i) d lt h = slice_in text ts i d (omega (arith, lt)) h.1

-- each token is a slice of the text
pub slice_at : (text : List ℕ) (ts : List Token) (i : ℕ) (d t : Token) → i < length ts → t ≡ get_or ts i d → AllByRecursion (IsSlice text) ts → IsSlice text t
slice_at text ts i d t lt e h = subst (IsSlice text) (sym e) (slice_in text ts i d lt h)

nothing_follows : Tame part.Items []
nothing_follows l g x v w xs f d = let e : x ∷ xs ≡ [] = (inv_done v w (x ∷ xs) d).0 in cc

pub start_tame : (p : Parser) → p.todo ≡ Part part.Items ∷ [] → AllTame p.todo
start_tame p e = subst AllTame (sym e) (nothing_follows, tt)

abbrev Answer : Type 0
Answer = Result Program SyntaxError

place_in : Answer → ℕ
place_in (Ok p) = 0
place_in (Err (Syntax x)) = x
place_in (Err Memory) = 0

pub at_of : (x y : ℕ) (a b : Answer) → a ≡ Err (Syntax x) → b ≡ Err (Syntax y) → a ≡ b → x ≡ y
unfolding place_in
at_of x y a b e f g = sym (ap place_in e) ∙ (ap place_in g ∙ ap place_in f)
