-- Which rule the next letter chooses, and why no other one can do.
use Rattle.std.proofs.Common.{◌≡◌, ℕ, suc, zero, List, [], ◌∷◌, ◌++◌, Option, Some, None, Bool, true, false, refl, sym, ap, ◌∙◌, subst, inl, inr, ◌⊎◌}
use Rattle.std.specs.Prelude.{◌||◌, ◌&&◌, not, ◌==◌, if◌then◌else◌}
use Rattle.std.specs.Str.{bytes_eq}
use Rattle.std.proofs.lemmas.Slice.Eq.{bytes_eq-Decides}
use Rattle.fn_lex.specs.declared.span.TokenKind.{TokenKind}
use Rattle.fn_lex.specs.declared.span.TokenKind.TheVariants as kind
use Rattle.fn_grammar.specs.declared.lexeme.Lexeme.{Lexeme}
use Rattle.fn_grammar.specs.declared.symbol.Action.{Action}
use Rattle.fn_grammar.specs.declared.symbol.Part.{Part as Nonterminal}
use Rattle.fn_grammar.specs.declared.symbol.Symbol.{Symbol}
use Rattle.fn_grammar.specs.declared.symbol.Symbol.TheVariants.{Fixed, Name, Param, Bound, Number, Text, Part, Make, Begin, End}
use Rattle.fn_grammar.specs.Letters.{Letter, fits, spelled, is_fixed, is_name, is_number, is_text}
use Rattle.fn_grammar.specs.Grammar.{rules}
use Rattle.fn_grammar.specs.Derivation.{State, IsOneOf, Derives, done, read, make, begin, end, by_rule, over, after_letter, after_make, after_begin, after_end}
use Rattle.fn_grammar.specs.Steps.{starts, chosen, greedy, Tame, AllTame, input, is_terminal}
use Rattle.fn_syntax.proofs.TableLemmas.{class_of, spelling_of, clash, scan, vanish, any, nil_in, may_in, may, nil, tight, all, ends, tames, is_led, lead, is_greedy, apart, all_apart, every, rules_apart, rules_tame, IsIn, is_tight}

-- truth values

pub and_left : (a b : Bool) → (a && b) ≡ true → a ≡ true
and_left true b h = refl
and_left false b h = h

pub and_right : (a b : Bool) → (a && b) ≡ true → b ≡ true
and_right true b h = h
and_right false b h = absurd (cc)

pub and_both : (a b : Bool) → a ≡ true → b ≡ true → (a && b) ≡ true
and_both true b h g = g
and_both false b h g = h

pub or_left : (a b : Bool) → a ≡ true → (a || b) ≡ true
or_left true b h = refl
or_left false b h = absurd (cc)

pub or_right : (a b : Bool) → b ≡ true → (a || b) ≡ true
or_right true b h = refl
or_right false b h = h

pub false_if : (b : Bool) → (b ≡ true → ⊥) → b ≡ false
false_if true h = absurd (h refl)
false_if false h = refl

pub some_eq : {X : Type 0} (a b : X) → Some a ≡ Some b → a ≡ b
some_eq a b e = cc

-- a derivation by its first symbol

pub inv_make : (a : Action) (todo : List Symbol) (v w : State) (xs : List Letter) → Derives (Make a ∷ todo) v xs w → Derives todo (after_make a v) xs w
inv_make a todo v w xs (read s x f k d) = absurd (cc)
inv_make a todo v w xs (make b d) = d

pub inv_begin : (todo : List Symbol) (v w : State) (xs : List Letter) → Derives (Begin ∷ todo) v xs w → Derives todo (after_begin v) xs w
inv_begin todo v w xs (read s x f k d) = absurd (cc)
inv_begin todo v w xs (begin d) = d

pub inv_end : (todo : List Symbol) (v w : State) (xs : List Letter) → Derives (End ∷ todo) v xs w → Derives todo (after_end v) xs w
inv_end todo v w xs (read s x f k d) = absurd (cc)
inv_end todo v w xs (end d) = d

pub inv_part : (p : Nonterminal) (todo : List Symbol) (v w : State) (xs : List Letter) → Derives (Part p ∷ todo) v xs w → (r : List Symbol) × IsOneOf (rules p) r × Derives (r ++ todo) v xs w
inv_part p todo v w xs (read s x f k d) = absurd (cc)
inv_part p todo v w xs (by_rule q r i d) = (r, i, d)

pub inv_read : (s : Symbol) (todo : List Symbol) (v w : State) (x : Letter) (xs : List Letter) → is_terminal s ≡ true → Derives (s ∷ todo) v (x ∷ xs) w → (fits s x ≡ true) × ((x.free ≡ true) ⊎ (over s v ≡ false)) × Derives todo (after_letter s x v) xs w
inv_read s todo v w x xs t (read r y f k d) = (f, k, d)
inv_read s todo v w x xs t (make a d) = absurd (cc)
inv_read s todo v w x xs t (begin d) = absurd (cc)
inv_read s todo v w x xs t (end d) = absurd (cc)
inv_read s todo v w x xs t (by_rule p r i d) = absurd (cc)

pub inv_none : (s : Symbol) (todo : List Symbol) (v w : State) → is_terminal s ≡ true → Derives (s ∷ todo) v [] w → ⊥
inv_none s todo v w t (make a d) = cc
inv_none s todo v w t (begin d) = cc
inv_none s todo v w t (end d) = cc
inv_none s todo v w t (by_rule p r i d) = cc

pub inv_done : (v w : State) (xs : List Letter) → Derives [] v xs w → (xs ≡ []) × (w ≡ v)
inv_done v w xs done = (refl, refl)

-- a letter that two symbols may be written as

kind_class : TokenKind → ℕ
kind_class kind.Word = 0
kind_class kind.Sign = 0
kind_class kind.Name = 1
kind_class kind.Number = 2
kind_class kind.Text = 3

text_at : TokenKind → List ℕ → List ℕ
text_at kind.Word w = w
text_at kind.Sign w = w
text_at _ w = []

fixed_kind : (k : TokenKind) (w : List ℕ) → is_fixed k ≡ true → (0 ≡ kind_class k) × (text_at k w ≡ w)
unfolding kind_class text_at
fixed_kind kind.Word w h = (refl, refl)
fixed_kind kind.Sign w h = (refl, refl)
fixed_kind _ w h = absurd (cc)

name_kind : (k : TokenKind) (w : List ℕ) → is_name k ≡ true → (1 ≡ kind_class k) × ([] ≡ text_at k w)
unfolding kind_class text_at
name_kind kind.Name w h = (refl, refl)
name_kind _ w h = absurd (cc)

number_kind : (k : TokenKind) (w : List ℕ) → is_number k ≡ true → (2 ≡ kind_class k) × ([] ≡ text_at k w)
unfolding kind_class text_at
number_kind kind.Number w h = (refl, refl)
number_kind _ w h = absurd (cc)

text_kind : (k : TokenKind) (w : List ℕ) → is_text k ≡ true → (3 ≡ kind_class k) × ([] ≡ text_at k w)
unfolding kind_class text_at
text_kind kind.Text w h = (refl, refl)
text_kind _ w h = absurd (cc)

written : (s : Symbol) (x : Letter) → fits s x ≡ true → (class_of s ≡ kind_class x.kind) × (spelling_of s ≡ text_at x.kind x.word)
written (Fixed l) x h =
    let k = fixed_kind x.kind x.word (and_left _ _ h) in
    (k.0, sym ((bytes_eq-Decides x.word (spelled l)).0 (and_right _ _ h)) ∙ sym k.1)
written Name x h = name_kind x.kind x.word h
written Param x h = name_kind x.kind x.word h
written Bound x h = number_kind x.kind x.word (and_left _ _ h)
written Number x h = number_kind x.kind x.word h
written Text x h = text_kind x.kind x.word h
written (Part p) x h = absurd (cc)
written (Make a) x h = absurd (cc)
written Begin x h = absurd (cc)
written End x h = absurd (cc)

same_class : (s : Symbol) → (class_of s == class_of s) ≡ true
same_class (Fixed l) = refl
same_class Name = refl
same_class Param = refl
same_class Bound = refl
same_class Number = refl
same_class Text = refl
same_class _ = refl

clashes : (s t : Symbol) (x : Letter) → fits s x ≡ true → fits t x ≡ true → clash s t ≡ true
clashes s t x f g =
    let p = written s x f in
    let q = written t x g in
    and_both (class_of s == class_of t) (bytes_eq (spelling_of s) (spelling_of t))
    (subst (λ n. (class_of s == n) ≡ true) (p.0 ∙ sym q.0) (same_class s))
    ((bytes_eq-Decides (spelling_of s) (spelling_of t)).1 (p.1 ∙ sym q.1))

-- what a letter begins

any_one : (f : List Symbol → Bool) (rs : List (List Symbol)) (r : List Symbol) → IsOneOf rs r → f r ≡ true → any f rs ≡ true
any_one f [] r i h = absurd i
any_one f (q ∷ qs) r (inl e) h = or_left (f q) (any f qs) (subst (λ q. f q ≡ true) (sym e) h)
any_one f (q ∷ qs) r (inr i) h = or_right (f q) (any f qs) (any_one f qs r i h)

pub every_one : (f : List Symbol → Bool) (rs : List (List Symbol)) (r : List Symbol) → every f rs ≡ true → IsOneOf rs r → f r ≡ true
every_one f [] r h i = absurd i
every_one f (q ∷ qs) r h (inl e) = subst (λ q. f q ≡ true) e (and_left (f q) (every f qs) h)
every_one f (q ∷ qs) r h (inr i) = every_one f qs r (and_right (f q) (every f qs) h) i

all_in : (f : Lexeme → Bool) (ls : List Lexeme) (l : Lexeme) → all f ls ≡ true → IsIn ls l → f l ≡ true
all_in f [] l h i = absurd i
all_in f (m ∷ ms) l h (inl e) = subst (λ l. f l ≡ true) e (and_left (f m) (all f ms) h)
all_in f (m ∷ ms) l h (inr i) = all_in f ms l (and_right (f m) (all f ms) h) i

join_two : (m n c e : Bool) (Z : Type 0) → n ≡ true → (c ≡ true) ⊎ ((e ≡ true) × Z) → ((m || (n && c)) ≡ true) ⊎ (((n && e) ≡ true) × Z)
join_two m n c e Z h (inl g) = inl (or_right m (n && c) (and_both n c h g))
join_two m n c e Z h (inr (g, z)) = inr (and_both n e h g, z)

join_part : (m n c e : Bool) (Y Z : Type 0) → (m ≡ true) ⊎ ((n ≡ true) × Y) → (Y → (c ≡ true) ⊎ ((e ≡ true) × Z)) → ((m || (n && c)) ≡ true) ⊎ (((n && e) ≡ true) × Z)
join_part m n c e Y Z (inl h) k = inl (or_left m (n && c) h)
join_part m n c e Y Z (inr (h, y)) k = join_two m n c e Z h (k y)

-- these symbols are ahead, with the letter next
abbrev Ahead : List Symbol → Letter → List Letter → State → Type 0
Ahead todo x xs w = (u : State) × Derives todo u (x ∷ xs) w

abbrev Part-begins : (Nonterminal → Bool) → (Nonterminal → Bool) → Letter → Type 0
Part-begins may nil x = (p : Nonterminal) (r todo : List Symbol) (v w : State) (xs : List Letter) → IsOneOf (rules p) r → Derives (r ++ todo) v (x ∷ xs) w → (may p ≡ true) ⊎ ((nil p ≡ true) × Ahead todo x xs w)

begins_by : (s : Symbol) (x : Letter) → fits s x ≡ true → (may nil : Nonterminal → Bool) → Part-begins may nil x → (ts todo : List Symbol) (v w : State) (xs : List Letter) → Derives (ts ++ todo) v (x ∷ xs) w → (scan may nil s ts ≡ true) ⊎ ((vanish nil ts ≡ true) × Ahead todo x xs w)
begins_by s x f may nil part [] todo v w xs d = inr (refl, (v, d))
begins_by s x f may nil part (Part p ∷ ts) todo v w xs d =
    let i = inv_part p (ts ++ todo) v w (x ∷ xs) d in
    join_part (may p) (nil p) (scan may nil s ts) (vanish nil ts) (Ahead (ts ++ todo) x xs w) (Ahead todo x xs w) (part p i.0 (ts ++ todo) v w xs i.1 i.2) (λ y. begins_by s x f may nil part ts todo y.0 w xs y.1)
begins_by s x f may nil part (Make a ∷ ts) todo v w xs d = begins_by s x f may nil part ts todo (after_make a v) w xs (inv_make a (ts ++ todo) v w (x ∷ xs) d)
begins_by s x f may nil part (Begin ∷ ts) todo v w xs d = begins_by s x f may nil part ts todo (after_begin v) w xs (inv_begin (ts ++ todo) v w (x ∷ xs) d)
begins_by s x f may nil part (End ∷ ts) todo v w xs d = begins_by s x f may nil part ts todo (after_end v) w xs (inv_end (ts ++ todo) v w (x ∷ xs) d)
begins_by s x f may nil part (t ∷ ts) todo v w xs d = inl (clashes s t x f (inv_read t (ts ++ todo) v w x xs refl d).0)

lift : (n : ℕ) (s : Symbol) (p : Nonterminal) (r : List Symbol) (Y : Type 0) → IsOneOf (rules p) r → (scan (may_in n s) (nil_in n) s r ≡ true) ⊎ ((vanish (nil_in n) r ≡ true) × Y) → (may_in (suc n) s p ≡ true) ⊎ ((nil_in (suc n) p ≡ true) × Y)
lift n s p r Y i (inl h) = inl (any_one (scan (may_in n s) (nil_in n) s) (rules p) r i h)
lift n s p r Y i (inr (h, y)) = inr (any_one (vanish (nil_in n)) (rules p) r i h, y)

begins : (n : ℕ) (s : Symbol) (x : Letter) → fits s x ≡ true → (ts todo : List Symbol) (v w : State) (xs : List Letter) → Derives (ts ++ todo) v (x ∷ xs) w → (scan (may_in n s) (nil_in n) s ts ≡ true) ⊎ ((vanish (nil_in n) ts ≡ true) × Ahead todo x xs w)
begins zero s x f = begins_by s x f (may_in zero s) (nil_in zero) (λ p r todo v w xs i d. inl refl)
begins (suc n) s x f = begins_by s x f (may_in (suc n) s) (nil_in (suc n)) (λ p r todo v w xs i d. lift n s p r (Ahead todo x xs w) i (begins n s x f r todo v w xs d))

-- what may follow a part

refute : (a b c e : Bool) (Y : Type 0) → (not a || (not b && (not c || e))) ≡ true → a ≡ true → (b ≡ true) ⊎ ((c ≡ true) × Y) → (e ≡ true → Y → ⊥) → ⊥
refute true true c e Y h q s k = cc
refute true false c e Y h q (inl s) k = cc
refute true false true e Y h q (inr (s, y)) k = k h y
refute true false false e Y h q (inr (s, y)) k = cc
refute false b c e Y h q s k = cc

tame_part : (p m : Nonterminal) (rest todo : List Symbol) → all (ends p m rest) tight ≡ true → Tame p todo → Tame m (rest ++ todo)
tame_part p m rest todo h t l g x v w xs f d =
    refute (greedy m l) (may (Fixed l) rest) (nil rest) (greedy p l) (Ahead todo x xs w) (all_in (ends p m rest) tight l h (is_tight m l g)) g (begins 12 (Fixed l) x f rest todo v w xs d) (λ gp y. t l gp x y.0 w xs f y.1)

tamed_by : (p : Nonterminal) (r todo : List Symbol) → tames p r ≡ true → Tame p todo → AllTame todo → AllTame (r ++ todo)
tamed_by p [] todo h t a = a
tamed_by p (Part m ∷ rest) todo h t a = (tame_part p m rest todo (and_left _ _ h) t, tamed_by p rest todo (and_right _ _ h) t a)
tamed_by p (s ∷ rest) todo h t a = tamed_by p rest todo h t a

pub tamed : (p : Nonterminal) (r todo : List Symbol) → IsOneOf (rules p) r → Tame p todo → AllTame todo → AllTame (r ++ todo)
tamed p r todo i t a = tamed_by p r todo (every_one (tames p) (rules p) r (rules_tame p) i) t a

-- the choice of a rule

started : (r todo : List Symbol) (v w : State) (next : Option Letter) (xs : List Letter) → Derives (r ++ todo) v (input next xs) w → starts r next ≡ true
started [] todo v w next xs d = refl
started (Part p ∷ r) todo v w next xs d = refl
started (Make a ∷ r) todo v w next xs d = refl
started (Begin ∷ r) todo v w next xs d = refl
started (End ∷ r) todo v w next xs d = refl
started (s ∷ r) todo v w None xs d = absurd (inv_none s (r ++ todo) v w refl d)
started (s ∷ r) todo v w (Some x) xs d = (inv_read s (r ++ todo) v w x xs refl d).0

led_none : (r : List Symbol) → is_led r ≡ true → starts r None ≡ false
led_none [] h = absurd (cc)
led_none (Part p ∷ r) h = absurd (cc)
led_none (Make a ∷ r) h = absurd (cc)
led_none (Begin ∷ r) h = absurd (cc)
led_none (End ∷ r) h = absurd (cc)
led_none (s ∷ r) h = refl

led_some : (r : List Symbol) (x : Letter) → is_led r ≡ true → starts r (Some x) ≡ fits (lead r) x
led_some [] x h = absurd (cc)
led_some (Part p ∷ r) x h = absurd (cc)
led_some (Make a ∷ r) x h = absurd (cc)
led_some (Begin ∷ r) x h = absurd (cc)
led_some (End ∷ r) x h = absurd (cc)
led_some (s ∷ r) x h = refl

greedy_is : (p : Nonterminal) (s : Symbol) → is_greedy p s ≡ true → (l : Lexeme) × (s ≡ Fixed l) × (greedy p l ≡ true)
greedy_is p (Fixed l) h = (l, refl, h)
greedy_is p _ h = absurd (cc)

abbrev split : Nonterminal → List Symbol → List Symbol → Bool
split p r q = is_led r && (not (may (lead r) q) && (not (nil q) || is_greedy p (lead r)))

apart_one : (p : Nonterminal) (r : List Symbol) (rs : List (List Symbol)) (q : List Symbol) → apart p r rs ≡ true → IsOneOf rs q → split p r q ≡ true
apart_one p r [] q h i = absurd i
apart_one p r (s ∷ rs) q h (inl e) = subst (λ q. split p r q ≡ true) e (and_left (split p r s) (apart p r rs) h)
apart_one p r (s ∷ rs) q h (inr i) = apart_one p r rs q (and_right (split p r s) (apart p r rs) h) i

no_lead : (p : Nonterminal) (r q todo : List Symbol) (v w : State) (x : Letter) (xs : List Letter) → Tame p todo → split p r q ≡ true → Derives (q ++ todo) v (x ∷ xs) w → fits (lead r) x ≡ true → ⊥
no_lead p r q todo v w x xs t h d f =
    refute true (may (lead r) q) (nil q) (is_greedy p (lead r)) (Ahead todo x xs w) (and_right (is_led r) _ h) refl (begins 12 (lead r) x f q todo v w xs d)
    (λ g y. let k = greedy_is p (lead r) g in t k.0 k.2 x y.0 w xs (subst (λ s. fits s x ≡ true) k.1 f) y.1)

later : (p : Nonterminal) (r q todo : List Symbol) (v w : State) (next : Option Letter) (xs : List Letter) → Tame p todo → split p r q ≡ true → Derives (q ++ todo) v (input next xs) w → starts r next ≡ false
later p r q todo v w None xs t h d = led_none r (and_left (is_led r) _ h)
later p r q todo v w (Some x) xs t h d = led_some r x (and_left (is_led r) _ h) ∙ false_if (fits (lead r) x) (no_lead p r q todo v w x xs t h d)

sure_in : (p : Nonterminal) (todo : List Symbol) → Tame p todo → (rs : List (List Symbol)) → all_apart p rs ≡ true → (q : List Symbol) → IsOneOf rs q → (v w : State) (next : Option Letter) (xs : List Letter) → Derives (q ++ todo) v (input next xs) w → chosen rs next ≡ Some q
sure_in p todo t [] h q i v w next xs d = absurd i
sure_in p todo t (r ∷ rs) h q (inl e) v w next xs d =
    ap (λ b. if b then Some r else chosen rs next) (started r todo v w next xs (subst (λ q. Derives (q ++ todo) v (input next xs) w) (sym e) d)) ∙ ap (λ q. Some q) e
sure_in p todo t (r ∷ rs) h q (inr i) v w next xs d =
    ap (λ b. if b then Some r else chosen rs next) (later p r q todo v w next xs t (apart_one p r rs q (and_left _ _ h) i) d) ∙ sure_in p todo t rs (and_right _ _ h) q i v w next xs d

pub sure : (p : Nonterminal) (q todo : List Symbol) (v w : State) (next : Option Letter) (xs : List Letter) → Tame p todo → IsOneOf (rules p) q → Derives (q ++ todo) v (input next xs) w → chosen (rules p) next ≡ Some q
sure p q todo v w next xs t i d = sure_in p todo t (rules p) (rules_apart p) q i v w next xs d

pick : (b : Bool) (q r : List Symbol) (o : Option (List Symbol)) (A : Type 0) → (o ≡ Some r → A) → (if b then Some q else o) ≡ Some r → (q ≡ r) ⊎ A
pick true q r o A k e = inl (some_eq q r e)
pick false q r o A k e = inr (k e)

pub chosen_in : (rs : List (List Symbol)) (next : Option Letter) (r : List Symbol) → chosen rs next ≡ Some r → IsOneOf rs r
chosen_in [] next r e = absurd (cc)
chosen_in (q ∷ qs) next r e = pick (starts q next) q r (chosen qs next) (IsOneOf qs r) (λ e. chosen_in qs next r e) e
