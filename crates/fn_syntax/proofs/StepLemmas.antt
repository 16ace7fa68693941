-- One step of the parser, and what it leaves ahead.
use Rattle.std.proofs.Common.{◌≡◌, suc, ◌+◌, ◌<◌, ◌≤◌, List, [], ◌∷◌, ◌++◌, Option, Some, None, Bool, true, false, refl, sym, ap, ◌∙◌, subst, inl, inr, ◌⊎◌, arith}
use Rattle.std.specs.Prelude.{nat_lt, ◌||◌, if◌then◌else◌}
use Rattle.std.proofs.lemmas.Bool.{ltb-true}
use Rattle.fn_grammar.specs.declared.symbol.Action.{Action}
use Rattle.fn_grammar.specs.declared.symbol.Part.{Part as Nonterminal}
use Rattle.fn_grammar.specs.declared.symbol.Symbol.{Symbol}
use Rattle.fn_grammar.specs.declared.symbol.Symbol.TheVariants.{Fixed, Name, Param, Bound, Number, Text, Part, Make, Begin, End}
use Rattle.fn_grammar.specs.Letters.{Letter, fits}
use Rattle.fn_grammar.specs.Grammar.{rules}
use Rattle.fn_grammar.specs.Derivation.{State, Derives, done, read, make, begin, end, by_rule, over, after_letter, after_make, after_begin, after_end}
use Rattle.fn_grammar.specs.Steps.{chosen, Tame, input, Went, Refuses, Same, is_terminal, cost, weight, effort}
use Rattle.fn_syntax.proofs.TableLemmas.{is_led, is_light, rules_light}
use Rattle.fn_syntax.proofs.DerivationLemmas.{inv_make, inv_begin, inv_end, inv_part, inv_read, inv_none, inv_done, sure, chosen_in, some_eq, every_one}

pub same_start : (next : Option Letter) (todo : List Symbol) (v : State) → Same next todo v todo v
same_start next todo v w xs = (λ d. d, λ d. d)

pub same_then : (next : Option Letter) (todo more last : List Symbol) (v u t : State) → Same next todo v more u → Same next more u last t → Same next todo v last t
same_then next todo more last v u t p q w xs = (λ d. (q w xs).0 ((p w xs).0 d), λ d. (p w xs).1 ((q w xs).1 d))

pub same_went : (next : Option Letter) (todo more last : List Symbol) (v u t : State) → Same next todo v more u → Went next more u last t → Went next todo v last t
same_went None todo more last v u t p q = λ w. (λ d. (q w).0 ((p w []).0 d), λ d. (p w []).1 ((q w).1 d))
same_went (Some x) todo more last v u t p q = λ w xs. (λ d. (q w xs).0 ((p w xs).0 d), λ d. (p w xs).1 ((q w xs).1 d))

pub same_refuses : (next : Option Letter) (todo more : List Symbol) (v u : State) → Same next todo v more u → Refuses next more u → Refuses next todo v
same_refuses next todo more v u p q w xs d = q w xs ((p w xs).0 d)

pub make_same : (next : Option Letter) (a : Action) (todo : List Symbol) (v : State) → Same next (Make a ∷ todo) v todo (after_make a v)
make_same next a todo v w xs = (λ d. inv_make a todo v w (input next xs) d, λ d. make a d)

pub begin_same : (next : Option Letter) (todo : List Symbol) (v : State) → Same next (Begin ∷ todo) v todo (after_begin v)
begin_same next todo v w xs = (λ d. inv_begin todo v w (input next xs) d, λ d. begin d)

pub end_same : (next : Option Letter) (todo : List Symbol) (v : State) → Same next (End ∷ todo) v todo (after_end v)
end_same next todo v w xs = (λ d. inv_end todo v w (input next xs) d, λ d. end d)

pub part_same : (next : Option Letter) (p : Nonterminal) (r todo : List Symbol) (v : State) → Tame p todo → chosen (rules p) next ≡ Some r → Same next (Part p ∷ todo) v (r ++ todo) v
part_same next p r todo v t e w xs = (
  λ d.
      let i = inv_part p todo v w (input next xs) d in
      let same : i.0 ≡ r = some_eq i.0 r (sym (sure p i.0 todo v w next xs t i.1 i.2) ∙ e) in
      subst (λ r. Derives (r ++ todo) v (input next xs) w) same i.2,
  λ d. by_rule p r (chosen_in (rules p) next r e) d,
)

pub part_refuses : (next : Option Letter) (p : Nonterminal) (todo : List Symbol) (v : State) → Tame p todo → chosen (rules p) next ≡ None → Refuses next (Part p ∷ todo) v
part_refuses next p todo v t e w xs d =
    let i = inv_part p todo v w (input next xs) d in
    let no : None ≡ Some i.0 = sym e ∙ sure p i.0 todo v w next xs t i.1 i.2 in
    cc

pub read_went : (s : Symbol) (x : Letter) (todo : List Symbol) (v : State) → is_terminal s ≡ true → fits s x ≡ true → over s v ≡ false → Went (Some x) (s ∷ todo) v todo (after_letter s x v)
read_went s x todo v t f o w xs = (λ d. (inv_read s todo v w x xs t d).2, λ d. read s x f (inr o) d)

pub misfit_refuses : (s : Symbol) (x : Letter) (todo : List Symbol) (v : State) → is_terminal s ≡ true → fits s x ≡ false → Refuses (Some x) (s ∷ todo) v
misfit_refuses s x todo v t f w xs d = let g = (inv_read s todo v w x xs t d).0 in cc

not_over : (x : Letter) (s : Symbol) (v : State) → x.free ≡ false → over s v ≡ true → (x.free ≡ true) ⊎ (over s v ≡ false) → ⊥
not_over x s v f o (inl e) = cc
not_over x s v f o (inr e) = cc

pub over_refuses : (s : Symbol) (x : Letter) (todo : List Symbol) (v : State) → is_terminal s ≡ true → x.free ≡ false → over s v ≡ true → Refuses (Some x) (s ∷ todo) v
over_refuses s x todo v t f o w xs d = not_over x s v f o (inv_read s todo v w x xs t d).1

pub end_refuses : (s : Symbol) (todo : List Symbol) (v : State) → is_terminal s ≡ true → Refuses None (s ∷ todo) v
end_refuses s todo v t w xs d = inv_none s todo v w t d

pub done_went : (v : State) → Went None [] v [] v
done_went v w = (λ d. (inv_done v w [] d).1, λ e. subst (λ w. Derives [] v [] w) (sym e) done)

pub done_refuses : (x : Letter) (v : State) → Refuses (Some x) [] v
done_refuses x v w xs d = let e : x ∷ xs ≡ [] = (inv_done v w (x ∷ xs) d).0 in cc

-- the steps that are left

weight_join : (r todo : List Symbol) → weight (r ++ todo) ≡ weight r + weight todo
weight_join [] todo = omega arith
weight_join (Part p ∷ r) todo = omega (arith, weight_join r todo)
weight_join (Fixed l ∷ r) todo = omega (arith, weight_join r todo)
weight_join (Name ∷ r) todo = omega (arith, weight_join r todo)
weight_join (Param ∷ r) todo = omega (arith, weight_join r todo)
weight_join (Bound ∷ r) todo = omega (arith, weight_join r todo)
weight_join (Number ∷ r) todo = omega (arith, weight_join r todo)
weight_join (Text ∷ r) todo = omega (arith, weight_join r todo)
weight_join (Make a ∷ r) todo = omega (arith, weight_join r todo)
weight_join (Begin ∷ r) todo = omega (arith, weight_join r todo)
weight_join (End ∷ r) todo = omega (arith, weight_join r todo)

abbrev pub LightOr : Nonterminal → List Symbol → Type 0
LightOr p r = (is_led r ≡ true) ⊎ (weight r < cost p)

light_by : (b c : Bool) (p : Nonterminal) (r : List Symbol) → is_led r ≡ b → nat_lt (weight r) (cost p) ≡ c → (b || c) ≡ true → LightOr p r
light_by true c p r e f h = inl e
light_by false c p r e f h = inr (ltb-true (weight r) (cost p) (f ∙ h))

effort_led : (r todo : List Symbol) → is_led r ≡ true → effort (r ++ todo) ≡ 0
effort_led [] todo h = absurd (cc)
effort_led (s ∷ r) todo h = ap (λ b. if b then 0 else suc (weight (s ∷ (r ++ todo)))) h

effort_most : (todo : List Symbol) → effort todo ≤ suc (weight todo)
effort_most [] = omega arith
effort_most (Part p ∷ todo) = omega arith
effort_most (Make a ∷ todo) = omega arith
effort_most (Begin ∷ todo) = omega arith
effort_most (End ∷ todo) = omega arith
effort_most (s ∷ todo) = omega arith

less_by : (p : Nonterminal) (r todo : List Symbol) → LightOr p r → effort (r ++ todo) < effort (Part p ∷ todo)
less_by p r todo (inl h) = omega (arith, effort_led r todo h)
less_by p r todo (inr h) = omega (arith, effort_most (r ++ todo), weight_join r todo, h)

-- the chosen rule leaves fewer steps
pub part_less : (p : Nonterminal) (r todo : List Symbol) (next : Option Letter) → chosen (rules p) next ≡ Some r → effort (r ++ todo) < effort (Part p ∷ todo)
part_less p r todo next e = less_by p r todo (light_by (is_led r) (nat_lt (weight r) (cost p)) p r refl refl (every_one (is_light p) (rules p) r (rules_light p) (chosen_in (rules p) next r e)))

pub pop_less : (s : Symbol) (todo : List Symbol) → (effort (s ∷ todo) ≡ suc (1 + weight todo)) → effort todo < effort (s ∷ todo)
pop_less s todo h = omega (arith, effort_most todo, h)
