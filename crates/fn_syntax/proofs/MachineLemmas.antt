-- The steps of the parser, as the code takes them.
use Rattle.std.proofs.Common.{◌≡◌, ◌<◌, List, [], ◌∷◌, ◌++◌, Option, Some, None, Result, Ok, Err, Bool, true, false, refl, sym, ◌∙◌, subst}
use Rattle.std.specs.Prelude.{not, IfOk, is_none, is_some}
use Rattle.r3_value.specs.declared.fault.Memory.{Memory}
use Rattle.fn_grammar.specs.declared.symbol.Action.{Action}
use Rattle.fn_grammar.specs.declared.symbol.Part.{Part as Nonterminal}
use Rattle.fn_grammar.specs.declared.symbol.Symbol.{Symbol}
use Rattle.fn_grammar.specs.declared.symbol.Symbol.TheVariants.{Part, Make, Begin, End}
use Rattle.fn_syntax.specs.declared.parser.Parser.{Parser}
use Rattle.fn_grammar.specs.Letters.{Letter, fits}
use Rattle.fn_grammar.specs.Grammar.{rules}
use Rattle.fn_grammar.specs.Derivation.{State, over, after_letter, after_make, after_begin, after_end}
use Rattle.fn_grammar.specs.Steps.{chosen, AllTame, Went, Refuses, Same, is_terminal, effort}
use Rattle.fn_grammar.specs.declared.letter.Letter.{Letter as Written}
use Rattle.fn_grammar.specs.Written.{seen, seen_as}
use Rattle.fn_syntax.specs.Machine.{state_of, IsSpread, IsTaken, Takes}
use Rattle.fn_syntax.proofs.DerivationLemmas.{tamed, chosen_in}
use Rattle.fn_syntax.proofs.StepLemmas.{same_went, same_refuses, make_same, begin_same, end_same, part_same, part_refuses, read_went, misfit_refuses, over_refuses, done_went, done_refuses, part_less, pop_less}

pub take_goes : (s : Symbol) (x : Letter) (todo : List Symbol) (v : State) (new : Parser) → is_terminal s ≡ true → fits s x ≡ true → over s v ≡ false → AllTame todo → new.todo ≡ todo → state_of new ≡ after_letter s x v → IsTaken (Some x) (s ∷ todo) v new
take_goes s x todo v new t f o a e g = record {
  went = subst (λ more. Went (Some x) (s ∷ todo) v more (state_of new)) (sym e) (subst (λ u. Went (Some x) (s ∷ todo) v todo u) (sym g) (read_went s x todo v t f o));
  tame = subst AllTame (sym e) a;
}

spread_by : (next : Option Letter) (s : Symbol) (todo more : List Symbol) (v u : State) (new : Parser) → Same next (s ∷ todo) v more u → AllTame more → effort more < effort (s ∷ todo) → new.todo ≡ more → state_of new ≡ u → IsSpread next (s ∷ todo) v new
spread_by next s todo more v u new same a less e g = record {
  same = subst (λ more. Same next (s ∷ todo) v more (state_of new)) (sym e) (subst (λ u. Same next (s ∷ todo) v more u) (sym g) same);
  tame = subst AllTame (sym e) a;
  less = subst (λ more. effort more < effort (s ∷ todo)) (sym e) less;
}

pub part_spreads : (next : Option Letter) (s : Symbol) (p : Nonterminal) (r todo : List Symbol) (v : State) (new : Parser) → s ≡ Part p → AllTame (s ∷ todo) → chosen (rules p) next ≡ Some r → new.todo ≡ r ++ todo → state_of new ≡ v → IsSpread next (s ∷ todo) v new
part_spreads next s p r todo v new is a c e g =
    let tame : AllTame (Part p ∷ todo) = subst (λ s. AllTame (s ∷ todo)) is a in
    subst (λ s. IsSpread next (s ∷ todo) v new) (sym is) (spread_by next (Part p) todo (r ++ todo) v v new (part_same next p r todo v tame.0 c) (tamed p r todo (chosen_in (rules p) next r c) tame.0 tame.1) (part_less p r todo next c) e g)

pub part_stops : (next : Option Letter) (s : Symbol) (p : Nonterminal) (todo : List Symbol) (v : State) → s ≡ Part p → AllTame (s ∷ todo) → chosen (rules p) next ≡ None → Refuses next (s ∷ todo) v
part_stops next s p todo v is a c =
    let tame : AllTame (Part p ∷ todo) = subst (λ s. AllTame (s ∷ todo)) is a in
    subst (λ s. Refuses next (s ∷ todo) v) (sym is) (part_refuses next p todo v tame.0 c)

pub make_spreads : (next : Option Letter) (s : Symbol) (a : Action) (todo : List Symbol) (v : State) (new : Parser) → s ≡ Make a → AllTame (s ∷ todo) → new.todo ≡ todo → state_of new ≡ after_make a v → IsSpread next (s ∷ todo) v new
make_spreads next s a todo v new is t e g = subst (λ s. IsSpread next (s ∷ todo) v new) (sym is) (spread_by next (Make a) todo todo v (after_make a v) new (make_same next a todo v) (subst (λ s. AllTame (s ∷ todo)) is t) (pop_less (Make a) todo refl) e g)

pub begin_spreads : (next : Option Letter) (s : Symbol) (todo : List Symbol) (v : State) (new : Parser) → s ≡ Begin → AllTame (s ∷ todo) → new.todo ≡ todo → state_of new ≡ after_begin v → IsSpread next (s ∷ todo) v new
begin_spreads next s todo v new is t e g = subst (λ s. IsSpread next (s ∷ todo) v new) (sym is) (spread_by next Begin todo todo v (after_begin v) new (begin_same next todo v) (subst (λ s. AllTame (s ∷ todo)) is t) (pop_less Begin todo refl) e g)

pub end_spreads : (next : Option Letter) (s : Symbol) (todo : List Symbol) (v : State) (new : Parser) → s ≡ End → AllTame (s ∷ todo) → new.todo ≡ todo → state_of new ≡ after_end v → IsSpread next (s ∷ todo) v new
end_spreads next s todo v new is t e g = subst (λ s. IsSpread next (s ∷ todo) v new) (sym is) (spread_by next End todo todo v (after_end v) new (end_same next todo v) (subst (λ s. AllTame (s ∷ todo)) is t) (pop_less End todo refl) e g)

pub takes_after : (b : Bool) (next : Option Letter) (todo more : List Symbol) (v u : State) (new : Parser) → Same next todo v more u → Takes b next more u new → Takes b next todo v new
takes_after true next todo more v u new s t = record { went = same_went next todo more new.todo v u (state_of new) s t.went; tame = t.tame }
takes_after false next todo more v u new s t = same_refuses next todo more v u s t

pub takes_result : (result : Result Bool Memory) (next : Option Letter) (todo more : List Symbol) (v u : State) (new : Parser) → Same next todo v more u → IfOk result (λ b. Takes b next more u new) → IfOk result (λ b. Takes b next todo v new)
takes_result (Ok b) next todo more v u new s t = takes_after b next todo more v u new s t
takes_result (Err e) next todo more v u new s t = tt

pub done_takes : (next : Option Letter) (v : State) (new : Parser) → new.todo ≡ [] → state_of new ≡ v → Takes (is_none next) next [] v new
done_takes None v new e g = record {
  went = subst (λ more. Went None [] v more (state_of new)) (sym e) (subst (λ u. Went None [] v [] u) (sym g) (done_went v));
  tame = subst AllTame (sym e) tt;
}
done_takes (Some x) v new e g = done_refuses x v

-- the same, of letters as the code holds them

pub misfit_takes : (next : Option Written) (l : Written) (s : Symbol) (todo : List Symbol) (v : State) → next ≡ Some l → is_terminal s ≡ true → fits s (seen_as l) ≡ false → Refuses (seen next) (s ∷ todo) v
misfit_takes next l s todo v is t f = subst (λ n. Refuses (seen n) (s ∷ todo) v) (sym is) (misfit_refuses s (seen_as l) todo v t f)

pub over_takes : (next : Option Written) (l : Written) (s : Symbol) (todo : List Symbol) (v : State) → next ≡ Some l → is_terminal s ≡ true → over s v ≡ true → Refuses (seen next) (s ∷ todo) v
over_takes next l s todo v is t o = subst (λ n. Refuses (seen n) (s ∷ todo) v) (sym is) (over_refuses s (seen_as l) todo v t refl o)

pub goes_takes : (next : Option Written) (l : Written) (s : Symbol) (todo : List Symbol) (v : State) (new : Parser) → next ≡ Some l → is_terminal s ≡ true → fits s (seen_as l) ≡ true → over s v ≡ false → AllTame todo → new.todo ≡ todo → state_of new ≡ after_letter s (seen_as l) v → IsTaken (seen next) (s ∷ todo) v new
goes_takes next l s todo v new is t f o a e g = subst (λ n. IsTaken (seen n) (s ∷ todo) v new) (sym is) (take_goes s (seen_as l) todo v new t f o a e g)

is_none_seen : (next : Option Written) → is_none next ≡ is_none (seen next)
is_none_seen None = refl
is_none_seen (Some l) = refl

none_by : (next : Option Written) (b : Bool) → is_some next ≡ not b → b ≡ is_none next
none_by None true e = refl
none_by None false e = absurd (cc)
none_by (Some l) true e = absurd (cc)
none_by (Some l) false e = refl

pub step_done : (next : Option Written) (b : Bool) (todo more : List Symbol) (v u : State) (new : Parser) → is_some next ≡ not b → Same (seen next) todo v more u → more ≡ [] → new.todo ≡ [] → state_of new ≡ u → Takes b (seen next) todo v new
step_done next b todo more v u new e s m n g =
    subst (λ b. Takes b (seen next) todo v new) (sym (none_by next b e ∙ is_none_seen next)) (takes_after (is_none (seen next)) (seen next) todo [] v u new (subst (λ more. Same (seen next) todo v more u) m s) (done_takes (seen next) u new n g))

pub step_take : (result : Result Bool Memory) (next : Option Letter) (todo more : List Symbol) (s : Symbol) (rest : List Symbol) (v u : State) (new : Parser) → more ≡ s ∷ rest → Same next todo v more u → IfOk result (λ b. Takes b next (s ∷ rest) u new) → IfOk result (λ b. Takes b next todo v new)
step_take result next todo more s rest v u new e same t = takes_result result next todo (s ∷ rest) v u new (subst (λ more. Same next todo v more u) e same) t

pub takes_true : (b : Bool) (next : Option Letter) (todo : List Symbol) (v : State) (new : Parser) → b ≡ true → Takes b next todo v new → IsTaken next todo v new
takes_true true next todo v new e t = t
takes_true false next todo v new e t = absurd (cc)

pub takes_false : (b : Bool) (next : Option Letter) (todo : List Symbol) (v : State) (new : Parser) → b ≡ false → Takes b next todo v new → Refuses next todo v
takes_false true next todo v new e t = absurd (cc)
takes_false false next todo v new e t = t
