-- A rule is chosen by its first symbol.
use Rattle.std.proofs.Common.{◌≡◌, List, [], ◌∷◌, Option, Some, None, refl}
use Rattle.fn_grammar.specs.declared.symbol.Symbol.{Symbol}
use Rattle.fn_grammar.specs.declared.symbol.Symbol.TheVariants.{Fixed, Name, Param, Bound, Number, Text, Part, Make, Begin, End}
use Rattle.fn_grammar.specs.Letters.{Letter}
use Rattle.fn_grammar.specs.Steps.{starts}

-- its first symbol decides whether a rule may be taken
pub starts_lead : (s : Symbol) (r : List Symbol) (next : Option Letter) → starts (s ∷ r) next ≡ starts (s ∷ []) next
starts_lead (Fixed l) r None = refl
starts_lead (Fixed l) r (Some x) = refl
starts_lead Name r None = refl
starts_lead Name r (Some x) = refl
starts_lead Param r None = refl
starts_lead Param r (Some x) = refl
starts_lead Bound r None = refl
starts_lead Bound r (Some x) = refl
starts_lead Number r None = refl
starts_lead Number r (Some x) = refl
starts_lead Text r None = refl
starts_lead Text r (Some x) = refl
starts_lead (Part p) r next = refl
starts_lead (Make a) r next = refl
starts_lead Begin r next = refl
starts_lead End r next = refl
