-- Texts that are refused.
use Rattle.std.proofs.Common.{◌≡◌, ℕ, List, Option, Some, None, sym, ◌∙◌, subst}
use Rattle.std.specs.Prelude.{Result, Err, ◌↔◌}
use Rattle.fn_lex.specs.declared.span.Token.{Token}
use Rattle.fn_lex.specs.Lexed.{Lexed}
use Rattle.fn_tree.specs.declared.program.Item.{Item}
use Rattle.fn_tree.specs.declared.program.Program.{Program}
use Rattle.fn_grammar.specs.Letters.{letters}
use Rattle.fn_grammar.specs.Derivation.{IsProgram}
use Rattle.fn_grammar.specs.Place.{IsPlace}
use Rattle.fn_tree.specs.Soundness.{IsSound}
use Rattle.fn_check.specs.declared.fault.CheckKind.{CheckKind}
use Rattle.fn_check.specs.FirstFault.{first_fault}
use Rattle.r3_model.specs.Language.{Text}
use Rattle.r3_top.specs.declared.functions.FunctionsFault.{FunctionsFault}
use Rattle.r3_top.specs.declared.functions.FunctionsFault.TheVariants as faults
use Rattle.r3_top.specs.declared.functions.NoFunctions.{NoFunctions}
use Rattle.r3_top.specs.declared.functions.NoFunctions.TheVariants as misses
use Rattle.r3_top.specs.Functions.{IsText, IsAccepted, IsRefused, IsNoProgram}

refused_as : (a b : FunctionsFault) → ◌≡◌ {A = Result Program NoFunctions} (Err (misses.Refused a)) (Err (misses.Refused b)) → a ≡ b
refused_as a b is = cc

pub no_program : (text : Text) (tokens given : List Token) (at : ℕ) (fault : FunctionsFault) → given ≡ tokens → Lexed 0 text tokens None → IsPlace text given at
    → ((items : List Item) → IsProgram (letters text given) items → ⊥)
    → ◌≡◌ {A = Result Program NoFunctions} (Err (misses.Refused (faults.Syntax at))) (Err (misses.Refused fault)) → IsRefused text fault
no_program text tokens given at fault same lexed place none is =
    let there : IsNoProgram text at = record {
      tokens = tokens;
      lexed = lexed;
      place = subst (λ (ts : List Token). IsPlace text ts at) same place;
      none = subst (λ (ts : List Token). (items : List Item) → IsProgram (letters text ts) items → ⊥) same none;
    } in
    subst (λ (f : FunctionsFault). IsRefused text f) (refused_as (faults.Syntax at) fault is) there

-- ---- a text is read in one way

abbrev pub OneReading : Type 0
OneReading = (text : Text) (ts us : List Token) (bad worse : Option ℕ) → Lexed 0 text ts bad → Lexed 0 text us worse → (ts ≡ us) × (bad ≡ worse)

none-some : (at : ℕ) → ◌≡◌ {A = Option ℕ} None (Some at) → ⊥
none-some at is = cc

-- tokens that are followed by a bad place are no program
pub no-lexed : OneReading → (text : Text) (at : ℕ) → (ts : List Token) × Lexed 0 text ts (Some at) → (items : List Item) → IsText text items → ⊥
no-lexed one text at bad items is = none-some at ((one text is.tokens bad.0 None (Some at) is.lexed bad.1).1)

pub no-parsed : OneReading → (text : Text) (tokens given : List Token) → given ≡ tokens → Lexed 0 text tokens None
    → ((items : List Item) → IsProgram (letters text given) items → ⊥) → (items : List Item) → IsText text items → ⊥
no-parsed one text tokens given same lexed none items is =
    let there : is.tokens ≡ given = (one text is.tokens tokens None None is.lexed lexed).0 ∙ sym same in
    none items (subst (λ (ts : List Token). IsProgram (letters text ts) items) there is.program)

pub one-program : OneReading → (text : Text) (tokens given : List Token) (program : List Item) → given ≡ tokens → Lexed 0 text tokens None
    → ((items : List Item) → IsProgram (letters text given) items → items ≡ program) → (items : List Item) → IsText text items → items ≡ program
one-program one text tokens given program same lexed only items is =
    let there : is.tokens ≡ given = (one text is.tokens tokens None None is.lexed lexed).0 ∙ sym same in
    only items (subst (λ (ts : List Token). IsProgram (letters text ts) items) there is.program)

-- ---- a text is taken or refused

none-fault : (item : ℕ) (kind : CheckKind) → ◌≡◌ {A = Option (ℕ × CheckKind)} None (Some (item, kind)) → ⊥
none-fault item what is = cc

pub not-refused : OneReading → (text : Text) (program : List Item) → IsText text program → ((items : List Item) → IsText text items → items ≡ program)
    → first_fault program ≡ None → (fault : FunctionsFault) → IsRefused text fault → ⊥
not-refused one text program is only sound (faults.Lex at) r = none-some at ((one text is.tokens r.tokens None (Some at) is.lexed r.lexed).1)
not-refused one text program is only sound (faults.Syntax at) r =
    let there : is.tokens ≡ r.tokens = (one text is.tokens r.tokens None None is.lexed r.lexed).0 in
    r.none program (subst (λ (ts : List Token). IsProgram (letters text ts) program) there is.program)
not-refused one text program is only sound (faults.Check item kind) r =
    let fault : first_fault program ≡ Some (item, kind) = subst (λ (is : List Item). first_fault is ≡ Some (item, kind)) (only r.items r.is) r.fault in
    none-fault item kind (sym sound ∙ fault)

pub not-accepted : (text : Text) (program : List Item) (item : ℕ) (kind : CheckKind) → ((items : List Item) → IsText text items → items ≡ program)
    → (first_fault program ≡ None) ↔ IsSound program → first_fault program ≡ Some (item, kind) → (items : List Item) → IsAccepted text items → ⊥
not-accepted text program item kind only sound fault items is =
    let here : IsSound program = subst IsSound (only items is.is) is.sound in
    none-fault item kind (sym (sound.1 here) ∙ fault)

-- the same of a call that hands it on
pub miss-of : {A B : Type 0} (miss : NoFunctions) (fault : FunctionsFault) → ◌≡◌ {A = Result A NoFunctions} (Err miss) (Err (misses.Refused fault))
    → ◌≡◌ {A = Result B NoFunctions} (Err miss) (Err (misses.Refused fault))
miss-of miss fault is = cc
