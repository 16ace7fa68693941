-- What clap makes of at most three words, and of more, where none of them looks like an option.
use Rattle.std.proofs.Common.{◌≡◌, ℕ, true, false, Bool, List, [], ◌∷◌, Option, None, refl, ap, ap₂, ◌∙◌, codes, sym, subst, inl, inr}
use Rattle.std.specs.Prelude.{◌==◌, not, is_some}
use Rattle.std.specs.List.{list_all}
use Rattle.clap.specs.Words.{App, Kinds, HasKind, IsAmong, Rule, Row, Shape, HasMatchesOf, fault_of, matches_of, first_of, first_value, found_of, kind_of, rows_of, is_simple, is_simple_and_free, built}
use Rattle.clap.specs.Faults.{walk_fault, turn_fault, step_fault, settle_fault, defaults_fault, check_fault, entered_fault}
use Rattle.clap.specs.Kinds.{or_else}
use Rattle.clap.specs.Simple.{entered}
use Rattle.clap.specs.Walk.{Held, Walk, walked, walk, walk_from, word_met, to_positional, after_step, arg_by_index, nothing_held, idle, value, finished, settled}
use Rattle.clap.specs.declared.error.Error.{Error}
use Rattle.clap.specs.declared.error.kind.ErrorKind.{ErrorKind}
use Rattle.clap.specs.declared.error.kind.ErrorKind.TheVariants.{OutOfMemory, UnknownArgument}
use Rattle.clap.specs.declared.parser.matches.ArgMatches.{ArgMatches}
use Rattle.clap.proofs.OnLiterals.{clap_on_literals}
use Rattle.clap.proofs.WalkLemmas.{both, first_value-rows}
use Rattle.r3_words.specs.Numbers.{Text}
use Rattle.r3_words.specs.Forms.{Form, form_of, is_word}
use Rattle.r3_words.specs.Places.{three_places, placed}

is_plain : is_simple three_places ≡ true
unfolding clap_on_literals
is_plain = refl

is_free : is_simple_and_free three_places ≡ true
unfolding clap_on_literals
is_free = refl

abbrev shape : Shape
shape = (built three_places).top

abbrev rules : List Rule
rules = shape.rules

-- ---- one word

-- the walk between two words
abbrev at : Held → ℕ → Walk
at h p = record { held = h; waiting = idle; position = p; is_trailing = false; stopped = None }

-- the walk after the word went to a place
abbrev goes : Held → ℕ → Text → Walk
goes h p word = to_positional rules (arg_by_index rules p) word (at h p) h

off : (b : Bool) → not b ≡ true → b ≡ false
off true e = absurd (cc)
off false e = refl

plain_met : (c : List Rule) (h : Held) (p : ℕ) (word : Text) → is_word word ≡ true
    → word_met c [] false idle p word h ≡ (h, value)
plain_met c h p [] e = absurd (cc)
plain_met c h p (x ∷ xs) e = let f : (x == 45) ≡ false = off (x == 45) e in simp f

walked_plain : (h : Held) (p : ℕ) (word : Text) → is_word word ≡ true
    → walked rules [] (at h p) word ≡ goes h p word
unfolding walked
walked_plain h p word e = ap (λ m. after_step rules word (at h p) m.0 m.1) (plain_met rules h p word e)

turn_plain : (s : Shape) (h : Held) (p : ℕ) (word : Text) → is_word word ≡ true
    → turn_fault s [] (at h p) word ≡ step_fault s p h value
turn_plain s h p [] e = absurd (cc)
turn_plain s h p (x ∷ xs) e = let f : (x == 45) ≡ false = off (x == 45) e in simp f

-- the word has a place, and the walk goes on
fault_on : (h : Held) (p : ℕ) (word : Text) (rest : List Text) → is_word word ≡ true
    → step_fault shape p h value ≡ []
    → walk_fault shape [] (at h p) (word ∷ rest) ≡ walk_fault shape [] (goes h p word) rest
unfolding walk_fault
fault_on h p word rest e f =
    ap₂ or_else (turn_plain shape h p word e
    ∙ f) (ap (λ w. walk_fault shape [] w rest) (walked_plain h p word e))

-- the word has none
fault_at : (h : Held) (p : ℕ) (word : Text) (rest : List Text) (k : ErrorKind)
    → is_word word ≡ true → step_fault shape p h value ≡ k ∷ []
    → walk_fault shape [] (at h p) (word ∷ rest) ≡ k ∷ []
unfolding walk_fault
fault_at h p word rest k e f =
    ap (λ t. or_else t (walk_fault shape [] (walked rules [] (at h p) word) rest)) (turn_plain shape
    h p word e ∙ f)

-- ---- the words in turn

abbrev held_1 : Text → Held
held_1 a = (goes nothing_held 1 a).held

abbrev held_2 : Text → Text → Held
held_2 a b = (goes (held_1 a) 2 b).held

abbrev held_3 : Text → Text → Text → Held
held_3 a b c = (goes (held_2 a b) 3 c).held

abbrev walk_of : List Text → Walk
walk_of words = walk rules [] nothing_held words

walk_1 : (a : Text) → is_word a ≡ true → walk_of (a ∷ []) ≡ at (held_1 a) 2
walk_1 a p = walked_plain nothing_held 1 a p

walk_2 : (a b : Text) → is_word a ≡ true → is_word b ≡ true → walk_of (a ∷ b ∷ []) ≡ at (held_2 a b) 3
walk_2 a b p q = ap (λ w. walked rules [] w b) (walk_1 a p) ∙ walked_plain (held_1 a) 2 b q

walk_3 : (a b c : Text) → is_word a ≡ true → is_word b ≡ true → is_word c ≡ true
    → walk_of (a ∷ b ∷ c ∷ []) ≡ at (held_3 a b c) 4
walk_3 a b c p q r = ap (λ w. walked rules [] w c) (walk_2 a b p q) ∙ walked_plain (held_2 a b) 3 c r

abbrev faults_of : List Text → Kinds
faults_of words = walk_fault shape [] (walk_from nothing_held) words

fault_1 : (a : Text) → is_word a ≡ true → faults_of (a ∷ []) ≡ []
unfolding walk_fault
fault_1 a p = fault_on nothing_held 1 a [] p refl

fault_2 : (a b : Text) → is_word a ≡ true → is_word b ≡ true → faults_of (a ∷ b ∷ []) ≡ []
unfolding walk_fault
fault_2 a b p q = fault_on nothing_held 1 a (b ∷ []) p refl ∙ fault_on (held_1 a) 2 b [] q refl

fault_3 : (a b c : Text) → is_word a ≡ true → is_word b ≡ true → is_word c ≡ true
    → faults_of (a ∷ b ∷ c ∷ []) ≡ []
unfolding walk_fault
fault_3 a b c p q r = fault_on nothing_held 1 a (b ∷ c ∷ []) p refl
    ∙ (fault_on (held_1 a) 2 b (c ∷ []) q refl ∙ fault_on (held_2 a b) 3 c [] r refl)

fault_4 : (a b c d : Text) (rest : List Text) → is_word a ≡ true → is_word b ≡ true
    → is_word c ≡ true → is_word d ≡ true
    → faults_of (a ∷ b ∷ c ∷ d ∷ rest) ≡ UnknownArgument ∷ []
fault_4 a b c d rest p q r s = fault_on nothing_held 1 a (b ∷ c ∷ d ∷ rest) p refl
    ∙ (fault_on (held_1 a) 2 b (c ∷ d ∷ rest) q refl
    ∙ (fault_on (held_2 a b) 3 c (d ∷ rest) r refl
    ∙ fault_at (held_3 a b c) 4 d rest UnknownArgument s refl))

-- ---- the parse

-- the faults of a parse, by its walk and the walk's faults
abbrev faults_by : Walk → Kinds → Kinds
faults_by end walked = or_else walked (or_else (entered_fault (built three_places) end.stopped)
    (or_else (settle_fault rules shape.args_override_self end.held) (or_else (defaults_fault
    (settled rules end.held).rows rules)
    (check_fault shape (finished rules end.held) (is_some (entered (built three_places)
    end.stopped))))))

by_walk : (words : List Text) → fault_of three_places words ≡ faults_by (walk_of words) (faults_of
    words)
by_walk words = refl

passes_1 : (a : Text) → is_word a ≡ true → fault_of three_places (a ∷ []) ≡ []
unfolding clap_on_literals
passes_1 a p = by_walk (a ∷ []) ∙ ap₂ faults_by (walk_1 a p) (fault_1 a p)

passes_2 : (a b : Text) → is_word a ≡ true → is_word b ≡ true → fault_of three_places (a ∷ b ∷ []) ≡ []
unfolding clap_on_literals
passes_2 a b p q = by_walk (a ∷ b ∷ []) ∙ ap₂ faults_by (walk_2 a b p q) (fault_2 a b p q)

passes_3 : (a b c : Text) → is_word a ≡ true → is_word b ≡ true → is_word c ≡ true
    → fault_of three_places (a ∷ b ∷ c ∷ []) ≡ []
unfolding clap_on_literals
passes_3 a b c p q r = by_walk (a ∷ b ∷ c ∷ [])
    ∙ ap₂ faults_by (walk_3 a b c p q r) (fault_3 a b c p q r)

none_fails : fault_of three_places [] ≡ [] → ⊥
unfolding clap_on_literals
none_fails h = cc

four_fail : (a b c d : Text) (rest : List Text) → is_word a ≡ true → is_word b ≡ true
    → is_word c ≡ true → is_word d ≡ true
    → fault_of three_places (a ∷ b ∷ c ∷ d ∷ rest) ≡ [] → ⊥
four_fail a b c d rest p q r s h =
    let words : List Text = a ∷ b ∷ c ∷ d ∷ rest in
    let fails : fault_of three_places words ≡ UnknownArgument ∷ [] =
    by_walk words ∙ ap (faults_by (walk_of words)) (fault_4 a b c d rest p q r s) in
    let bad : UnknownArgument ∷ [] ≡ [] = sym fails ∙ h in cc

-- ---- what the matches ask for

abbrev placed_in : List Row → Option Form
placed_in rows = placed (first_of (codes "command") rows) (first_of (codes "first") rows) (first_of
    (codes "second") rows)

abbrev placed_after : Walk → Option Form
placed_after w = placed_in (finished rules w.held)

placed_words : (words : List Text) → list_all is_word words ≡ true → fault_of three_places words ≡ []
    → form_of words ≡ placed_in (matches_of three_places words)
placed_words [] p h = absurd (none_fails h)
placed_words (a ∷ []) p h = sym (ap placed_after (walk_1 a (both _ _ p).0))
placed_words (a ∷ b ∷ []) p h =
    let q = both (is_word a) _ p in
    sym (ap placed_after (walk_2 a b q.0 (both _ _ q.1).0))
placed_words (a ∷ b ∷ c ∷ []) p h =
    let q = both (is_word a) _ p in
    let r = both (is_word b) _ q.1 in
    sym (ap placed_after (walk_3 a b c q.0 r.0 (both _ _ r.1).0))
placed_words (a ∷ b ∷ c ∷ d ∷ rest) p h =
    let q = both (is_word a) _ p in
    let r = both (is_word b) _ q.1 in
    let s = both (is_word c) _ r.1 in
    absurd (four_fail a b c d rest q.0 r.0 s.0 (both _ _ s.1).0 h)

none_words : (words : List Text) (k : ErrorKind) → list_all is_word words ≡ true
    → IsAmong k (fault_of three_places words) → form_of words ≡ None
none_words [] k p h = refl
none_words (a ∷ []) k p h = absurd (subst (λ f. IsAmong k f) (passes_1 a (both _ _ p).0) h)
none_words (a ∷ b ∷ []) k p h =
    let q = both (is_word a) _ p in
    absurd (subst (λ f. IsAmong k f) (passes_2 a b q.0 (both _ _ q.1).0) h)
none_words (a ∷ b ∷ c ∷ []) k p h =
    let q = both (is_word a) _ p in
    let r = both (is_word b) _ q.1 in
    absurd (subst (λ f. IsAmong k f) (passes_3 a b c q.0 r.0 (both _ _ r.1).0) h)
none_words (a ∷ b ∷ c ∷ d ∷ rest) k p h = refl

same_places : (a b c x y z : Option Text) → a ≡ x → b ≡ y → c ≡ z → placed x y z ≡ placed a b c
same_places a b c x y z p q r = cc

-- a parse that passes has the words in their places
pub placed_by : (app : App) (words : List Text) (m : ArgMatches) → app ≡ three_places
    → list_all is_word words ≡ true → HasMatchesOf app words m
    → (is_simple_and_free app ≡ true → fault_of app words ≡ [])
    → form_of words ≡ placed (first_value (found_of m) (codes "command")) (first_value (found_of m)
    (codes "first")) (first_value (found_of m) (codes "second"))
placed_by app words m e p h f =
    let passes : fault_of three_places words ≡ [] = subst (λ (x : App). is_simple_and_free x ≡ true
    → fault_of x words ≡ []) e f is_free in
    let rows : rows_of (found_of m) ≡ matches_of three_places words = (subst (λ (x : App).
    HasMatchesOf x words m) e h is_plain).0 in
    placed_words words p passes ∙ (ap placed_in (sym rows) ∙ same_places _ _ _ _ _ _
    (first_value-rows (found_of m) (codes "command")) (first_value-rows (found_of m) (codes
    "first")) (first_value-rows (found_of m) (codes "second")))

-- one that fails, and not for want of memory, has words that are no form
pub none_by : (app : App) (words : List Text) (e : Error) → app ≡ three_places
    → list_all is_word words ≡ true
    → (is_simple_and_free app ≡ true → HasKind (fault_of app words) e) → (kind_of e ≡ OutOfMemory
    → ⊥) → form_of words ≡ None
none_by app words e same p kinds other =
    let kind : HasKind (fault_of three_places words) e =
    subst (λ (x : App). is_simple_and_free x ≡ true
    → HasKind (fault_of x words) e) same kinds is_free in
    elim kind [
      | inl memory ↦ absurd (other memory)
      | inr k ↦ none_words words (kind_of e) p k
    ]
