-- A body of a sound program is never stuck.
use Rattle.std.proofs.Common.{◌≡◌, subst, ℕ, zero, suc, Bool, true, false, not, List, [], ◌∷◌, ◌++◌, Option, Some, None, ap, sym, ◌∙◌, refl, length, append-nil, take}
use Rattle.std.specs.Prelude.{map, if◌then◌else◌, ◌&&◌, ◌||◌}
use Rattle.std.specs.Str.{bytes_eq}
use Rattle.std.proofs.lemmas.List.{length-map, append_assoc, map-append, take-map}
use Rattle.std.proofs.Math.Seq.{take-append_seam}
use Rattle.r3_value.specs.declared.value.Val.{Val}
use Rattle.r3_value.specs.declared.value.Val.TheVariants.{Text}
use Rattle.r3_value.specs.declared.value.Outcome.{Outcome}
use Rattle.r3_value.specs.declared.value.Outcome.TheVariants.{Value, Failure}
use Rattle.fn_tree.specs.Expression.{Binding}
use Rattle.fn_tree.specs.declared.expr.Expr.{Expr}
use Rattle.fn_tree.specs.declared.stmt.Ask.{Ask}
use Rattle.fn_tree.specs.declared.stmt.Ask.TheVariants as ask
use Rattle.fn_tree.specs.declared.stmt.Rhs.{Rhs}
use Rattle.fn_tree.specs.declared.stmt.Rhs.TheVariants as rhs
use Rattle.fn_tree.specs.declared.stmt.Stmt.{Stmt, roll-Stmt}
use Rattle.fn_tree.specs.declared.stmt.Stmt.TheOpen.{Stmt-F}
use Rattle.fn_tree.specs.declared.stmt.Stmt.TheFolds.{map-Stmt, fold-roll-Stmt}
use Rattle.fn_tree.specs.declared.program.Item.{Item}
use Rattle.fn_tree.specs.Values.{bool_of, text_of, items_of}
use Rattle.fn_tree.specs.Sequences.{list_or_size}
use Rattle.fn_tree.specs.Expression.{End, Gives, Fails, Stuck as NoEnd, Calls, evaluated, values_onto}
use Rattle.fn_tree.specs.Statement.{At, Ends, Goes, Returns, Failed, Asks, Stuck, Effects, Act, and_then, is_bound, assigned, bind, is_caught, ended, taken, text_or_type, bool_or_type, list_or_type, one_unit_less, with_unit, closed, in_order, block, block_with, chosen, turns, for_each, caught, value, condition, list_value, text_value, arguments, asked, given, statement, acted, body_of}
use Rattle.fn_tree.specs.Soundness.{Scope, Body, Binds, contains, any, is_table, called, spawned, each_is, is_some, is_txn, is_flow, expr_is_sound, same_if, after, all_in_order, block_is_sound, block_with as block_sound_with, exprs_are_sound, ask_is_sound, rhs_is_sound, statement_binds, binds, body_is_sound}
use Rattle.fn_meaning.proofs.StatementLemmas.{Shown, by_levels, acted_roll}
use Rattle.fn_meaning.proofs.SoundExpression.{and_first, and_second, NotStuck, names, CallsFit, expression_runs, arguments_run}

-- how a part leads on: where it goes on, and where it fails; it isn't stuck, whatever is answered
abbrev pub Leads : {Q W A : Type 0} → (List Binding → Type 0) → (List Binding → Type 0) → Ends Q W A → Type 0
Leads good bad (Goes a at) = good at.env
Leads good bad (Returns v at) = Unit {0}
Leads good bad (Failed word at) = bad at.env
Leads good bad (Asks q at next) = (o : Outcome) → Leads good bad (next o)
Leads good bad Stuck = ⊥

leads_on : {Q W A B : Type 0} (good bad better worse : List Binding → Type 0) (d : Ends Q W A) (go : A → At W → Ends Q W B) → Leads good bad d → ((a : A) (at : At W) → good at.env → Leads better worse (go a at)) → ((env : List Binding) → bad env → worse env) → Leads better worse (and_then d go)
leads_on good bad better worse (Goes a at) go h f g = f a at h
leads_on good bad better worse (Returns v at) go h f g = tt
leads_on good bad better worse (Failed word at) go h f g = g at.env h
leads_on good bad better worse (Asks q at next) go h f g = λ o. leads_on good bad better worse (next o) go (h o) f g
leads_on good bad better worse Stuck go h f g = absurd h

weaker : {Q W A : Type 0} (good bad better worse : List Binding → Type 0) (d : Ends Q W A) → Leads good bad d → ((env : List Binding) → good env → better env) → ((env : List Binding) → bad env → worse env) → Leads better worse d
weaker good bad better worse (Goes a at) h f g = f at.env h
weaker good bad better worse (Returns v at) h f g = tt
weaker good bad better worse (Failed word at) h f g = g at.env h
weaker good bad better worse (Asks q at next) h f g = λ o. weaker good bad better worse (next o) (h o) f g
weaker good bad better worse Stuck h f g = absurd h

-- the bindings are those of the scope, in its order
abbrev pub Has : Scope → List Binding → Type 0
Has scope env = names env ≡ scope

-- the bindings are those of the scope and maybe more
abbrev pub Starts : Scope → List Binding → Type 0
Starts scope env = (more : Scope) × (names env ≡ scope ++ more)

starts : (scope : Scope) (env : List Binding) → Has scope env → Starts scope env
starts scope env h = ([], h ∙ sym (append-nil scope))

starts_on : (scope : Scope) (more : Scope) (env : List Binding) → Starts (scope ++ more) env → Starts scope env
starts_on scope more env h = (more ++ h.0, h.1 ∙ append_assoc scope more h.0)

-- the names stay, however it ends
abbrev pub Keeps : {Q W A : Type 0} → Scope → Ends Q W A → Type 0
Keeps scope d = Leads (Has scope) (Has scope) d

keeps_on : {Q W A B : Type 0} (scope : Scope) (d : Ends Q W A) (go : A → At W → Ends Q W B) → Keeps scope d → ((a : A) (at : At W) → Has scope at.env → Keeps scope (go a at)) → Keeps scope (and_then d go)
keeps_on scope d go h f = leads_on (Has scope) (Has scope) (Has scope) (Has scope) d go h f (λ env e. e)

ended_keeps : (Q : Type 0) {W A : Type 0} (scope : Scope) (at : At W) (d : End A) → NotStuck d → Has scope at.env → Keeps {Q = Q} scope (ended at d)
ended_keeps Q scope at (Gives a units cost) h e = e
ended_keeps Q scope at (Fails word units cost) h e = e
ended_keeps Q scope at NoEnd h e = absurd h

pub taken_keeps : (Q : Type 0) {W : Type 0} (scope : Scope) (o : Outcome) (at : At W) → Has scope at.env → Keeps {Q = Q} scope (taken o at)
taken_keeps Q scope (Value v) at e = e
taken_keeps Q scope (Failure word) at e = e

text_keeps : (Q : Type 0) {W : Type 0} (scope : Scope) (o : Option (List ℕ)) (at : At W) → Has scope at.env → Keeps {Q = Q} scope (text_or_type o at)
text_keeps Q scope (Some t) at e = e
text_keeps Q scope None at e = e

bool_keeps : (Q : Type 0) {W : Type 0} (scope : Scope) (o : Option Bool) (at : At W) → Has scope at.env → Keeps {Q = Q} scope (bool_or_type o at)
bool_keeps Q scope (Some t) at e = e
bool_keeps Q scope None at e = e

list_keeps : (Q : Type 0) {W : Type 0} (scope : Scope) (o : Option (List Val)) (at : At W) → Has scope at.env → Keeps {Q = Q} scope (list_or_type o at)
list_keeps Q scope (Some t) at e = e
list_keeps Q scope None at e = e

-- the bindings past those of the scope are cut off
cut_has : (scope : Scope) (env : List Binding) (n : ℕ) → n ≡ length scope → Starts scope env → Has scope (take n env)
cut_has scope env n same h =
    sym (take-map (λ (b : Binding). b.0) n env) ∙ ap (take n) h.1 ∙ ap (λ m. take m (scope ++ h.0)) same ∙ take-append_seam scope h.0

length_has : (scope : Scope) (env : List Binding) → Has scope env → length env ≡ length scope
length_has scope env e = sym (length-map env (λ (b : Binding). b.0)) ∙ ap length e

new_parts : (b : Bool) (name : List ℕ) (scope : Scope) (f : Binds) → is_some (after (if b then None else Some (scope ++ name ∷ [])) f) ≡ true → is_some (f (scope ++ name ∷ [])) ≡ true
new_parts true name scope f e = absurd cc
new_parts false name scope f e = e

bound_has : (scope : Scope) (name : List ℕ) (v : Val) (env : List Binding) → Has scope env → Has (scope ++ name ∷ []) (env ++ (name, v) ∷ [])
bound_has scope name v env e = map-append (λ (b : Binding). b.0) env ((name, v) ∷ []) ∙ ap (λ xs. xs ++ name ∷ []) e

module _ {Q W : Type 0} where
  -- an act keeps the names of a scope
  abbrev pub ActKeeps : Scope → Act Q W → Type 0
  ActKeeps scope a = (at : At W) → Has scope at.env → Keeps scope (a at)

  less_keeps : (n : ℕ) (scope : Scope) (go : Act Q W) (at : At W) → ActKeeps scope go → Has scope at.env → Keeps scope (one_unit_less n at go)
  less_keeps zero scope go at h e = e
  less_keeps (suc n) scope go at h e = h (record at { units = n }) e

  unit_keeps : (scope : Scope) (go : Act Q W) → ActKeeps scope go → ActKeeps scope (with_unit go)
  unit_keeps scope go h at e = less_keeps at.units scope go at h e

  chosen_keeps : (b : Bool) (scope : Scope) (one two : Act Q W) → ActKeeps scope one → ActKeeps scope two → ActKeeps scope (chosen b one two)
  chosen_keeps true scope one two h g = h
  chosen_keeps false scope one two h g = g

  turns_keep : (n : ℕ) (scope : Scope) (test : At W → Ends Q W Bool) (body : Act Q W) → ((at : At W) → Has scope at.env → Keeps scope (test at)) → ActKeeps scope body → ActKeeps scope (turns n test body)
  turns_keep zero scope test body ht hb = λ at e. e
  turns_keep (suc n) scope test body ht hb = λ at e.
      keeps_on scope (test at) _ (ht at e) (λ b. chosen_keeps b scope _ (Goes tt) (unit_keeps scope _ (λ at e. keeps_on scope (body at) _ (hb at e) (λ u. turns_keep n scope test body ht hb))) (λ at e. e))

  each_keeps : (vs : List Val) (scope : Scope) (name : List ℕ) (body : List (Act Q W)) → ((v : Val) → ActKeeps scope (block_with name v body)) → ActKeeps scope (for_each vs name body)
  each_keeps [] scope name body h = λ at e. e
  each_keeps (v ∷ vs) scope name body h = λ at e. keeps_on scope (with_unit (block_with name v body) at) _ (unit_keeps scope (block_with name v body) (h v) at e) (λ u. each_keeps vs scope name body h)

  closed_keeps : (scope : Scope) (n : ℕ) (d : Ends Q W (Unit {0})) → n ≡ length scope → Leads (Starts scope) (Starts scope) d → Keeps scope (closed n d)
  closed_keeps scope n (Goes a at) same h = cut_has scope at.env n same h
  closed_keeps scope n (Returns v at) same h = tt
  closed_keeps scope n (Failed word at) same h = cut_has scope at.env n same h
  closed_keeps scope n (Asks q at next) same h = λ o. closed_keeps scope n (next o) same (h o)
  closed_keeps scope n Stuck same h = absurd h

  caught_if : (b : Bool) (scope : Scope) (d e : Ends Q W (Unit {0})) → Keeps scope d → Keeps scope e → Keeps scope (if b then d else e)
  caught_if true scope d e h g = h
  caught_if false scope d e h g = g

  caught_keeps : (scope : Scope) (name : List ℕ) (handler : List (Act Q W)) → ((v : Val) → ActKeeps scope (block_with name v handler)) → (d : Ends Q W (Unit {0})) → Keeps scope d → Keeps scope (caught name handler d)
  caught_keeps scope name handler h (Goes a at) e = e
  caught_keeps scope name handler h (Returns v at) e = tt
  caught_keeps scope name handler h (Failed word at) e = caught_if (is_caught word) scope _ _ (h (Text word) at e) e
  caught_keeps scope name handler h (Asks q at next) e = λ o. caught_keeps scope name handler h (next o) (e o)
  caught_keeps scope name handler h Stuck e = absurd e

  -- an act goes from one scope to another, and fails with the names of the first and maybe more
  abbrev pub Moves : Scope → Scope → Act Q W → Type 0
  Moves scope next a = (at : At W) → Has scope at.env → Leads (λ env. Has next env × Starts scope env) (Starts scope) (a at)

  -- several acts, as a scope goes through them
  abbrev pub AllMove : List (Act Q W) → List Binds → Type 0
  AllMove [] [] = Unit {0}
  AllMove (a ∷ as') (b ∷ bs) = ((scope next : Scope) → b scope ≡ Some next → Moves scope next a) × AllMove as' bs
  AllMove _ _ = ⊥

some_of : {A : Type 0} (o : Option A) → is_some o ≡ true → (a : A) × (o ≡ Some a)
some_of (Some a) e = (a, refl)
some_of None e = absurd cc

abbrev unwrapped : Scope → Option Scope → Scope
unwrapped d (Some s) = s
unwrapped d None = d

after_parts : (o : Option Scope) (f : Binds) (next : Scope) → after o f ≡ Some next → (mid : Scope) × (o ≡ Some mid) × (f mid ≡ Some next)
after_parts (Some s) f next e = (s, refl, e)
after_parts None f next e = absurd cc

module _ {Q W : Type 0} where
  order_moves : (body : List (Act Q W)) (bs : List Binds) → AllMove body bs → (scope next : Scope) → all_in_order bs scope ≡ Some next → Moves scope next (in_order body)
  order_moves [] [] h scope next e at has = (has ∙ ap (unwrapped scope) e, starts scope at.env has)
  order_moves (a ∷ as') (b ∷ bs) h scope next e at has =
      let parts = after_parts (b scope) (all_in_order bs) next e in
      let mid = parts.0 in
      leads_on (λ env. Has mid env × Starts scope env) (Starts scope) (λ env. Has next env × Starts scope env) (Starts scope) (a at) (λ u. in_order as')
      (h.0 scope mid parts.1 at has)
      (λ u at had.
      let grown : (env : List Binding) → Starts mid env → Starts scope env = λ env s. starts_on scope had.1.0 env (subst (λ m. Starts m env) (sym had.0 ∙ had.1.1) s) in
      weaker (λ env. Has next env × Starts mid env) (Starts mid) (λ env. Has next env × Starts scope env) (Starts scope) (in_order as' at) (order_moves as' bs h.1 mid next parts.2 at had.0)
      (λ env p. (p.0, grown env p.1)) grown)
      (λ env s. s)
  order_moves [] (b ∷ bs) h scope next e at has = absurd h
  order_moves (a ∷ as') [] h scope next e at has = absurd h

  block_keeps : (body : List (Act Q W)) (bs : List Binds) → AllMove body bs → (scope : Scope) → block_is_sound bs scope ≡ true → ActKeeps scope (block body)
  block_keeps body bs h scope e at has =
      let out = some_of (all_in_order bs scope) e in
      closed_keeps scope (length at.env) (in_order body at) (length_has scope at.env has)
      (weaker (λ env. Has out.0 env × Starts scope env) (Starts scope) (Starts scope) (Starts scope) (in_order body at) (order_moves body bs h scope out.0 out.1 at has) (λ env p. p.1) (λ env s. s))

  block_with_keeps : (body : List (Act Q W)) (bs : List Binds) → AllMove body bs → (scope : Scope) (name : List ℕ) (v : Val) → block_sound_with name bs scope ≡ true → ActKeeps scope (block_with name v body)
  block_with_keeps body bs h scope name v e at has =
      let out = some_of (all_in_order bs (scope ++ name ∷ [])) (new_parts (contains scope name) name scope (all_in_order bs) e) in
      closed_keeps scope (length at.env) (in_order body (bind name v at)) (length_has scope at.env has)
      (weaker (λ env. Has out.0 env × Starts (scope ++ name ∷ []) env) (Starts (scope ++ name ∷ [])) (Starts scope) (Starts scope) (in_order body (bind name v at))
      (order_moves body bs h (scope ++ name ∷ []) out.0 out.1 (bind name v at) (bound_has scope name v at.env has))
      (λ env p. starts_on scope (name ∷ []) env p.1) (λ env s. starts_on scope (name ∷ []) env s))

-- What bodies of a kind act on is never stuck, and leaves the bindings as they are.
pub record EffectsFit {Q W : Type 0} (items : List Item) (body : Body) (effects : Effects Q W) : Type 0 where
  pub get : is_txn body ≡ true → (table : List ℕ) (k : Val) (scope : Scope) (at : At W) → Has scope at.env → Keeps scope (effects.get table k at)
  pub scan : is_txn body ≡ true → (table : List ℕ) (lo hi : Val) (scope : Scope) (at : At W) → Has scope at.env → Keeps scope (effects.scan table lo hi at)
  pub put : is_txn body ≡ true → (table : List ℕ) (k v : Val) (scope : Scope) (at : At W) → Has scope at.env → Keeps scope (effects.put table k v at)
  pub delete : is_txn body ≡ true → (table : List ℕ) (k : Val) (scope : Scope) (at : At W) → Has scope at.env → Keeps scope (effects.delete table k at)
  pub call : is_flow body ≡ true → (name : List ℕ) (n : ℕ) → is_some (called items name n) ≡ true → (args : Val) (scope : Scope) (at : At W) → Has scope at.env → Keeps scope (effects.call name n args at)
  pub spawn : is_flow body ≡ true → (name : List ℕ) (n : ℕ) → is_some (spawned items name n) ≡ true → (args : Val) (scope : Scope) (at : At W) → Has scope at.env → Keeps scope (effects.spawn name n args at)
  pub await : is_flow body ≡ true → (id : List ℕ) (scope : Scope) (at : At W) → Has scope at.env → Keeps scope (effects.await id at)

kept : {Q W : Type 0} (c : Bool) (scope next : Scope) (a : Act Q W) → same_if c scope ≡ Some next → (c ≡ true → ActKeeps scope a) → Moves scope next a
kept true scope next a e h at has =
    weaker (Has scope) (Has scope) (λ env. Has next env × Starts scope env) (Starts scope) (a at) (h refl at has) (λ env p. (p ∙ ap (unwrapped scope) e, starts scope env p)) (λ env p. starts scope env p)
kept false scope next a e h at has = absurd cc

let_parts : (b c : Bool) (name : List ℕ) (scope next : Scope) → (if b then (if c then None else Some (scope ++ name ∷ [])) else None) ≡ Some next → (b ≡ true) × (scope ++ name ∷ [] ≡ next)
let_parts true false name scope next e = (refl, ap (unwrapped scope) e)
let_parts true true name scope next e = absurd cc
let_parts false c name scope next e = absurd cc

assigned_by : (b : Bool) (d : Binding) (name : List ℕ) (v : Val) (env : List Binding) → names (assigned env name v) ≡ names env → names (if b then d ∷ assigned env name v else (d.0, v) ∷ env) ≡ names (d ∷ env)
assigned_by true d name v env e = ap (λ xs. d.0 ∷ xs) e
assigned_by false d name v env e = refl

assigned_has : (env : List Binding) (name : List ℕ) (v : Val) → names (assigned env name v) ≡ names env
assigned_has [] name v = refl
assigned_has (b ∷ env) name v = assigned_by (is_bound env name || not (bytes_eq b.0 name)) b name v env (assigned_has env name v)

module _ {Q W : Type 0} (effects : Effects Q W) (calls : Calls) (items : List Item) (body : Body) (fit : EffectsFit items body effects) (calls_fit : CallsFit calls items) where
  -- a part that keeps the names of a scope in which it is sound
  value_keeps : (e : Expr) (scope : Scope) → expr_is_sound items e scope ≡ true → (at : At W) → Has scope at.env → Keeps scope (value effects calls e at)
  value_keeps e scope sound at has =
      ended_keeps Q scope at (evaluated calls e at.env at.units at.cost) (expression_runs calls items calls_fit e at.env (subst (λ s. expr_is_sound items e s ≡ true) (sym has) sound) at.units at.cost) has

  condition_keeps : (e : Expr) (scope : Scope) → expr_is_sound items e scope ≡ true → (at : At W) → Has scope at.env → Keeps scope (condition effects calls e at)
  condition_keeps e scope sound at has = keeps_on scope (value effects calls e at) _ (value_keeps e scope sound at has) (λ v at h. bool_keeps Q scope (bool_of v) at h)

  list_value_keeps : (e : Expr) (scope : Scope) → expr_is_sound items e scope ≡ true → (at : At W) → Has scope at.env → Keeps scope (list_value effects calls e at)
  list_value_keeps e scope sound at has = keeps_on scope (value effects calls e at) _ (value_keeps e scope sound at has) (λ v at h. list_keeps Q scope (items_of v) at h)

  text_value_keeps : (e : Expr) (scope : Scope) → expr_is_sound items e scope ≡ true → (at : At W) → Has scope at.env → Keeps scope (text_value effects calls e at)
  text_value_keeps e scope sound at has = keeps_on scope (value effects calls e at) _ (value_keeps e scope sound at has) (λ v at h. text_keeps Q scope (text_of v) at h)

  arguments_keep : (es : List Expr) (scope : Scope) → exprs_are_sound items body es scope ≡ true → (at : At W) → Has scope at.env → Keeps scope (arguments effects calls es at)
  arguments_keep es scope sound at has =
      keeps_on scope (ended at (values_onto [] (map (evaluated calls) es) at.env at.units at.cost)) _
      (ended_keeps Q scope at _ (arguments_run calls items calls_fit [] es at.env (subst (λ s. each_is (map (expr_is_sound items) es) s ≡ true) (sym has) sound) at.units at.cost) has)
      (λ vs at h. taken_keeps Q scope (list_or_size vs) at h)

  asked_keeps : (a : Ask) (scope : Scope) → is_flow body ≡ true → ask_is_sound items body a scope ≡ true → (at : At W) → Has scope at.env → Keeps scope (asked effects calls a at)
  asked_keeps (ask.Call name args) scope flow sound at has =
      keeps_on scope (arguments effects calls args at) _ (arguments_keep args scope (and_second (is_some (called items name (length args))) _ sound) at has)
      (λ vs at h. fit.call flow name (length args) (and_first (is_some (called items name (length args))) _ sound) vs scope at h)
  asked_keeps (ask.Spawn name args) scope flow sound at has =
      keeps_on scope (arguments effects calls args at) _ (arguments_keep args scope (and_second (is_some (spawned items name (length args))) _ sound) at has)
      (λ vs at h. fit.spawn flow name (length args) (and_first (is_some (spawned items name (length args))) _ sound) vs scope at h)
  asked_keeps (ask.Await id) scope flow sound at has = keeps_on scope (text_value effects calls id at) _ (text_value_keeps id scope sound at has) (λ t at h. fit.await flow t scope at h)

  given_keeps : (r : Rhs) (scope : Scope) → rhs_is_sound items body r scope ≡ true → (at : At W) → Has scope at.env → Keeps scope (given effects calls r at)
  given_keeps (rhs.Plain e) scope sound at has = value_keeps e scope sound at has
  given_keeps (rhs.Ask a) scope sound at has = asked_keeps a scope (and_first (is_flow body) _ sound) (and_second (is_flow body) _ sound) at has
  given_keeps (rhs.Get table key) scope sound at has =
      keeps_on scope (value effects calls key at) _ (value_keeps key scope (and_second (is_txn body && any (is_table table) items) _ sound) at has)
      (λ k at h. fit.get (and_first (is_txn body) _ (and_first (is_txn body && any (is_table table) items) _ sound)) table k scope at h)
  given_keeps (rhs.Scan table lo hi) scope sound at has =
      let front = is_txn body && any (is_table table) items in
      let first' = and_first (front && expr_is_sound items lo scope) _ sound in
      keeps_on scope (value effects calls lo at) _ (value_keeps lo scope (and_second front _ first') at has)
      (λ l at h. keeps_on scope (value effects calls hi at) _ (value_keeps hi scope (and_second (front && expr_is_sound items lo scope) _ sound) at h)
      (λ u at h. fit.scan (and_first (is_txn body) _ (and_first front _ first')) table l u scope at h))

  abbrev P : Stmt → Type 0
  P s = (scope next : Scope) → binds items body s scope ≡ Some next → Moves scope next (acted effects calls s)

  abbrev acts : List (Shown P) → List (Act Q W)
  acts ss = map (acted effects calls) (map (λ s. s.0) ss)

  abbrev steps : List (Shown P) → List Binds
  steps ss = map (binds items body) (map (λ s. s.0) ss)

  all_move : (ss : List (Shown P)) → AllMove (acts ss) (steps ss)
  all_move [] = tt
  all_move (s ∷ ss) = (s.1, all_move ss)

  statement_moves : (y : Stmt-F (Shown P)) (scope next : Scope) → statement_binds items body (map-Stmt Stmt Binds (binds items body) (map-Stmt (Shown P) Stmt (λ s. s.0) y)) scope ≡ Some next → Moves scope next (statement effects calls (map-Stmt Stmt (Act Q W) (acted effects calls) (map-Stmt (Shown P) Stmt (λ s. s.0) y)))
  statement_moves (Stmt-F.Let name r) scope next e = λ at has.
      let parts = let_parts (rhs_is_sound items body r scope) (contains scope name) name scope next e in
      leads_on (Has scope) (Has scope) (λ env. Has next env × Starts scope env) (Starts scope) (given effects calls r at) _ (given_keeps r scope parts.0 at has)
      (λ v at h. (bound_has scope name v at.env h ∙ parts.1, (name ∷ [], bound_has scope name v at.env h))) (λ env h. starts scope env h)
  statement_moves (Stmt-F.Set name r) scope next e =
      kept (contains scope name && rhs_is_sound items body r scope) scope next _ e (λ sound at has.
      keeps_on scope (given effects calls r at) _ (given_keeps r scope (and_second (contains scope name) _ sound) at has) (λ v at h. assigned_has at.env name v ∙ h))
  statement_moves (Stmt-F.Do a) scope next e =
      kept (is_flow body && ask_is_sound items body a scope) scope next _ e (λ sound at has.
      keeps_on scope (asked effects calls a at) _ (asked_keeps a scope (and_first (is_flow body) _ sound) (and_second (is_flow body) _ sound) at has) (λ v at h. h))
  statement_moves (Stmt-F.Put table key e') scope next e =
      let front = is_txn body && any (is_table table) items in
      kept (front && expr_is_sound items key scope && expr_is_sound items e' scope) scope next _ e (λ sound at has.
      let first' = and_first (front && expr_is_sound items key scope) _ sound in
      keeps_on scope (value effects calls key at) _ (value_keeps key scope (and_second front _ first') at has)
      (λ k at h. keeps_on scope (value effects calls e' at) _ (value_keeps e' scope (and_second (front && expr_is_sound items key scope) _ sound) at h)
      (λ v at h. fit.put (and_first (is_txn body) _ (and_first front _ first')) table k v scope at h)))
  statement_moves (Stmt-F.Delete table key) scope next e =
      let front = is_txn body && any (is_table table) items in
      kept (front && expr_is_sound items key scope) scope next _ e (λ sound at has.
      keeps_on scope (value effects calls key at) _ (value_keeps key scope (and_second front _ sound) at has)
      (λ k at h. fit.delete (and_first (is_txn body) _ (and_first front _ sound)) table k scope at h))
  statement_moves (Stmt-F.If cond one None) scope next e =
      kept (expr_is_sound items cond scope && block_is_sound (steps one) scope && true) scope next _ e (λ sound at has.
      let first' = and_first (expr_is_sound items cond scope && block_is_sound (steps one) scope) _ sound in
      keeps_on scope (condition effects calls cond at) _ (condition_keeps cond scope (and_first (expr_is_sound items cond scope) _ first') at has)
      (λ b. chosen_keeps b scope (block (acts one)) (Goes tt) (block_keeps (acts one) (steps one) (all_move one) scope (and_second (expr_is_sound items cond scope) _ first')) (λ at h. h)))
  statement_moves (Stmt-F.If cond one (Some two)) scope next e =
      kept (expr_is_sound items cond scope && block_is_sound (steps one) scope && block_is_sound (steps two) scope) scope next _ e (λ sound at has.
      let first' = and_first (expr_is_sound items cond scope && block_is_sound (steps one) scope) _ sound in
      keeps_on scope (condition effects calls cond at) _ (condition_keeps cond scope (and_first (expr_is_sound items cond scope) _ first') at has)
      (λ b. chosen_keeps b scope (block (acts one)) (block (acts two)) (block_keeps (acts one) (steps one) (all_move one) scope (and_second (expr_is_sound items cond scope) _ first'))
      (block_keeps (acts two) (steps two) (all_move two) scope (and_second (expr_is_sound items cond scope && block_is_sound (steps one) scope) _ sound))))
  statement_moves (Stmt-F.While cond b) scope next e =
      kept (expr_is_sound items cond scope && block_is_sound (steps b) scope) scope next _ e (λ sound at has.
      turns_keep (suc at.units) scope (condition effects calls cond) (block (acts b)) (condition_keeps cond scope (and_first (expr_is_sound items cond scope) _ sound))
      (block_keeps (acts b) (steps b) (all_move b) scope (and_second (expr_is_sound items cond scope) _ sound)) at has)
  statement_moves (Stmt-F.Each name list b) scope next e =
      kept (expr_is_sound items list scope && block_sound_with name (steps b) scope) scope next _ e (λ sound at has.
      keeps_on scope (list_value effects calls list at) _ (list_value_keeps list scope (and_first (expr_is_sound items list scope) _ sound) at has)
      (λ vs. each_keeps vs scope name (acts b) (λ v. block_with_keeps (acts b) (steps b) (all_move b) scope name v (and_second (expr_is_sound items list scope) _ sound))))
  statement_moves (Stmt-F.Try b name handler) scope next e =
      kept (block_is_sound (steps b) scope && block_sound_with name (steps handler) scope) scope next _ e (λ sound at has.
      caught_keeps scope name (acts handler) (λ v. block_with_keeps (acts handler) (steps handler) (all_move handler) scope name v (and_second (block_is_sound (steps b) scope) _ sound))
      (block (acts b) at) (block_keeps (acts b) (steps b) (all_move b) scope (and_first (block_is_sound (steps b) scope) _ sound) at has))
  statement_moves (Stmt-F.Return e') scope next e =
      kept (expr_is_sound items e' scope) scope next _ e (λ sound at has. keeps_on scope (value effects calls e' at) _ (value_keeps e' scope sound at has) (λ v at h. tt))
  statement_moves (Stmt-F.Fail e') scope next e =
      kept (expr_is_sound items e' scope) scope next _ e (λ sound at has. keeps_on scope (text_value effects calls e' at) _ (text_value_keeps e' scope sound at has) (λ t at h. h))

  level : (y : Stmt-F (Shown P)) → P (roll-Stmt (map-Stmt (Shown P) Stmt (λ s. s.0) y))
  level y scope next e at has =
      let x = map-Stmt (Shown P) Stmt (λ s. s.0) y in
      let same = ap (λ (b : Binds). b scope) (fold-roll-Stmt Binds (statement_binds items body) x) in
      subst (λ (d : Ends Q W (Unit {0})). Leads (λ env. Has next env × Starts scope env) (Starts scope) d) (sym (acted_roll effects calls x at)) (statement_moves y scope next (sym same ∙ e) at has)

  act_moves : (s : Stmt) → P s
  act_moves = by_levels P level

  all_acts_move : (b : List Stmt) → AllMove (map (acted effects calls) b) (map (binds items body) b)
  all_acts_move [] = tt
  all_acts_move (s ∷ b) = (act_moves s, all_acts_move b)

  -- a sound body, its parameters bound, isn't stuck
  pub body_leads : (params : Scope) (b : List Stmt) → body_is_sound items body params b ≡ true → (at : At W) → Has params at.env → Leads (Starts params) (Starts params) (body_of effects calls b at)
  body_leads params b sound at has =
      let out = some_of (all_in_order (map (binds items body) b) params) sound in
      weaker (λ env. Has out.0 env × Starts params env) (Starts params) (Starts params) (Starts params) (body_of effects calls b at) (order_moves (map (acted effects calls) b) (map (binds items body) b) (all_acts_move b) params out.0 out.1 at has) (λ env p. p.1) (λ env s. s)
