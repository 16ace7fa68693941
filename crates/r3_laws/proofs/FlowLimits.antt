-- A workflow of a sound program stays within the limits.
use Rattle.std.proofs.Common.{◌≡◌, subst, ℕ, suc, ◌≤◌, Bool, true, false, List, [], ◌∷◌, ◌++◌, length, Option, Some, None, refl, sym, arith}
use Rattle.std.specs.Prelude.{codes, nat_lt, nat_eq, if◌then◌else◌}
use Rattle.std.specs.List.{AllByRecursion}
use Rattle.std.specs.Str.{is_utf8, bytes_eq, chars}
use lib.Utf8.{encode}
use Rattle.r3_value.specs.View.{items_of}
use Rattle.r3_value.specs.declared.value.Outcome.{Outcome}
use Rattle.r3_value.specs.declared.value.Outcome.TheVariants.{Value, Failure}
use Rattle.r3_value.specs.declared.value.Val.{Val}
use Rattle.r3_value.specs.declared.value.Val.TheVariants.{Null, Bool as Truth, Int, Text as TextOf, List as ListOf}
use Rattle.r3_bytes.specs.Spelling.{count}
use Rattle.r3_entry.specs.Limits.{IsName, IsArgs, IsOutcome, IsVal}
use Rattle.fn_tree.specs.declared.flow.Answer.{Answer}
use Rattle.fn_tree.specs.declared.flow.AskKind.{AskKind}
use Rattle.fn_tree.specs.declared.flow.AskKind.TheVariants as asking
use Rattle.fn_tree.specs.declared.flow.FlowEnd.{FlowEnd}
use Rattle.fn_tree.specs.declared.flow.Request.{Request}
use Rattle.fn_tree.specs.declared.program.Item.{Item}
use Rattle.fn_tree.specs.declared.program.Item.TheVariants as item
use Rattle.fn_tree.specs.declared.stmt.Stmt.{Stmt}
use Rattle.fn_tree.specs.Ends.{Goes, Returns, Failed, Asks, Stuck}
use Rattle.fn_tree.specs.Expression.{calls_of}
use Rattle.fn_tree.specs.Flow.{Place, Left, ask, ask_or_stuck, on_asks, answered, flow_begun, begun_on, begun_among, flow_of}
use Rattle.fn_tree.specs.Literals.{is_text, item_fits, body_fits, HoldsValues}
use Rattle.fn_tree.specs.Soundness.{OfFlow, called, spawned, body_is_sound, items_are_sound, each_passes}
use Rattle.fn_tree.specs.Transaction.{Counted}
use Rattle.fn_tree.specs.Values.{items_of as list_of}
use Rattle.fn_meaning.specs.ValueLimits.{AreVals, IsWord, IsOutcome as StaysWithin}
use Rattle.fn_meaning.proofs.SoundExpression.{Anything, and_first, and_second, item_part, rest_part}
use Rattle.fn_meaning.proofs.ValueBodies.{AtWithin, Stays, stays_if, taken_kept, HasItems, EffectsWithin, body_kept}
use Rattle.fn_meaning.proofs.ValueExpressions.{bound_within, calls_within}
use Rattle.fn_meaning.proofs.ValueLemmas.{ListFits, list_fits, text_is, null_val}
use Rattle.r3_model.specs.Functions.{end_of}
use Rattle.r3_model.specs.Lawful.{HasArgs, EndsWell, AreAnswers}
use Rattle.r3_laws.proofs.NamedItems.{IsNamed, AskedIf, called-named, spawned-named}
use Rattle.r3_laws.proofs.TxnLimits.{any-text, unknown-any}

-- ---- words and names

steps-word : IsWord (codes "steps")
unfolding is_utf8 chars encode
steps-word = refl

arity-word : IsWord (codes "arity")
unfolding is_utf8 chars encode
arity-word = refl

unknown-word : IsWord (codes "unknown_function")
unfolding is_utf8 chars encode
unknown-word = refl

await-name : IsName (codes "await")
unfolding is_utf8 chars encode
await-name = record { long = omega arith; short = omega arith; utf8 = refl }

-- ---- asks

-- any place will do
abbrev AnyPlace : ℕ → Type 0
AnyPlace n = Unit {0}

-- what is asked has a name and arguments within the limits
abbrev IsAskWithin : Request → Type 0
IsAskWithin q = IsName q.name × HasArgs q.kind q.args

count-items : (vs : List Val) → count (items_of vs) ≡ length vs
count-items [] = refl
count-items (v ∷ vs) = omega (arith, count-items vs)

few-args : (n : ℕ) (v : Val) → n ≤ 16 → HasItems n v → IsArgs v
few-args n v few h =
    let val : IsVal (ListOf (items_of h.items)) = subst IsVal h.is h.val in
    let is : IsArgs (ListOf (items_of h.items)) = (val, omega (arith, count-items h.items, h.many, few)) in
    subst IsArgs (sym h.is) is

ask-kept : (k : AskKind) (name : List ℕ) (args : Val) → IsName name → HasArgs k args → (at : Place) → AtWithin AnyPlace at → Stays AnyPlace IsAskWithin IsVal (ask k name args at)
ask-kept k name args is has at i =
    stays_if AnyPlace IsAskWithin IsVal (nat_lt at.world 1000) _ _
    (λ e. ((is, has), λ o h. taken_kept AnyPlace IsAskWithin o h (record at { world = suc at.world }) i)) (λ e. (steps-word, i))

stuck-kept : (o : Option AskKind) (name : List ℕ) (n : ℕ) → AskedIf name n o → (args : Val) → HasItems n args → (at : Place) → AtWithin AnyPlace at → Stays AnyPlace IsAskWithin IsVal (ask_or_stuck o name args at)
stuck-kept (Some k) name n is args h at i = ask-kept k name args is.named (is.args args (few-args n args is.few h)) at i
stuck-kept None name n is args h at i = tt

asks-within : (items : List Item) → AllByRecursion IsNamed items → EffectsWithin items AnyPlace IsAskWithin (on_asks items)
asks-within items named = record {
  get = λ table there k h at i. tt;
  scan = λ table there lo hi h g at i. tt;
  put = λ table there k v h g at i. tt;
  delete = λ table there k h at i. tt;
  call = λ name n args h at i. stuck-kept (called items name n) name n (called-named items named name n) args h at i;
  spawn = λ name n args h at i. stuck-kept (spawned items name n) name n (spawned-named items named name n) args h at i;
  await = λ id h at i. ask-kept asking.Await (codes "await") (TextOf id) await-name (any-text id h) at i;
}

-- ---- a run on answers within the limits

outcome-stays : (o : Outcome) → IsOutcome o → StaysWithin o
outcome-stays (Value v) h = h
outcome-stays (Failure word) h = text_is word h.utf8 h.short

well-if : (b : Bool) (x y : Option (Counted FlowEnd)) → EndsWell (end_of x) → EndsWell (end_of y) → EndsWell (end_of (if b then x else y))
well-if true x y h g = h
well-if false x y h g = g

pub answered-well : (d : Left (Unit {0})) (answers : List Answer) → Stays AnyPlace IsAskWithin Anything d → AreAnswers answers → EndsWell (end_of (answered d answers))
answered-well (Goes a at) answers h all = null_val
answered-well (Returns v at) answers h all = h.0
answered-well (Failed word at) answers h all = any-text word h.0
answered-well (Asks q at next) [] h all = h.0
answered-well (Asks q at next) (a ∷ answers) h all =
    well-if (bytes_eq a.name q.name) (answered (next a.outcome) answers) _ (answered-well (next a.outcome) answers (h.1 a.outcome (outcome-stays a.outcome all.0)) all.1) tt
answered-well Stuck answers h all = unknown-any

args-val : (v : Val) → IsArgs v → IsVal v
args-val (ListOf vs) h = h.0
args-val Null h = absurd h
args-val (Truth b) h = absurd h
args-val (Int z) h = absurd h
args-val (TextOf t) h = absurd h

module _ (items : List Item) (named : AllByRecursion IsNamed items) (sound : items_are_sound [] items items ≡ true) (holds : HoldsValues items) where
  begun-well : (params : List (List ℕ)) (body : List Stmt) → body_is_sound items OfFlow params body ≡ true → body_fits body ≡ true → (args : List Val) → AreVals args → Stays AnyPlace IsAskWithin Anything (flow_begun items params body args)
  begun-well params body e f args h =
      body_kept (on_asks items) (calls_of items) items OfFlow AnyPlace IsAskWithin (asks-within items named) (calls_within items holds) params body e f _ (bound_within params args h, tt)

  on-well : (params : List (List ℕ)) (body : List Stmt) → body_is_sound items OfFlow params body ≡ true → body_fits body ≡ true → (args : Option (List Val)) → ListFits args → Stays AnyPlace IsAskWithin Anything (begun_on items params body args)
  on-well params body e f (Some args) h =
      stays_if AnyPlace IsAskWithin Anything (nat_eq (length params) (length args)) (flow_begun items params body args) _ (λ t. begun-well params body e f args h) (λ t. (arity-word, (tt, tt)))
  on-well params body e f None h = (arity-word, (tt, tt))

  among-well : (before rest : List Item) → items_are_sound before items rest ≡ true → each_passes item_fits rest ≡ true → (name : List ℕ) (args : Option (List Val)) → ListFits args → Stays AnyPlace IsAskWithin Anything (begun_among items rest name args)
  among-well before [] e f name args h = (unknown-word, (tt, tt))
  among-well before (item.Flow x params body ∷ rest) e f name args h =
      stays_if AnyPlace IsAskWithin Anything (bytes_eq x name) (begun_on items params body args) (begun_among items rest name args)
      (λ t. on-well params body (item_part before items (item.Flow x params body) rest e) (and_second (is_text x) (body_fits body) (and_first (item_fits (item.Flow x params body)) (each_passes item_fits rest) f)) args h)
      (λ t. among-well (before ++ item.Flow x params body ∷ []) rest (rest_part before items (item.Flow x params body) rest e) (and_second (item_fits (item.Flow x params body)) (each_passes item_fits rest) f) name args h)
  among-well before (item.Table x ∷ rest) e f name args h = among-well (before ++ item.Table x ∷ []) rest (rest_part before items (item.Table x) rest e) (and_second (item_fits (item.Table x)) (each_passes item_fits rest) f) name args h
  among-well before (item.Queue x n ∷ rest) e f name args h = among-well (before ++ item.Queue x n ∷ []) rest (rest_part before items (item.Queue x n) rest e) (and_second (item_fits (item.Queue x n)) (each_passes item_fits rest) f) name args h
  among-well before (item.Outside x params ∷ rest) e f name args h = among-well (before ++ item.Outside x params ∷ []) rest (rest_part before items (item.Outside x params) rest e) (and_second (item_fits (item.Outside x params)) (each_passes item_fits rest) f) name args h
  among-well before (item.Helper x params body ∷ rest) e f name args h = among-well (before ++ item.Helper x params body ∷ []) rest (rest_part before items (item.Helper x params body) rest e) (and_second (item_fits (item.Helper x params body)) (each_passes item_fits rest) f) name args h
  among-well before (item.Txn serial x params body ∷ rest) e f name args h = among-well (before ++ item.Txn serial x params body ∷ []) rest (rest_part before items (item.Txn serial x params body) rest e) (and_second (item_fits (item.Txn serial x params body)) (each_passes item_fits rest) f) name args h

  pub flow-well : (name : List ℕ) (args : Val) → IsArgs args → Stays AnyPlace IsAskWithin Anything (flow_of items name args)
  flow-well name args h = among-well [] items sound holds name (list_of args) (list_fits args (args-val args h))
