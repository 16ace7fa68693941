-- A sound program is never stuck.
use Rattle.std.proofs.Common.{◌≡◌, ℕ, ◌+◌, suc, Bool, true, false, List, [], ◌∷◌, ◌++◌, Option, Some, None, refl, length}
use Rattle.std.specs.Prelude.{map, if◌then◌else◌, ◌&&◌, nat_lt, nat_eq}
use Rattle.std.specs.Str.{bytes_eq}
use Rattle.std.proofs.lemmas.Bool.{eqb-true}
use Rattle.r3_value.specs.declared.value.Val.{Val}
use Rattle.fn_tree.specs.Expression.{Binding, End, Gives, Fails, Stuck as NoEnd}
use Rattle.fn_tree.specs.declared.look.Look.{Look}
use Rattle.fn_tree.specs.declared.look.TxnRun.{TxnRun}
use Rattle.fn_tree.specs.declared.flow.AskKind.{AskKind}
use Rattle.fn_tree.specs.declared.flow.AskKind.TheVariants as kind
use Rattle.fn_tree.specs.declared.flow.Answer.{Answer}
use Rattle.fn_tree.specs.declared.flow.FlowEnd.{FlowEnd}
use Rattle.fn_tree.specs.declared.stmt.Stmt.{Stmt}
use Rattle.fn_tree.specs.declared.program.Item.{Item}
use Rattle.fn_tree.specs.declared.program.Item.TheVariants as item
use Rattle.fn_tree.specs.Values.{text_of, items_of, or_null}
use Rattle.fn_tree.specs.Sequences.{list_or_size}
use Rattle.fn_tree.specs.Expression.{calls_of, evaluated}
use Rattle.fn_tree.specs.Statement.{At, Ends, Goes, Returns, Failed, Asks, Stuck}
use Rattle.fn_tree.specs.Soundness.{Scope, OfTxn, OfFlow, is_some, called, spawned, or_else, body_is_sound, items_are_sound}
use Rattle.fn_tree.specs.Transaction.{Versions, Log, Never, Counted, written_at, with_write, contains_look, read_items, items_of_look, with_look, fits_key, fits_bound, with_text, pair_value, rows_under, rows_at, found, got_by, got, wrote, scanned, on_versions, txn_end, txn_begun, txn_run, run_among}
use Rattle.fn_tree.specs.Flow.{Place, Left, ask, ask_or_stuck, on_asks, answered, flow_begun, begun_on, begun_among}
use Rattle.fn_tree.specs.NeverStuck.{HasEnd, ExpressionsNeverStuck, FlowsNeverStuck, TxnsNeverStuck}
use Rattle.fn_meaning.proofs.SoundExpression.{NotStuck, expression_runs, names_bound, and_second, calls_fit, item_part, rest_part}
use Rattle.fn_meaning.proofs.SoundStatement.{Leads, Has, Starts, Keeps, taken_keeps, EffectsFit, body_leads}

keeps_if : {Q W A : Type 0} (b : Bool) (scope : Scope) (d e : Ends Q W A) → Keeps scope d → Keeps scope e → Keeps scope (if b then d else e)
keeps_if true scope d e h g = h
keeps_if false scope d e h g = g

with_text_keeps : {A : Type 0} (fits : List ℕ → Bool) (o : Option (List ℕ)) (at : At Log) (go : List ℕ → Ends Never Log A) (scope : Scope) → Has scope at.env → ((t : List ℕ) → Keeps scope (go t)) → Keeps scope (with_text fits o at go)
with_text_keeps fits None at go scope has h = has
with_text_keeps fits (Some t) at go scope has h = keeps_if (fits t) scope _ _ (h t) has

with_look_keeps : {A : Type 0} (l : Look) (at : At Log) (go : At Log → Ends Never Log A) (scope : Scope) → Has scope at.env → ((at : At Log) → Has scope at.env → Keeps scope (go at)) → Keeps scope (with_look l at go)
with_look_keeps l at go scope has h =
    keeps_if (contains_look at.world.looks l) scope _ _ (h at has)
    (keeps_if (nat_lt 4096 (read_items at.world.looks + items_of_look l)) scope _ _ has (h (record at { world = record { looks = at.world.looks ++ l ∷ []; writes = at.world.writes } }) has))

module _ (base : Versions) where
  got_by_keeps : (o : Option (Option Val)) (table key : List ℕ) (scope : Scope) (at : At Log) → Has scope at.env → Keeps scope (got_by base o table key at)
  got_by_keeps (Some left) table key scope at has = has
  got_by_keeps None table key scope at has = with_look_keeps _ at (Goes (or_null (base.cell table key))) scope has (λ at h. h)

  got_keeps : (table : List ℕ) (k : Val) (scope : Scope) (at : At Log) → Has scope at.env → Keeps scope (got base table k at)
  got_keeps table k scope at has = with_text_keeps fits_key (text_of k) at _ scope has (λ key. got_by_keeps (written_at at.world.writes table key) table key scope at has)

  wrote_keeps : (table : List ℕ) (left : Option Val) (k : Val) (scope : Scope) (at : At Log) → Has scope at.env → Keeps scope (wrote base table left k at)
  wrote_keeps table left k scope at has = with_text_keeps fits_key (text_of k) at _ scope has (λ key. keeps_if (nat_lt 1024 (length (with_write at.world.writes table key left))) scope _ _ has has)

  scanned_keeps : (table : List ℕ) (lo hi : Val) (scope : Scope) (at : At Log) → Has scope at.env → Keeps scope (scanned base table lo hi at)
  scanned_keeps table lo hi scope at has =
      with_text_keeps fits_bound (text_of lo) at _ scope has (λ from. with_text_keeps fits_bound (text_of hi) at _ scope has (λ to.
      with_look_keeps (found base table from to) at _ scope has (λ at' h. taken_keeps Never scope (list_or_size (map pair_value (rows_under at.world.writes table from to (rows_at base table from to)))) at' h)))

  versions_fit : (items : List Item) → EffectsFit items OfTxn (on_versions base)
  versions_fit items = record {
    get = λ t table k scope at has. got_keeps table k scope at has;
    scan = λ t table lo hi scope at has. scanned_keeps table lo hi scope at has;
    put = λ t table k v scope at has. wrote_keeps table (Some v) k scope at has;
    delete = λ t table k scope at has. wrote_keeps table None k scope at has;
    call = λ f. absurd cc;
    spawn = λ f. absurd cc;
    await = λ f. absurd cc;
  }

ask_keeps : (k : AskKind) (name : List ℕ) (args : Val) (scope : Scope) (at : Place) → Has scope at.env → Keeps scope (ask k name args at)
ask_keeps k name args scope at has = keeps_if (nat_lt at.world 1000) scope _ _ (λ o. taken_keeps _ scope o (record at { world = suc at.world }) has) has

asked_keeps : (o : Option AskKind) → is_some o ≡ true → (name : List ℕ) (args : Val) (scope : Scope) (at : Place) → Has scope at.env → Keeps scope (ask_or_stuck o name args at)
asked_keeps (Some k) e name args scope at has = ask_keeps k name args scope at has
asked_keeps None e name args scope at has = absurd cc

asks_fit : (items : List Item) → EffectsFit items OfFlow (on_asks items)
asks_fit items = record {
  get = λ t. absurd cc;
  scan = λ t. absurd cc;
  put = λ t. absurd cc;
  delete = λ t. absurd cc;
  call = λ f name n e args scope at has. asked_keeps (called items name n) e name args scope at has;
  spawn = λ f name n e args scope at has. asked_keeps (spawned items name n) e name args scope at has;
  await = λ f id scope at has. ask_keeps kind.Await _ _ scope at has;
}

-- whatever the bindings are
abbrev Any : List Binding → Type 0
Any env = Unit {0}

answered_by : (b : Bool) (x y : Option (Counted FlowEnd)) → is_some x ≡ true → is_some y ≡ true → is_some (if b then x else y) ≡ true
answered_by true x y h g = h
answered_by false x y h g = g

-- a run that isn't stuck gives an end on every list of answers
answered_some : (good bad : List Binding → Type 0) (d : Left (Unit {0})) (answers : List Answer) → Leads good bad d → is_some (answered d answers) ≡ true
answered_some good bad (Goes a at) answers h = refl
answered_some good bad (Returns v at) answers h = refl
answered_some good bad (Failed word at) answers h = refl
answered_some good bad (Asks q at next) [] h = refl
answered_some good bad (Asks q at next) (a ∷ answers) h = answered_by (bytes_eq a.name q.name) _ _ (answered_some good bad (next a.outcome) answers (h a.outcome)) refl
answered_some good bad Stuck answers h = absurd h

module _ (items : List Item) (sound : items_are_sound [] items items ≡ true) where
  flow_some : (params : List (List ℕ)) (body : List Stmt) → body_is_sound items OfFlow params body ≡ true → (args : List Val) (answers : List Answer) → length params ≡ length args → is_some (answered (flow_begun items params body args) answers) ≡ true
  flow_some params body e args answers same =
      answered_some (Starts params) (Starts params) (flow_begun items params body args) answers
      (body_leads (on_asks items) (calls_of items) items OfFlow (asks_fit items) (calls_fit items sound) params body e _ (names_bound params args same))

  flow_by : (b : Bool) (params : List (List ℕ)) (args : List Val) (d e : Left (Unit {0})) (answers : List Answer) → (b ≡ true → is_some (answered d answers) ≡ true) → is_some (answered e answers) ≡ true → is_some (answered (if b then d else e) answers) ≡ true
  flow_by true params args d e answers h g = h refl
  flow_by false params args d e answers h g = g

  flow_on : (params : List (List ℕ)) (body : List Stmt) → body_is_sound items OfFlow params body ≡ true → (args : Option (List Val)) (answers : List Answer) → is_some (answered (begun_on items params body args) answers) ≡ true
  flow_on params body e (Some args) answers =
      flow_by (nat_eq (length params) (length args)) params args _ _ answers (λ t. flow_some params body e args answers (eqb-true (length params) (length args) t)) refl
  flow_on params body e None answers = refl

  flow_among : (before rest : List Item) → items_are_sound before items rest ≡ true → (name : List ℕ) (args : Option (List Val)) (answers : List Answer) → is_some (answered (begun_among items rest name args) answers) ≡ true
  flow_among before [] e name args answers = refl
  flow_among before (item.Flow x params body ∷ rest) e name args answers =
      flow_by (bytes_eq x name) params [] _ _ answers (λ t. flow_on params body (item_part before items (item.Flow x params body) rest e) args answers) (flow_among (before ++ item.Flow x params body ∷ []) rest (rest_part before items (item.Flow x params body) rest e) name args answers)
  flow_among before (item.Table x ∷ rest) e name args answers = flow_among (before ++ item.Table x ∷ []) rest (rest_part before items (item.Table x) rest e) name args answers
  flow_among before (item.Queue x n ∷ rest) e name args answers = flow_among (before ++ item.Queue x n ∷ []) rest (rest_part before items (item.Queue x n) rest e) name args answers
  flow_among before (item.Outside x params ∷ rest) e name args answers = flow_among (before ++ item.Outside x params ∷ []) rest (rest_part before items (item.Outside x params) rest e) name args answers
  flow_among before (item.Helper x params body ∷ rest) e name args answers = flow_among (before ++ item.Helper x params body ∷ []) rest (rest_part before items (item.Helper x params body) rest e) name args answers
  flow_among before (item.Txn serial x params body ∷ rest) e name args answers = flow_among (before ++ item.Txn serial x params body ∷ []) rest (rest_part before items (item.Txn serial x params body) rest e) name args answers

pub flows_never_stuck : FlowsNeverStuck
flows_never_stuck items name args answers sound = flow_among items sound.bodies [] items sound.bodies name (items_of args) answers

txn_some : (good bad : List Binding → Type 0) (d : Ends Never Log (Unit {0})) → Leads good bad d → is_some (txn_end d) ≡ true
txn_some good bad (Goes a at) h = refl
txn_some good bad (Returns v at) h = refl
txn_some good bad (Failed word at) h = refl
txn_some good bad (Asks q at next) h = elim q [ ]
txn_some good bad Stuck h = absurd h

outside_by : (b : Bool) (o : Option AskKind) → or_else (if b then Some kind.Outside else None) o ≡ Some kind.Txn → o ≡ Some kind.Txn
outside_by true o e = absurd cc
outside_by false o e = e

txn_by : (b : Bool) (o : Option AskKind) (x y : Option (Counted TxnRun)) → or_else (if b then Some kind.Txn else None) o ≡ Some kind.Txn → (b ≡ true → is_some x ≡ true) → (o ≡ Some kind.Txn → is_some y ≡ true) → is_some (if b then x else y) ≡ true
txn_by true o x y e h g = h refl
txn_by false o x y e h g = g e

module _ (base : Versions) (items : List Item) (sound : items_are_sound [] items items ≡ true) where
  run_some : (params : List (List ℕ)) (body : List Stmt) → body_is_sound items OfTxn params body ≡ true → (args : List Val) → length params ≡ length args → is_some (txn_run base (calls_of items) params body args) ≡ true
  run_some params body e args same =
      txn_some (Starts params) (Starts params) (txn_begun base (calls_of items) params body args)
      (body_leads (on_versions base) (calls_of items) items OfTxn (versions_fit base items) (calls_fit items sound) params body e _ (names_bound params args same))

  among_some : (before rest : List Item) → items_are_sound before items rest ≡ true → (name : List ℕ) (args : List Val) → called rest name (length args) ≡ Some kind.Txn → is_some (run_among base (calls_of items) rest name args) ≡ true
  among_some before [] e name args h = absurd cc
  among_some before (item.Txn serial x params body ∷ rest) e name args h =
      txn_by (bytes_eq x name && nat_eq (length params) (length args)) (called rest name (length args)) _ _ h
      (λ t. run_some params body (item_part before items (item.Txn serial x params body) rest e) args (eqb-true (length params) (length args) (and_second (bytes_eq x name) _ t)))
      (λ h. among_some (before ++ item.Txn serial x params body ∷ []) rest (rest_part before items (item.Txn serial x params body) rest e) name args h)
  among_some before (item.Outside x params ∷ rest) e name args h =
      among_some (before ++ item.Outside x params ∷ []) rest (rest_part before items (item.Outside x params) rest e) name args (outside_by (bytes_eq x name && nat_eq (length params) (length args)) (called rest name (length args)) h)
  among_some before (item.Table x ∷ rest) e name args h = among_some (before ++ item.Table x ∷ []) rest (rest_part before items (item.Table x) rest e) name args h
  among_some before (item.Queue x n ∷ rest) e name args h = among_some (before ++ item.Queue x n ∷ []) rest (rest_part before items (item.Queue x n) rest e) name args h
  among_some before (item.Helper x params body ∷ rest) e name args h = among_some (before ++ item.Helper x params body ∷ []) rest (rest_part before items (item.Helper x params body) rest e) name args h
  among_some before (item.Flow x params body ∷ rest) e name args h = among_some (before ++ item.Flow x params body ∷ []) rest (rest_part before items (item.Flow x params body) rest e) name args h

pub txns_never_stuck : TxnsNeverStuck
txns_never_stuck items base name args sound h = among_some base items sound.bodies [] items sound.bodies name args h

has_end : {A : Type 0} (d : End A) → NotStuck d → HasEnd d
has_end (Gives a units cost) h = tt
has_end (Fails word units cost) h = tt
has_end NoEnd h = absurd h

pub expressions_never_stuck : ExpressionsNeverStuck
expressions_never_stuck items e env units cost sound fits =
    has_end (evaluated (calls_of items) e env units cost) (expression_runs (calls_of items) items (calls_fit items sound.bodies) e env fits units cost)
