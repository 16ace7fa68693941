-- Bodies of transactions and of workflows end within their units.
use Rattle.std.proofs.Common.{◌≡◌, ◌≤◌, subst, ℕ, ◌+◌, ◌*◌, Bool, true, false, List, [], ◌∷◌, ◌++◌, Option, Some, None, arith}
use Rattle.std.specs.Prelude.{suc, length, nat_lt, nat_eq, map, codes, if◌then◌else◌, ◌&&◌}
use Rattle.std.specs.Str.{bytes_eq}
use Rattle.r3_value.specs.declared.value.Val.{Val}
use Rattle.fn_tree.specs.declared.look.Look.{Look}
use Rattle.fn_tree.specs.declared.look.TxnRun.{TxnRun}
use Rattle.fn_tree.specs.declared.flow.Answer.{Answer}
use Rattle.fn_tree.specs.declared.flow.AskKind.{AskKind}
use Rattle.fn_tree.specs.declared.flow.AskKind.TheVariants as kind
use Rattle.fn_tree.specs.declared.flow.FlowEnd.{FlowEnd}
use Rattle.fn_tree.specs.declared.flow.Request.{Request}
use Rattle.fn_tree.specs.declared.program.Item.{Item}
use Rattle.fn_tree.specs.declared.program.Item.TheVariants as item
use Rattle.fn_tree.specs.declared.stmt.Stmt.{Stmt}
use Rattle.fn_tree.specs.Values.{text_of, items_of, or_null}
use Rattle.fn_tree.specs.Sequences.{list_or_size}
use Rattle.fn_tree.specs.Expression.{calls_of, bound}
use Rattle.fn_tree.specs.Declarations.{called, spawned}
use Rattle.fn_tree.specs.Ends.{At, Ends, Goes, Returns, Failed, Asks, Stuck}
use Rattle.fn_tree.specs.Control.{taken}
use Rattle.fn_tree.specs.Transaction.{Versions, Log, Never, Counted, written_at, with_write, items_of_look, read_items, contains_look, with_look, fits_key, fits_bound, with_text, pair_value, rows_under, got_by, got, wrote, found, rows_at, scanned, on_versions, txn_end, txn_begun, run_among}
use Rattle.fn_tree.specs.Flow.{Left, ask, ask_or_stuck, on_asks, answered, flow_begun, begun_on, begun_among}
use Rattle.fn_meaning.specs.Nodes.{in_body, in_item, in_program}
use Rattle.fn_meaning.specs.Budget.{load, TransactionsEnd, FlowsEnd}
use Rattle.fn_meaning.proofs.ExpressionBudget.{le_self, le_then, le_none, le_zero, calls_of_part}
use Rattle.fn_meaning.proofs.StatementBudget.{Spent, Part, spent_if, taken_part, EffectsFree, body_part}

module _ (each : ℕ) where
  with_text_free : {A : Type 0} (fits : List ℕ → Bool) (o : Option (List ℕ)) (go : List ℕ → At Log → Ends Never Log A) → ((t : List ℕ) → Part each 0 (go t)) → Part each 0 (λ at. with_text fits o at (λ t. go t at))
  with_text_free fits None go h b at g = le_none (load each at.units at.cost) b g
  with_text_free fits (Some t) go h b at g = spent_if each b (fits t) _ _ (h t b at g) (le_none (load each at.units at.cost) b g)

  with_look_free : {A : Type 0} (l : Look) (go : At Log → Ends Never Log A) → Part each 0 go → Part each 0 (λ at. with_look l at go)
  with_look_free l go h b at g =
      spent_if each b (contains_look at.world.looks l) _ _ (h b at g)
      (spent_if each b (nat_lt 4096 (read_items at.world.looks + items_of_look l)) _ _ (le_none (load each at.units at.cost) b g)
      (h b (record at { world = record { looks = at.world.looks ++ l ∷ []; writes = at.world.writes } }) g))

  module _ (base : Versions) where
    got_by_free : (o : Option (Option Val)) (table key : List ℕ) → Part each 0 (got_by base o table key)
    got_by_free (Some left) table key = λ b at g. le_none (load each at.units at.cost) b g
    got_by_free None table key = with_look_free _ _ (λ b at g. le_none (load each at.units at.cost) b g)

    got_free : (table : List ℕ) (v : Val) → Part each 0 (got base table v)
    got_free table v = with_text_free fits_key (text_of v) (λ key at. got_by base (written_at at.world.writes table key) table key at) (λ key b at g. got_by_free (written_at at.world.writes table key) table key b at g)

    wrote_free : (table : List ℕ) (left : Option Val) (v : Val) → Part each 0 (wrote base table left v)
    wrote_free table left v =
        with_text_free fits_key (text_of v) _ (λ key b at g. spent_if each b (nat_lt 1024 (length (with_write at.world.writes table key left))) _ _ (le_none (load each at.units at.cost) b g) (le_none (load each at.units at.cost) b g))

    scanned_free : (table : List ℕ) (lo hi : Val) → Part each 0 (scanned base table lo hi)
    scanned_free table lo hi =
        with_text_free fits_bound (text_of lo) _ (λ from. with_text_free fits_bound (text_of hi) _ (λ to b at g.
        with_look_free (found base table from to) (taken (list_or_size (map pair_value (rows_under at.world.writes table from to (rows_at base table from to))))) (taken_part Never Log each _) b at g))

    versions_free : EffectsFree each (on_versions base)
    versions_free = record {
      get = got_free;
      scan = scanned_free;
      put = λ table k v. wrote_free table (Some v) k;
      delete = λ table k. wrote_free table None k;
      call = λ name n args b at g. tt;
      spawn = λ name n args b at g. tt;
      await = λ id b at g. tt;
    }

  ask_free : (k : AskKind) (name : List ℕ) (args : Val) → Part each 0 (ask k name args)
  ask_free k name args b at g =
      spent_if each b (nat_lt at.world 1000) _ _ (le_none (load each at.units at.cost) b g, λ o. taken_part Request ℕ each o b (record at { world = suc at.world }) g) (le_none (load each at.units at.cost) b g)

  asked_free : (o : Option AskKind) (name : List ℕ) (args : Val) → Part each 0 (ask_or_stuck o name args)
  asked_free (Some k) name args = ask_free k name args
  asked_free None name args = λ b at g. tt

  asks_free : (items : List Item) → EffectsFree each (on_asks items)
  asks_free items = record {
    get = λ table v b at g. tt;
    scan = λ table lo hi b at g. tt;
    put = λ table v w b at g. tt;
    delete = λ table v b at g. tt;
    call = λ name n. asked_free (called items name n) name;
    spawn = λ name n. asked_free (spawned items name n) name;
    await = λ id. ask_free kind.Await (codes "await") _;
  }

le_head : (n m b : ℕ) → n + m ≤ b → n ≤ b
le_head n m b h = omega (arith, h)

le_tail : (n m b : ℕ) → n + m ≤ b → m ≤ b
le_tail n m b h = omega (arith, h)

-- from no node and 100,000 units
whole : (each n b : ℕ) → n ≤ each → b ≡ each * 100001 → load each 100000 0 + n ≤ b
whole each n b h is = omega (arith, h, is)

within : (cost spare b : ℕ) → cost + spare ≤ b → cost ≤ b
within cost spare b h = omega (arith, h)

-- what holds of a run's cost, where there is a run
abbrev Costs : {A : Type 0} → ℕ → Option (Counted A) → Type 0
Costs b None = Unit {0}
Costs b (Some r) = r.cost ≤ b

costs_by : {A : Type 0} (b : ℕ) (c : Bool) (x y : Option (Counted A)) → Costs b x → Costs b y → Costs b (if c then x else y)
costs_by b true x y h g = h
costs_by b false x y h g = g

module _ (each b : ℕ) where
  txn_costs : (d : Ends Never Log (Unit {0})) → Spent each b d → Costs b (txn_end d)
  txn_costs (Goes a at) h = within at.cost (each * at.units) b h
  txn_costs (Returns v at) h = within at.cost (each * at.units) b h
  txn_costs (Failed word at) h = within at.cost (each * at.units) b h
  txn_costs (Asks q at next) h = tt
  txn_costs Stuck h = tt

  flow_costs : (d : Left (Unit {0})) (answers : List Answer) → Spent each b d → Costs b (answered d answers)
  flow_costs (Goes a at) answers h = within at.cost (each * at.units) b h
  flow_costs (Returns v at) answers h = within at.cost (each * at.units) b h
  flow_costs (Failed word at) answers h = within at.cost (each * at.units) b h
  flow_costs (Asks q at next) [] h = within at.cost (each * at.units) b h.0
  flow_costs (Asks q at next) (a ∷ answers) h = costs_by b (bytes_eq a.name q.name) _ _ (flow_costs (next a.outcome) answers (h.1 a.outcome)) (within at.cost (each * at.units) b h.0)
  flow_costs Stuck answers h = tt

module _ (items : List Item) (b : ℕ) (is : b ≡ in_program items * 100001) where
  abbrev each : ℕ
  each = in_program items

  txn_among : (base : Versions) (rest : List Item) → in_program rest ≤ each → (name : List ℕ) (args : List Val) → Costs b (run_among base (calls_of items) rest name args)
  txn_among base [] le name args = tt
  txn_among base (item.Txn serial x params body ∷ rest) le name args =
      costs_by b (bytes_eq x name && nat_eq (length params) (length args)) _ _
      (txn_costs each b (txn_begun base (calls_of items) params body args)
      (body_part each (on_versions base) (calls_of items) (versions_free each base) (calls_of_part each items (le_self each)) body (le_head (in_body body) (in_program rest) each le) b _ (whole each (in_body body) b (le_head (in_body body) (in_program rest) each le) is)))
      (txn_among base rest (le_tail (in_body body) (in_program rest) each le) name args)
  txn_among base (item.Table x ∷ rest) le name args = txn_among base rest (le_tail 0 (in_program rest) each le) name args
  txn_among base (item.Queue x n ∷ rest) le name args = txn_among base rest (le_tail 0 (in_program rest) each le) name args
  txn_among base (item.Outside x params ∷ rest) le name args = txn_among base rest (le_tail 0 (in_program rest) each le) name args
  txn_among base (item.Helper x params body ∷ rest) le name args = txn_among base rest (le_tail (in_item (item.Helper x params body)) (in_program rest) each le) name args
  txn_among base (item.Flow x params body ∷ rest) le name args = txn_among base rest (le_tail (in_body body) (in_program rest) each le) name args

  failed_costs : (word : List ℕ) (answers : List Answer) → Costs b (answered (Failed word (record { env = []; world = 0; units = 100000; cost = 0 })) answers)
  failed_costs word answers = omega arith

  flow_by : (c : Bool) (x y : Left (Unit {0})) (answers : List Answer) → Costs b (answered x answers) → Costs b (answered y answers) → Costs b (answered (if c then x else y) answers)
  flow_by true x y answers h g = h
  flow_by false x y answers h g = g

  flow_on : (params : List (List ℕ)) (body : List Stmt) → in_body body ≤ each → (o : Option (List Val)) (answers : List Answer) → Costs b (answered (begun_on items params body o) answers)
  flow_on params body le (Some args) answers =
      flow_by (nat_eq (length params) (length args)) _ _ answers
      (flow_costs each b (flow_begun items params body args) answers
      (body_part each (on_asks items) (calls_of items) (asks_free each items) (calls_of_part each items (le_self each)) body le b _ (whole each (in_body body) b le is)))
      (failed_costs (codes "arity") answers)
  flow_on params body le None answers = failed_costs (codes "arity") answers

  flow_among : (rest : List Item) → in_program rest ≤ each → (name : List ℕ) (o : Option (List Val)) (answers : List Answer) → Costs b (answered (begun_among items rest name o) answers)
  flow_among [] le name o answers = failed_costs (codes "unknown_function") answers
  flow_among (item.Flow x params body ∷ rest) le name o answers =
      flow_by (bytes_eq x name) _ _ answers (flow_on params body (le_head (in_body body) (in_program rest) each le) o answers) (flow_among rest (le_tail (in_body body) (in_program rest) each le) name o answers)
  flow_among (item.Table x ∷ rest) le name o answers = flow_among rest (le_tail 0 (in_program rest) each le) name o answers
  flow_among (item.Queue x n ∷ rest) le name o answers = flow_among rest (le_tail 0 (in_program rest) each le) name o answers
  flow_among (item.Outside x params ∷ rest) le name o answers = flow_among rest (le_tail 0 (in_program rest) each le) name o answers
  flow_among (item.Helper x params body ∷ rest) le name o answers = flow_among rest (le_tail (in_item (item.Helper x params body)) (in_program rest) each le) name o answers
  flow_among (item.Txn serial x params body ∷ rest) le name o answers = flow_among rest (le_tail (in_body body) (in_program rest) each le) name o answers

pub transactions_end : TransactionsEnd
transactions_end items base name args r e =
    subst (Costs (in_program items * 100001)) e (txn_among items (in_program items * 100001) (λ i. in_program items * 100001) base items (le_self (in_program items)) name args)

pub flows_end : FlowsEnd
flows_end items name args answers r e =
    subst (Costs (in_program items * 100001)) e (flow_among items (in_program items * 100001) (λ i. in_program items * 100001) items (le_self (in_program items)) name (items_of args) answers)
