-- The meaning of bodies computes.
use Rattle.std.proofs.Common.{◌≡◌, ℕ, List, [], ◌∷◌, Some, None, Option, refl}
use Rattle.std.specs.Prelude.{codes, pos, if◌then◌else◌, ◌&&◌, not}
use Rattle.std.specs.Str.{bytes_eq}
use Rattle.r3_value.specs.declared.value.Val.{Val}
use Rattle.r3_value.specs.declared.value.Val.TheVariants as val
use Rattle.r3_value.specs.declared.value.Outcome.{Outcome}
use Rattle.r3_value.specs.declared.value.Outcome.TheVariants as outcome
use Rattle.r3_value.specs.View.{items_of}
use Rattle.fn_tree.specs.declared.stmt.Stmt.{Stmt}
use Rattle.fn_tree.specs.declared.stmt.Ask.TheVariants as ask
use Rattle.fn_tree.specs.declared.stmt.Rhs.TheVariants as rhs
use Rattle.fn_tree.specs.declared.look.Look.TheVariants as look
use Rattle.fn_tree.specs.declared.look.TxnRun.{TxnRun}
use Rattle.fn_tree.specs.declared.flow.AskKind.TheVariants as kind
use Rattle.fn_tree.specs.declared.flow.Answer.{Answer}
use Rattle.fn_tree.specs.declared.flow.FlowEnd.{FlowEnd}
use Rattle.fn_tree.specs.declared.flow.FlowEnd.TheVariants as flow
use Rattle.fn_tree.specs.declared.program.Item.{Item}
use Rattle.fn_tree.specs.declared.program.Item.TheVariants as item
use Rattle.fn_tree.specs.Comparison.{bytes_lt, less}
use Rattle.fn_tree.specs.Arithmetic.{sum, difference, quotient, type_failure}
use Rattle.fn_tree.specs.Sequences.{list_or_size}
use Rattle.fn_tree.specs.Expression.{no_calls}
use Rattle.fn_tree.specs.Statement.{Goes, Failed, Stuck, body_of}
use Rattle.fn_tree.specs.Transaction.{Versions, Counted, txn_run}
use Rattle.fn_tree.specs.Flow.{Left, on_asks, flow_meaning}
use Rattle.fn_meaning.proofs.Words.{num, quoted, nothing, true_, name, add, sub, div, lt, list, let_, set_, do_, put_, delete_, if_, while_, each_, try_, return_, fail_}
use Rattle.fn_meaning.proofs.ExpressionLemmas.{evaluated_roll}
use Rattle.fn_meaning.proofs.StatementLemmas.{acted_roll}

-- flow odd(m) { try { let z = 9223372036854775807 + m; } catch w { return w; } return 0; }
abbrev odd : Item
odd = item.Flow (codes "odd") (codes "m" ∷ [])
    (try_ (let_ (codes "z") (rhs.Plain (add (num 9223372036854775807) (name (codes "m")))) ∷ []) (codes "w") (return_ (name (codes "w")) ∷ []) ∷ return_ (num 0) ∷ [])

abbrev args : List Val → Val
args vs = val.List (items_of vs)

abbrev done : Outcome → ℕ → Option (Counted FlowEnd)
done o n = Some (record { run = flow.Done o; cost = n })

odd_overflows : flow_meaning (odd ∷ []) (codes "odd") (args (val.Int (pos 1) ∷ [])) [] ≡ done (outcome.Value (val.Text (codes "overflow"))) 4
unfolding sum
odd_overflows = simp (acted_roll, evaluated_roll)

odd_of_text : flow_meaning (odd ∷ []) (codes "odd") (args (val.Text (codes "a") ∷ [])) [] ≡ done (outcome.Value (val.Text (codes "type"))) 4
unfolding sum type_failure
odd_of_text = simp (acted_roll, evaluated_roll)

odd_of_zero : flow_meaning (odd ∷ []) (codes "odd") (args (val.Int (pos 0) ∷ [])) [] ≡ done (outcome.Value (val.Int (pos 0))) 4
unfolding sum
odd_of_zero = simp (acted_roll, evaluated_roll)

no_flow : flow_meaning (odd ∷ []) (codes "even") (args []) [] ≡ done (outcome.Failure (codes "unknown_function")) 0
no_flow = refl

no_args : flow_meaning (odd ∷ []) (codes "odd") (args []) [] ≡ done (outcome.Failure (codes "arity")) 0
no_args = refl

args_no_list : flow_meaning (odd ∷ []) (codes "odd") val.Null [] ≡ done (outcome.Failure (codes "arity")) 0
args_no_list = refl

-- a body in a flow, with few units
abbrev runs : List Item → List Stmt → ℕ → ℕ → Left (Unit {0})
runs items body n units = body_of (on_asks items) no_calls body (record { env = []; world = n; units = units; cost = 0 })

-- while true { }: each turn takes a unit after its test
spins : runs [] (while_ true_ [] ∷ []) 0 3 ≡ Failed (codes "budget") (record { env = []; world = 0; units = 0; cost = 4 })
spins = simp (acted_roll, evaluated_roll)

-- `try` doesn't catch `budget`
spins_in_try : runs [] (try_ (while_ true_ [] ∷ []) (codes "w") (return_ (name (codes "w")) ∷ []) ∷ return_ (num 0) ∷ []) 0 2 ≡ Failed (codes "budget") (record { env = []; world = 0; units = 0; cost = 3 })
spins_in_try = simp (acted_roll, evaluated_roll)

-- `each` takes one unit before each item
each_is_spent : runs [] (each_ (codes "x") (list (num 1 ∷ num 2 ∷ [])) [] ∷ []) 0 1 ≡ Failed (codes "budget") (record { env = []; world = 0; units = 0; cost = 3 })
unfolding list_or_size
each_is_spent = simp (acted_roll, evaluated_roll)

-- what was set before a failure stays so, and a block's names end with it
set_stays : runs [] (let_ (codes "x") (rhs.Plain (num 1)) ∷ try_ (let_ (codes "y") (rhs.Plain (num 5)) ∷ set_ (codes "x") (rhs.Plain (num 2)) ∷ fail_ (quoted (codes "e")) ∷ []) (codes "w") [] ∷ []) 0 9 ≡ Goes tt (record { env = (codes "x", val.Int (pos 2)) ∷ []; world = 0; units = 9; cost = 4 })
set_stays = simp (acted_roll, evaluated_roll)

-- `fail` needs a text
fail_of_number : runs [] (fail_ (num 1) ∷ []) 0 9 ≡ Failed (codes "type") (record { env = []; world = 0; units = 9; cost = 1 })
fail_of_number = simp (acted_roll, evaluated_roll)

abbrev notify : Item
notify = item.Outside (codes "notify") (codes "who" ∷ [])

abbrev one_ask : List Item
one_ask = notify ∷ item.Flow (codes "f") [] (let_ (codes "r") (rhs.Ask (ask.Call (codes "notify") (num 1 ∷ []))) ∷ return_ (name (codes "r")) ∷ []) ∷ []

abbrev answer : List ℕ → Val → Answer
answer n v = record { name = n; outcome = outcome.Value v }

asks_first : flow_meaning one_ask (codes "f") (args []) [] ≡ Some (record { run = flow.Asks (record { n = 0; kind = kind.Outside; name = codes "notify"; args = args (val.Int (pos 1) ∷ []) }); cost = 1 })
unfolding list_or_size
asks_first = simp (acted_roll, evaluated_roll)

-- an answer that is left over is ignored
goes_on : flow_meaning one_ask (codes "f") (args []) (answer (codes "notify") (val.Int (pos 7)) ∷ answer (codes "notify") val.Null ∷ []) ≡ done (outcome.Value (val.Int (pos 7))) 2
unfolding list_or_size
goes_on = simp (acted_roll, evaluated_roll)

unexpected : flow_meaning one_ask (codes "f") (args []) (answer (codes "pay") (val.Int (pos 7)) ∷ []) ≡ Some (record { run = flow.Unexpected 0 (codes "pay") (codes "notify"); cost = 1 })
unfolding list_or_size
unexpected = simp (acted_roll, evaluated_roll)

-- a failure that was recorded fails the statement
fails_on : flow_meaning one_ask (codes "f") (args []) (record { name = codes "notify"; outcome = outcome.Failure (codes "short") } ∷ []) ≡ done (outcome.Failure (codes "short")) 1
unfolding list_or_size
fails_on = simp (acted_roll, evaluated_roll)

-- an ask of number 1,000 fails, after its arguments
thousandth : runs one_ask (do_ (ask.Call (codes "notify") (div (num 1) (num 0) ∷ [])) ∷ []) 1000 9 ≡ Failed (codes "zero") (record { env = []; world = 1000; units = 9; cost = 3 })
unfolding quotient
thousandth = simp (acted_roll, evaluated_roll)

thousand_asks : runs one_ask (do_ (ask.Call (codes "notify") (num 1 ∷ [])) ∷ []) 1000 9 ≡ Failed (codes "steps") (record { env = []; world = 1000; units = 9; cost = 1 })
unfolding list_or_size
thousand_asks = simp (acted_roll, evaluated_roll)

awaits_number : runs one_ask (do_ (ask.Await (num 1)) ∷ []) 1000 9 ≡ Failed (codes "type") (record { env = []; world = 1000; units = 9; cost = 1 })
awaits_number = simp (acted_roll, evaluated_roll)

-- a call of nothing that can be called, of another number of arguments, and a `get` in a flow
calls_nothing : runs [] (do_ (ask.Call (codes "notify") (num 1 ∷ [])) ∷ []) 0 9 ≡ Stuck
unfolding list_or_size
calls_nothing = simp (acted_roll, evaluated_roll)

calls_with_none : runs one_ask (do_ (ask.Call (codes "notify") []) ∷ []) 0 9 ≡ Stuck
unfolding list_or_size
calls_with_none = simp (acted_roll, evaluated_roll)

gets_in_flow : runs one_ask (let_ (codes "x") (rhs.Get (codes "acct") (num 1)) ∷ []) 0 9 ≡ Stuck
gets_in_flow = simp (acted_roll, evaluated_roll)

-- A map in which acct has a: 5 written by entry 2, b: 6 by entry 3 and d: 8 by entry 4; c was deleted by entry 5.
abbrev cell_of : List ℕ → Option Val
cell_of k =
    if bytes_eq k (codes "a") then Some (val.Int (pos 5)) else if bytes_eq k (codes "b") then Some (val.Int (pos 6)) else if bytes_eq k (codes "d") then Some (val.Int (pos 8)) else None

abbrev version_of : List ℕ → ℕ
version_of k = if bytes_eq k (codes "a") then 2 else if bytes_eq k (codes "b") then 3 else if bytes_eq k (codes "c") then 5 else if bytes_eq k (codes "d") then 4 else 0

abbrev within : List ℕ → List ℕ → List (List ℕ) → List (List ℕ)
within lo hi [] = []
within lo hi (k ∷ ks) = if not (bytes_lt k lo) && bytes_lt k hi then k ∷ within lo hi ks else within lo hi ks

abbrev base : Versions
base = record { cell = λ t k. cell_of k; version = λ t k. version_of k; keys = λ t lo hi. within lo hi (codes "a" ∷ codes "b" ∷ codes "d" ∷ []) }

abbrev txn : List Stmt → Option (Counted TxnRun)
txn body = txn_run base no_calls [] body []

-- let x = get acct[a]; if x < n { fail "short"; } put acct[a] = x - n; return x - n;
abbrev take : List Stmt
take =
    let_ (codes "x") (rhs.Get (codes "acct") (name (codes "a")))
    ∷ if_ (lt (name (codes "x")) (name (codes "n"))) (fail_ (quoted (codes "short")) ∷ []) None
    ∷ put_ (codes "acct") (name (codes "a")) (sub (name (codes "x")) (name (codes "n")))
    ∷ return_ (sub (name (codes "x")) (name (codes "n"))) ∷ []

abbrev taking : ℕ → Option (Counted TxnRun)
taking n = txn_run base no_calls (codes "a" ∷ codes "n" ∷ []) take (val.Text (codes "a") ∷ val.Int (pos n) ∷ [])

takes : taking 3 ≡ Some (record { run = record { outcome = outcome.Value (val.Int (pos 2)); reads = look.At (codes "acct") (codes "a") 2 ∷ []; writes = (codes "acct", codes "a", Some (val.Int (pos 2))) ∷ [] }; cost = 11 })
unfolding less difference
takes = simp (acted_roll, evaluated_roll)

-- a failed body keeps its looks and none of its writes
is_short : taking 9 ≡ Some (record { run = record { outcome = outcome.Failure (codes "short"); reads = look.At (codes "acct") (codes "a") 2 ∷ []; writes = [] }; cost = 5 })
unfolding less
is_short = simp (acted_roll, evaluated_roll)

abbrev acct : List ℕ
acct = codes "acct"

abbrev pair : List ℕ → ℕ → Val
pair k n = val.List (items_of (val.Text k ∷ val.Int (pos n) ∷ []))

-- A scan gives the body's own writes over the map, and records the map's keys: here b was written, d deleted, bb is new, and z
-- lies past the range.
scans_over_writes : txn (put_ acct (quoted (codes "z")) (num 1) ∷ put_ acct (quoted (codes "b")) (num 9) ∷ delete_ acct (quoted (codes "d")) ∷ put_ acct (quoted (codes "bb")) (num 1)
    ∷ let_ (codes "r") (rhs.Scan acct (quoted (codes "a")) (quoted (codes "z"))) ∷ return_ (name (codes "r")) ∷ [])
    ≡ Some (record {
      run = record {
        outcome = outcome.Value (args (pair (codes "a") 5 ∷ pair (codes "b") 9 ∷ pair (codes "bb") 1 ∷ []));
        reads = look.Range acct (codes "a") (codes "z") ((codes "a", 2) ∷ (codes "b", 3) ∷ (codes "d", 4) ∷ []) ∷ [];
        writes = (acct, codes "b", Some (val.Int (pos 9))) ∷ (acct, codes "bb", Some (val.Int (pos 1))) ∷ (acct, codes "d", None) ∷ (acct, codes "z", Some (val.Int (pos 1))) ∷ [];
      };
      cost = 10;
    })
unfolding list_or_size
scans_over_writes = simp (acted_roll, evaluated_roll)

-- A range with its bounds turned round is recorded without keys. A `get` after a scan that covers the key is recorded once more, and a
-- second one isn't. A deleted key has a version. A `get` of an own write records nothing.
looks_in_order : txn (let_ (codes "r") (rhs.Scan acct (quoted (codes "b")) (quoted (codes "a"))) ∷ let_ (codes "s") (rhs.Scan acct (quoted []) (quoted (codes "b"))) ∷ let_ (codes "x") (rhs.Get acct (quoted (codes "c"))) ∷ let_ (codes "y") (rhs.Get acct (quoted (codes "a")))
    ∷ let_ (codes "z") (rhs.Get acct (quoted (codes "c"))) ∷ put_ acct (quoted (codes "d")) nothing ∷ let_ (codes "u") (rhs.Get acct (quoted (codes "d"))) ∷ let_ (codes "v") (rhs.Scan acct (quoted []) (quoted (codes "b"))) ∷ return_ (name (codes "x")) ∷ [])
    ≡ Some (record {
      run = record {
        outcome = outcome.Value val.Null;
        reads = look.Range acct (codes "b") (codes "a") [] ∷ look.Range acct [] (codes "b") ((codes "a", 2) ∷ []) ∷ look.At acct (codes "c") 5 ∷ look.At acct (codes "a") 2 ∷ [];
        writes = (acct, codes "d", Some val.Null) ∷ [];
      };
      cost = 13;
    })
unfolding list_or_size
looks_in_order = simp (acted_roll, evaluated_roll)

abbrev failed : List ℕ → ℕ → Option (Counted TxnRun)
failed word n = Some (record { run = record { outcome = outcome.Failure word; reads = []; writes = [] }; cost = n })

-- the value is evaluated before the key is tested; an empty key is too short, an empty bound isn't
put_value_first : txn (put_ acct (num 1) (div (num 1) (num 0)) ∷ []) ≡ failed (codes "zero") 4
unfolding quotient
put_value_first = simp (acted_roll, evaluated_roll)

put_at_number : txn (put_ acct (num 1) (num 2) ∷ []) ≡ failed (codes "type") 2
put_at_number = simp (acted_roll, evaluated_roll)

put_at_nothing : txn (put_ acct (quoted []) (num 2) ∷ []) ≡ failed (codes "size") 2
put_at_nothing = simp (acted_roll, evaluated_roll)

-- both bounds are evaluated before the lower one is tested
scan_high_first : txn (let_ (codes "r") (rhs.Scan acct (num 1) (div (num 1) (num 0))) ∷ []) ≡ failed (codes "zero") 4
unfolding quotient
scan_high_first = simp (acted_roll, evaluated_roll)

-- a call in a transaction
calls_in_txn : txn (do_ (ask.Call (codes "notify") []) ∷ []) ≡ None
unfolding list_or_size
calls_in_txn = simp (acted_roll, evaluated_roll)

-- a body that ends without a return gives Null
ends_with_null : txn [] ≡ Some (record { run = record { outcome = outcome.Value val.Null; reads = []; writes = [] }; cost = 0 })
ends_with_null = refl
