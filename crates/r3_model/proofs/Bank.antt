-- The functions of a bank, as a language.
use Rattle.std.proofs.Common.{ℕ, suc, zero, List, [], ◌∷◌, Option, Some, None, ℤ, pos}
use Rattle.std.specs.Prelude.{codes, bytes_eq, if◌then◌else◌, ◌+ℤ◌, ◌-ℤ◌, int_lt}
use Rattle.r3_value.specs.Value.{Items, no_items, item}
use Rattle.r3_value.specs.declared.value.Val.{Val}
use Rattle.r3_value.specs.declared.value.Val.TheVariants.{Null, Int, Text as TextVal, List as ListOf}
use Rattle.r3_value.specs.declared.value.Outcome.TheVariants as outcomes
use Rattle.r3_value.specs.View.{value_of, val_of}
use Rattle.fn_tree.specs.declared.look.Look.{Look}
use Rattle.fn_tree.specs.declared.look.Look.TheVariants.{At}
use Rattle.r3_model.specs.Language.{Text, Language}
use Rattle.fn_tree.specs.declared.flow.Answer.{Answer}
use Rattle.fn_tree.specs.declared.flow.AskKind.{AskKind}
use Rattle.fn_tree.specs.declared.flow.AskKind.TheVariants as asking
use Rattle.fn_tree.specs.declared.flow.FlowEnd.{FlowEnd}
use Rattle.fn_tree.specs.declared.flow.FlowEnd.TheVariants.{Done, Asks, Unexpected}
use Rattle.fn_tree.specs.Writes.{Versions, Write as Put}
use Rattle.fn_tree.specs.declared.look.TxnRun.{TxnRun}

-- ---- small ways to write bodies

-- asks, and goes on with the value
abbrev ask : ℕ → AskKind → Text → Val → (Val → List Answer → FlowEnd) → List Answer → FlowEnd
ask n kind name args go [] = Asks (record { n = n; kind = kind; name = name; args = args })
ask n kind name args go (a ∷ rest) =
    if bytes_eq a.name name then elim a.outcome [ outcomes.Value v ↦ go v rest | outcomes.Failure word ↦ Done (outcomes.Failure word) ]
    else Unexpected n a.name name

abbrev give : Val → List Answer → FlowEnd
give v rest = Done (outcomes.Value v)

abbrev pub args3 : Val → Val → Val → Val
args3 a b c = ListOf (item (value_of a) (item (value_of b) (item (value_of c) no_items)))

abbrev pub args2 : Val → Val → Val
args2 a b = ListOf (item (value_of a) (item (value_of b) no_items))

abbrev pub args1 : Val → Val
args1 a = ListOf (item (value_of a) no_items)

abbrev place : ℕ → Items → Val
place n no_items = Null
place zero (item v vs) = val_of v
place (suc n) (item v vs) = place n vs

abbrev arg : ℕ → Val → Val
arg n (ListOf vs) = place n vs
arg n v = Null

abbrev text_of : Val → Text
text_of (TextVal s) = s
text_of v = []

abbrev int_of : Val → ℤ
int_of (Int z) = z
int_of v = pos 0

abbrev int_at : Option Val → ℤ
int_at None = pos 0
int_at (Some v) = int_of v

-- ---- the workflows

abbrev pay_name : Text
pay_name = codes "pay"

abbrev send : Val → List Answer → FlowEnd
send args = ask 0 asking.Txn (codes "pay") args give

abbrev draw : Val → List Answer → FlowEnd
draw args = ask 0 asking.Txn (codes "take") args give

abbrev move : Val → List Answer → FlowEnd
move args = ask 0 asking.Txn (codes "pay") args (λ r. ask 1 asking.Outside (codes "notify") (args2 (arg 1 args) r) (λ n. give r))

abbrev both : Val → List Answer → FlowEnd
both args = ask 0 asking.Child (codes "send") args (λ c. ask 1 asking.Await (codes "await") c give)

abbrev waits : Val → List Answer → FlowEnd
waits args = ask 0 asking.Await (codes "await") (arg 0 args) give

abbrev flow : Text → Val → List Answer → FlowEnd
flow name args answers =
    if bytes_eq name (codes "send") then send args answers
    else if bytes_eq name (codes "move") then move args answers
    else if bytes_eq name (codes "draw") then draw args answers
    else if bytes_eq name (codes "both") then both args answers
    else if bytes_eq name (codes "wait") then waits args answers
    else Done (outcomes.Failure (codes "unknown_function"))

abbrev arity : Text → Option ℕ
arity name =
    if bytes_eq name (codes "send") then Some 3
    else if bytes_eq name (codes "move") then Some 3
    else if bytes_eq name (codes "draw") then Some 3
    else if bytes_eq name (codes "both") then Some 3
    else if bytes_eq name (codes "wait") then Some 1
    else None

-- ---- the transactions, on two rows

abbrev acct : Text
acct = codes "acct"

abbrev put_int : Text → ℤ → Put
put_int key z = (acct, key, Some (Int z))

abbrev reads_two : Versions → Text → Text → List Look
reads_two m a b = At acct a (m.version acct a) ∷ At acct b (m.version acct b) ∷ []

-- (for a before b)
abbrev pay_on : Versions → Text → Text → ℤ → TxnRun
pay_on m a b n = record {
  outcome = outcomes.Value (Int n);
  reads = reads_two m a b;
  writes = put_int a (int_at (m.cell acct a) -ℤ n) ∷ put_int b (int_at (m.cell acct b) +ℤ n) ∷ [];
}

abbrev take_on : Versions → Text → Text → ℤ → TxnRun
take_on m a b n =
    if int_lt (int_at (m.cell acct a) +ℤ int_at (m.cell acct b)) n
    then record { outcome = outcomes.Failure (codes "short"); reads = reads_two m a b; writes = [] }
    else record { outcome = outcomes.Value (Int (int_at (m.cell acct a) -ℤ n)); reads = reads_two m a b; writes = put_int a (int_at (m.cell acct a) -ℤ n) ∷ [] }

abbrev txn : Text → Val → Versions → TxnRun
txn name args m =
    if bytes_eq name (codes "pay") then pay_on m (text_of (arg 0 args)) (text_of (arg 1 args)) (int_of (arg 2 args))
    else take_on m (text_of (arg 0 args)) (text_of (arg 1 args)) (int_of (arg 2 args))

abbrev pub bank : Language
bank = record {
  has_table = λ name. bytes_eq name acct;
  queues = record { name = codes "mail"; bound = 1 } ∷ [];
  arity = arity;
  flow = flow;
  txn = txn;
}

-- ---- the same bank with a fee of 1

abbrev fee_run : Versions → Text → Text → ℤ → TxnRun
fee_run m a b n = record {
  outcome = outcomes.Value (Int (n -ℤ pos 1));
  reads = reads_two m a b;
  writes = put_int a (int_at (m.cell acct a) -ℤ n) ∷ put_int b ((int_at (m.cell acct b) +ℤ n) -ℤ pos 1) ∷ [];
}

abbrev fee_txn : Text → Val → Versions → TxnRun
fee_txn name args m =
    if bytes_eq name (codes "pay") then fee_run m (text_of (arg 0 args)) (text_of (arg 1 args)) (int_of (arg 2 args))
    else take_on m (text_of (arg 0 args)) (text_of (arg 1 args)) (int_of (arg 2 args))

abbrev pub fee : Language
fee = record bank { txn = fee_txn }
