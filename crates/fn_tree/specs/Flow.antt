-- What a workflow's body does on a list of answers.
use Rattle.fn_tree.specs.declared.flow.Answer.{Answer}
use Rattle.fn_tree.specs.declared.flow.AskKind.{AskKind}
use Rattle.fn_tree.specs.declared.flow.FlowEnd.{FlowEnd}
use Rattle.fn_tree.specs.declared.flow.Request.{Request}
use Rattle.fn_tree.specs.declared.program.Item.{Item}
use Rattle.fn_tree.specs.declared.stmt.Stmt.{Stmt}
use Rattle.r3_value.specs.declared.value.Outcome.{Outcome}
use Rattle.r3_value.specs.declared.value.Outcome.TheVariants.{Value, Failure}
use Rattle.r3_value.specs.declared.value.Val.{Val}
use Rattle.r3_value.specs.declared.value.Val.TheVariants.{Null, Text}
use Rattle.std.specs.Prelude.{ℕ, suc, List, [], ◌∷◌, length, codes, Option, Some, None, nat_lt, nat_eq, if◌then◌else◌}
use Rattle.std.specs.Str.{bytes_eq}
use Rattle.fn_tree.specs.declared.program.Item.TheVariants as item
use Rattle.fn_tree.specs.declared.flow.AskKind.TheVariants as kind
use Rattle.fn_tree.specs.declared.flow.FlowEnd.TheVariants as flow
use Rattle.fn_tree.specs.Values.{items_of}
use Rattle.fn_tree.specs.Expression.{bound, calls_of}
use Rattle.fn_tree.specs.Declarations.{called, spawned}
use Rattle.fn_tree.specs.Ends.{At, Ends, Goes, Returns, Failed, Asks, Stuck, Effects}
use Rattle.fn_tree.specs.Control.{taken}
use Rattle.fn_tree.specs.Statement.{body_of}
use Rattle.fn_tree.specs.Transaction.{Counted}

-- where a run stands: at the number of the next ask
abbrev pub Place : Type 0
Place = At ℕ

-- what is left of a run
abbrev pub Left : Type 0 → Type 0
Left A = Ends Request ℕ A

-- an ask, which has a number below 1,000; its answer is taken at the next number
abbrev pub ask : AskKind → List ℕ → Val → Place → Left Val
ask k name args at =
    if nat_lt at.world 1000 then Asks (record { n = at.world; kind = k; name = name; args = args }) at (λ o. taken o (record at { world = suc at.world }))
    else Failed (codes "steps") at

abbrev pub ask_or_stuck : Option AskKind → List ℕ → Val → Place → Left Val
ask_or_stuck (Some k) name args at = ask k name args at
ask_or_stuck None name args at = Stuck

-- whether a call is a transaction or an outside call is the program's to say
abbrev pub on_asks : List Item → Effects Request ℕ
on_asks items = record {
  get = λ table k at. Stuck;
  scan = λ table lo hi at. Stuck;
  put = λ table k v at. Stuck;
  delete = λ table k at. Stuck;
  call = λ name n. ask_or_stuck (called items name n) name;
  spawn = λ name n. ask_or_stuck (spawned items name n) name;
  await = λ id. ask kind.Await (codes "await") (Text id);
}

abbrev done : Outcome → ℕ → Option (Counted FlowEnd)
done o cost = Some (record { run = flow.Done o; cost = cost })

-- What is left of a run, on a list of answers: it is done, it asks for more than was recorded, or it asks for another name.
-- Answers that are left over are ignored.
abbrev pub answered : Left (Unit {0}) → List Answer → Option (Counted FlowEnd)
answered (Goes a at) answers = done (Value Null) at.cost
answered (Returns v at) answers = done (Value v) at.cost
answered (Failed word at) answers = done (Failure word) at.cost
answered (Asks q at next) [] = Some (record { run = flow.Asks q; cost = at.cost })
answered (Asks q at next) (a ∷ answers) =
    if bytes_eq a.name q.name then answered (next a.outcome) answers
    else Some (record { run = flow.Unexpected q.n a.name q.name; cost = at.cost })
answered Stuck answers = None

-- the whole run of a workflow's body, from 100,000 units
abbrev pub flow_begun : List Item → List (List ℕ) → List Stmt → List Val → Left (Unit {0})
flow_begun items params body args =
    body_of (on_asks items) (calls_of items) body (record { env = bound params args; world = 0; units = 100000; cost = 0 })

-- the run of a flow on arguments that must be a list of its length
abbrev pub begun_on : List Item → List (List ℕ) → List Stmt → Option (List Val) → Left (Unit {0})
begun_on items params body (Some args) =
    if nat_eq (length params) (length args) then flow_begun items params body args
    else Failed (codes "arity") (record { env = []; world = 0; units = 100000; cost = 0 })
begun_on items params body None = Failed (codes "arity") (record { env = []; world = 0; units = 100000; cost = 0 })

abbrev pub begun_among : List Item → List Item → List ℕ → Option (List Val) → Left (Unit {0})
begun_among items [] name args = Failed (codes "unknown_function") (record { env = []; world = 0; units = 100000; cost = 0 })
begun_among items (item.Flow x params body ∷ rest) name args =
    if bytes_eq x name then begun_on items params body args else begun_among items rest name args
begun_among items (i ∷ rest) name args = begun_among items rest name args

-- the run of a program's workflow, from its name and its arguments
abbrev pub flow_of : List Item → List ℕ → Val → Left (Unit {0})
flow_of items name args = begun_among items items name (items_of args)

-- A workflow's run on a list of answers. There is none where the body is stuck, which no sound program's is.
abbrev pub flow_meaning : List Item → List ℕ → Val → List Answer → Option (Counted FlowEnd)
flow_meaning items name args answers = answered (flow_of items name args) answers
