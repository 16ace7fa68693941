-- A run from a later count, on a list of answers.
use Rattle.std.proofs.Common.{◌≡◌, subst, ℕ, ◌+◌, ◌≤◌, ◌*◌, Bool, true, false, true, List, [], ◌∷◌, Option, Some, None, refl, ap, sym, ◌∙◌, arith, zero-add, add_comm}
use Rattle.std.specs.Prelude.{if◌then◌else◌, drop}
use Rattle.std.specs.Str.{bytes_eq}
use Rattle.r3_value.specs.declared.value.Val.{Val}
use Rattle.r3_value.specs.declared.value.Outcome.{Outcome}
use Rattle.fn_tree.specs.declared.flow.Answer.{Answer}
use Rattle.fn_tree.specs.declared.flow.FlowEnd.{FlowEnd}
use Rattle.fn_tree.specs.declared.flow.FlowEnd.TheVariants as flow
use Rattle.fn_tree.specs.declared.program.Item.{Item}
use Rattle.fn_tree.specs.declared.stmt.Stmt.{Stmt}
use Rattle.fn_tree.specs.Expression.{bound, calls_of}
use Rattle.fn_tree.specs.Cost.{later, raised_ends, FlowsShift}
use Rattle.fn_tree.specs.Ends.{At, Ends, Goes, Returns, Failed, Asks, Stuck}
use Rattle.fn_tree.specs.Evaluation.{Binding}
use Rattle.fn_tree.specs.Statement.{body_of}
use Rattle.fn_tree.specs.Transaction.{Counted}
use Rattle.fn_tree.specs.Flow.{Left, on_asks, answered, flow_begun, flow_meaning}
use Rattle.fn_tree.specs.Declarations.{is_some}
use Rattle.fn_meaning.specs.Budget.{FlowsEnd}
use Rattle.fn_meaning.specs.Nodes.{in_program}
use Rattle.fn_walk.specs.Runs.{place_at}
use Rattle.fn_flow.specs.Listed.{on_list, end_of}
use Rattle.fn_flow.specs.Runs.{Runs, RunsOrStuck, counted}
use Rattle.fn_flow.proofs.FollowLemmas.{body_tracks, same_end}

-- the same run with the count raised
abbrev raised_run : ℕ → Option (Counted FlowEnd) → Option (Counted FlowEnd)
raised_run k (Some r) = Some (record { run = r.run; cost = r.cost + k })
raised_run k None = None

if_raised_run : (b : Bool) (k : ℕ) (x x' y : Option (Counted FlowEnd)) → x' ≡ raised_run k x → (if b then x' else raised_run k y) ≡ raised_run k (if b then x else y)
if_raised_run true k x x' y e = e
if_raised_run false k x x' y e = refl

answered_raised : (k : ℕ) (d : Left (Unit {0})) (answers : List Answer) → answered (raised_ends k d) answers ≡ raised_run k (answered d answers)
answered_raised k (Goes a at) answers = refl
answered_raised k (Returns v at) answers = refl
answered_raised k (Failed word at) answers = refl
answered_raised k (Asks q at next) [] = refl
answered_raised k (Asks q at next) (a ∷ answers) =
    if_raised_run (bytes_eq a.name q.name) k (answered (next a.outcome) answers) _ (Some (record { run = flow.Unexpected q.n a.name q.name; cost = at.cost })) (answered_raised k (next a.outcome) answers)
answered_raised k Stuck answers = refl

-- the run on a list is the meaning's, from a later count
pub listed_is : FlowsShift → (items : List Item) (params : List (List ℕ)) (body : List Stmt) (args : List Val) (answers : List Answer) (k : ℕ) → end_of answers (body_of (on_list answers items) (calls_of items) body (place_at (bound params args) 0 100000 k)) ≡ raised_run k (answered (flow_begun items params body args) answers)
listed_is shift items params body args answers k =
    let from : At ℕ = record { env = bound params args; world = 0; units = 100000; cost = 0 } in
    let one : Left (Unit {0}) = body_of (on_asks items) (calls_of items) body (place_at (bound params args) 0 100000 k) in
    sym (same_end answers 0 one _ (body_tracks answers items (calls_of items) body (place_at (bound params args) 0 100000 k)))
    ∙ ap (λ n. answered (body_of (on_asks items) (calls_of items) body (place_at (bound params args) 0 100000 n)) answers) (sym (zero-add k))
    ∙ ap (λ d. answered d answers) (shift items body from k)
    ∙ answered_raised k (flow_begun items params body args) answers

abbrev the_run : FlowEnd → Option (Counted FlowEnd) → FlowEnd
the_run e (Some r) = r.run
the_run e None = e

abbrev the_cost : Option (Counted FlowEnd) → ℕ
the_cost (Some r) = r.cost
the_cost None = 0

some_not_none : (r : Counted FlowEnd) → Some r ≡ None → ⊥
some_not_none r e = cc

-- what a counted run answers, from the run with the count raised
pub runs_from : (meaning : Option (Counted FlowEnd)) (k now : ℕ) (run : Option FlowEnd) → counted run now ≡ raised_run k meaning → RunsOrStuck meaning run k now
runs_from None k now None e = refl
runs_from None k now (Some run) e = absurd (some_not_none _ e)
runs_from (Some r) k now None e = absurd (some_not_none _ (sym e))
runs_from (Some r) k now (Some run) e =
    record {
      cost = r.cost;
      same = ap (λ x. Some (record { run = x; cost = r.cost })) (sym (ap (the_run run) e));
      rose = ap the_cost e ∙ add_comm r.cost k;
    }

pub known : FlowsShift → (items : List Item) (params : List (List ℕ)) (body : List Stmt) (args args' : List Val) (answers : List Answer) (k now : ℕ) (run : Option FlowEnd) → args' ≡ args → end_of answers (body_of (on_list answers items) (calls_of items) body (place_at (bound params args') 0 100000 k)) ≡ counted run now → RunsOrStuck (answered (flow_begun items params body args) answers) run k now
known shift items params body args args' answers k now run is e =
    runs_from (answered (flow_begun items params body args) answers) k now run
    (sym e ∙ ap (λ vs. end_of answers (body_of (on_list answers items) (calls_of items) body (place_at (bound params vs) 0 100000 k))) is ∙ listed_is shift items params body args answers k)

-- a run that evaluates nothing
pub ran_nothing : (meaning : Option (Counted FlowEnd)) (run : FlowEnd) (k : ℕ) → meaning ≡ Some (record { run = run; cost = 0 }) → Runs meaning run k k
ran_nothing meaning run k e = record { cost = 0; same = e; rose = omega arith }

pub never : (meaning : Option (Counted FlowEnd)) → meaning ≡ None → is_some meaning ≡ true → ⊥
never None e h = absurd cc
never (Some r) e h = some_not_none r e

pub within : FlowsEnd → (items : List Item) (name : List ℕ) (args : Val) (answers : List Answer) (run : FlowEnd) (k now : ℕ) → Runs (flow_meaning items name args answers) run k now → now ≤ k + in_program items * 100001
within ends items name args answers run k now r =
    let few = ends items name args answers (record { run = run; cost = r.cost }) r.same in
    omega (arith, r.rose, few)
