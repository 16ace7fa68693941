-- A run from a later count.
use Rattle.std.proofs.Common.{◌≡◌, subst, ℕ, ◌+◌, ◌≤◌, ◌*◌, true, List, [], ◌∷◌, Option, Some, None, refl, ap, sym, ◌∙◌, arith, zero-add, add_comm}
use Rattle.r3_value.specs.declared.value.Val.{Val}
use Rattle.fn_tree.specs.declared.look.TxnRun.{TxnRun}
use Rattle.fn_tree.specs.declared.program.Item.{Item}
use Rattle.fn_tree.specs.declared.stmt.Stmt.{Stmt}
use Rattle.fn_tree.specs.Expression.{bound, calls_of}
use Rattle.fn_tree.specs.Cost.{later, raised_ends, TransactionsShift}
use Rattle.fn_tree.specs.Ends.{At, Ends, Goes, Returns, Failed, Asks, Stuck}
use Rattle.fn_tree.specs.Statement.{body_of}
use Rattle.fn_tree.specs.Transaction.{Counted, on_versions, txn_end, txn_run, txn_meaning}
use Rattle.fn_tree.specs.Writes.{Log, Never, Versions}
use Rattle.fn_tree.specs.Declarations.{is_some}
use Rattle.fn_meaning.specs.Budget.{TransactionsEnd}
use Rattle.fn_meaning.specs.Nodes.{in_program}
use Rattle.fn_walk.specs.Runs.{place_at}
use Rattle.fn_txn.specs.Runs.{Runs, RunsOrStuck, counted}

-- the same run with the count raised
abbrev raised_run : ℕ → Option (Counted TxnRun) → Option (Counted TxnRun)
raised_run k (Some r) = Some (record { run = r.run; cost = r.cost + k })
raised_run k None = None

end_raised : (k : ℕ) (d : Ends Never Log (Unit {0})) → txn_end (raised_ends k d) ≡ raised_run k (txn_end d)
end_raised k (Goes a at) = refl
end_raised k (Returns v at) = refl
end_raised k (Failed word at) = refl
end_raised k (Asks q at next) = refl
end_raised k Stuck = refl

-- a body from a later count
body_raised : TransactionsShift → (items : List Item) (base : Versions) (params : List (List ℕ)) (body : List Stmt) (args : List Val) (k : ℕ) → txn_end (body_of (on_versions base) (calls_of items) body (place_at (bound params args) (record { looks = []; writes = [] }) 100000 k)) ≡ raised_run k (txn_run base (calls_of items) params body args)
body_raised shift items base params body args k =
    let from : At Log = record { env = bound params args; world = record { looks = []; writes = [] }; units = 100000; cost = 0 } in
    ap (λ n. txn_end (body_of (on_versions base) (calls_of items) body (place_at (bound params args) (record { looks = []; writes = [] }) 100000 n))) (sym (zero-add k))
    ∙ ap txn_end (shift items base body from k)
    ∙ end_raised k (body_of (on_versions base) (calls_of items) body from)

abbrev the_run : TxnRun → Option (Counted TxnRun) → TxnRun
the_run e (Some r) = r.run
the_run e None = e

abbrev the_cost : Option (Counted TxnRun) → ℕ
the_cost (Some r) = r.cost
the_cost None = 0

some_not_none : (r : Counted TxnRun) → Some r ≡ None → ⊥
some_not_none r e = cc

runs_from : (meaning : Option (Counted TxnRun)) (k now : ℕ) (run : Option TxnRun) → counted run now ≡ raised_run k meaning → RunsOrStuck meaning run k now
runs_from None k now None e = refl
runs_from None k now (Some run) e = absurd (some_not_none _ e)
runs_from (Some r) k now None e = absurd (some_not_none _ (sym e))
runs_from (Some r) k now (Some run) e =
    record {
      cost = r.cost;
      same = ap (λ x. Some (record { run = x; cost = r.cost })) (sym (ap (the_run run) e));
      rose = ap the_cost e ∙ add_comm r.cost k;
    }

pub known : TransactionsShift → (items : List Item) (base : Versions) (params : List (List ℕ)) (body : List Stmt) (args args' : List Val) (k now : ℕ) (run : Option TxnRun) → args' ≡ args → txn_end (body_of (on_versions base) (calls_of items) body (place_at (bound params args') (record { looks = []; writes = [] }) 100000 k)) ≡ counted run now → RunsOrStuck (txn_run base (calls_of items) params body args) run k now
known shift items base params body args args' k now run is e =
    runs_from (txn_run base (calls_of items) params body args) k now run
    (sym e ∙ ap (λ vs. txn_end (body_of (on_versions base) (calls_of items) body (place_at (bound params vs) (record { looks = []; writes = [] }) 100000 k))) is ∙ body_raised shift items base params body args k)

pub never : (meaning : Option (Counted TxnRun)) → meaning ≡ None → is_some meaning ≡ true → ⊥
never None e h = absurd cc
never (Some r) e h = some_not_none r e

pub within : TransactionsEnd → (items : List Item) (base : Versions) (name : List ℕ) (args : List Val) (run : TxnRun) (k now : ℕ) → Runs (txn_meaning items base name args) run k now → now ≤ k + in_program items * 100001
within ends items base name args run k now r =
    let few = ends items base name args (record { run = run; cost = r.cost }) r.same in
    omega (arith, r.rose, few)
