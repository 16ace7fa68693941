-- What a turn comes to on a formed history is within the limits.
use Rattle.std.proofs.Common.{◌≡◌, ℕ, ◌+◌, ◌<◌, ◌≤◌, suc, zero, List, [], ◌∷◌, ◌++◌, map, length, Option, Some, None, refl, subst, arith}
use Rattle.std.specs.List.{AllByRecursion}
use Rattle.r3_value.specs.declared.value.Val.{Val}
use Rattle.r3_value.specs.declared.value.Outcome.{Outcome}
use Rattle.r3_rows.specs.declared.rows.FlowRow.{FlowRow}
use Rattle.r3_rows.specs.declared.rows.StepRow.{StepRow}
use Rattle.r3_rows.specs.declared.rows.StepKind.TheVariants as kinds
use Rattle.r3_entry.specs.declared.entry.Entry.{Entry}
use Rattle.r3_entry.specs.Formed.{IsFormed}
use Rattle.r3_entry.specs.Limits.{IsWrite, IsId, IsStep, IsOutcome, IsArgs, IsName, IsRowKey, IsVal, IsRead, IfThere}
use Rattle.fn_tree.specs.Writes.{Write as Put}
use Rattle.r3_model.specs.Language.{Text, Language}
use Rattle.fn_tree.specs.declared.flow.Request.{Request}
use Rattle.fn_tree.specs.declared.flow.FlowEnd.TheVariants.{Done, Asks}
use Rattle.fn_tree.specs.declared.flow.AskKind.{AskKind}
use Rattle.fn_tree.specs.declared.flow.AskKind.TheVariants as asking
use Rattle.r3_model.specs.Rows.{flow_at, step_at, steps_from, steps_at, answer_of, view_at}
use Rattle.r3_model.specs.Acts.{Writes, put_write, read_of, value_cell, step_write, step_row, txn_entry}
use Rattle.r3_model.specs.Turns.{flow_end, run_on}
use Rattle.r3_model.specs.Lawful.{IsLawful, IsLimited, Counts, EndsWell, AreAnswers, HasArgs, IsPut}
use Rattle.r3_laws.proofs.Frame.{from_row}
use Rattle.r3_laws.proofs.Limits.{flow-fits, step-fits, view-sound}

module _ (h : List Entry) (formed : IsFormed h) where
  abbrev AreSteps : List StepRow → Type 0
  AreSteps rows = AllByRecursion IsStep rows

  by_row : (id : Text) (n : ℕ) (more : List StepRow) (o : Option StepRow) → step_at h (length h) id n ≡ o → AreSteps more → AreSteps (from_row o more)
  by_row id n more None is all = tt
  by_row id n more (Some r) is all = ((step-fits h formed id n r is).1, all)

  from-fit : (id : Text) (most n : ℕ) → AreSteps (steps_from h (length h) most id n)
  from-fit id zero n = tt
  from-fit id (suc most) n = by_row id n (steps_from h (length h) most id (n + 1)) (step_at h (length h) id n) refl (from-fit id most (n + 1))

  -- the recorded steps are within the limits
  pub steps-fit : (id : Text) → AreSteps (steps_at h (length h) id)
  steps-fit id = from-fit id 1000 0

  answers-fit : (rows : List StepRow) → AreSteps rows → AreAnswers (map answer_of rows)
  answers-fit [] all = tt
  answers-fit (r ∷ rs) all = (all.0.outcome, answers-fit rs all.1)

  -- and so is what a workflow comes to on them
  pub end-fits : (P : Language) → IsLimited P → (id : Text) (row : FlowRow) → flow_at h (length h) id ≡ Some row → EndsWell (flow_end P h id row)
  end-fits P limited id row there =
      limited.ends row.function row.args (map answer_of (steps_at h (length h) id)) (flow-fits h formed id row there).1.args (answers-fit (steps_at h (length h) id) (steps-fit id))

  pub done-fits : (P : Language) → IsLimited P → (id : Text) (row : FlowRow) (o : Outcome) → flow_at h (length h) id ≡ Some row → flow_end P h id row ≡ Done o → IsOutcome o
  done-fits P limited id row o there ends = subst EndsWell ends (end-fits P limited id row there)

  pub asks-fit : (P : Language) → IsLimited P → (id : Text) (row : FlowRow) (q : Request) → flow_at h (length h) id ≡ Some row → flow_end P h id row ≡ Asks q → IsName q.name × HasArgs q.kind q.args
  asks-fit P limited id row q there ends = subst EndsWell ends (end-fits P limited id row there)

-- ---- what a body writes

put-fits : (p : Put) (v : Option Val) → IsName p.0 × IsRowKey p.1 → IfThere IsVal v → IsWrite ((put_write p).0, value_cell v)
put-fits p None key value = (key, tt)
put-fits p (Some v) key value = (key, value)

puts-fit : (puts : List Put) (rest : Writes) → AllByRecursion IsPut puts → AllByRecursion IsWrite rest → AllByRecursion IsWrite (map put_write puts ++ rest)
puts-fit [] rest all others = others
puts-fit (p ∷ ps) rest all others = (put-fits p p.2 (all.0.0, all.0.1) all.0.2, puts-fit ps rest all.1 others)

args-of : (kind : AskKind) (args : Val) → kind ≡ asking.Txn → HasArgs kind args → IsArgs args
args-of kind args is has = let Of : AskKind → Type 0 = λ k. HasArgs k args in subst Of is has

-- the entry of a transaction records what is within the limits
pub record TxnFits (P : Language) (h : List Entry) (id : Text) (q : Request) (s : ℕ) : Type 0 where
  pub args : IsArgs q.args
  pub reads : AllByRecursion IsRead (map read_of (run_on P h id s q).reads)
  pub writes : AllByRecursion IsWrite (txn_entry h id q s (run_on P h id s q)).writes
  pub id_is : IsId id
  pub number : q.n < 1000

module _ (P : Language) (lawful : IsLawful P) (limited : IsLimited P) (h : List Entry) (formed : IsFormed h) where
  pub few_steps : (id : Text) (row : FlowRow) (q : Request) → flow_end P h id row ≡ Asks q → q.n < 1000
  few_steps id row q ends =
      let n : ℕ = length (map answer_of (steps_at h (length h) id)) in
      let c : (q.n ≡ n) × (n < 1000) = subst (Counts n) ends (lawful.counts row.function row.args (map answer_of (steps_at h (length h) id))) in
      omega (arith, c.0, c.1)

  pub txn-fits : (id : Text) (row : FlowRow) (q : Request) (s : ℕ) → flow_at h (length h) id ≡ Some row → flow_end P h id row ≡ Asks q → q.kind ≡ asking.Txn → s ≤ length h → TxnFits P h id q s
  txn-fits id row q s there ends kind le =
      let asked = asks-fit h formed P limited id row q there ends in
      let args : IsArgs q.args = args-of q.kind q.args kind asked.1 in
      let run = limited.runs q.name q.args (view_at h s) args (view-sound h formed s le) in
      let id_is : IsId id = (flow-fits h formed id row there).0 in
      record {
        args = args;
        reads = run.looks;
        writes = puts-fit (run_on P h id s q).writes (step_write id q.n (step_row q.name kinds.Txn (run_on P h id s q).outcome) ∷ []) run.puts (((id_is, few_steps id row q ends), record { name = asked.0; outcome = run.outcome }), tt);
        id_is = id_is;
        number = few_steps id row q ends;
      }
