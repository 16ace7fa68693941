-- A workflow's body whose asks are answered from a list, and how it ends.
use Rattle.fn_tree.specs.declared.flow.Answer.{Answer}
use Rattle.fn_tree.specs.declared.flow.AskKind.{AskKind}
use Rattle.fn_tree.specs.declared.flow.FlowEnd.{FlowEnd}
use Rattle.fn_tree.specs.declared.flow.Request.{Request}
use Rattle.fn_tree.specs.declared.program.Item.{Item}
use Rattle.fn_tree.specs.declared.flow.AskKind.TheVariants as kind
use Rattle.fn_tree.specs.declared.flow.FlowEnd.TheVariants as flow
use Rattle.r3_value.specs.declared.value.Outcome.{Outcome}
use Rattle.r3_value.specs.declared.value.Outcome.TheVariants.{Value, Failure}
use Rattle.r3_value.specs.declared.value.Val.{Val}
use Rattle.r3_value.specs.declared.value.Val.TheVariants.{Null, Text}
use Rattle.std.specs.Prelude.{ℕ, suc, List, codes, Option, Some, None, nat_lt, if◌then◌else◌, slice_get}
use Rattle.std.specs.Str.{bytes_eq}
use Rattle.fn_tree.specs.Declarations.{called, spawned}
use Rattle.fn_tree.specs.Ends.{At, Ends, Goes, Returns, Failed, Asks, Stuck, Effects}
use Rattle.fn_tree.specs.Control.{taken}
use Rattle.fn_tree.specs.Transaction.{Counted}
use Rattle.fn_tree.specs.Flow.{Place, Left}

-- an ask whose answer is known by its number and has its name goes on with it; any other ends the run
abbrev pub answered_by : Option Answer → Request → Place → Left Val
answered_by None q at = Asks q at (λ o. Stuck)
answered_by (Some a) q at =
    if bytes_eq a.name q.name then taken a.outcome (record at { world = suc at.world }) else Asks q at (λ o. Stuck)

module _ (answers : List Answer) where
  abbrev pub ask_listed : AskKind → List ℕ → Val → Place → Left Val
  ask_listed k name args at =
      if nat_lt at.world 1000 then answered_by (slice_get answers at.world) (record { n = at.world; kind = k; name = name; args = args }) at
      else Failed (codes "steps") at

  abbrev pub ask_listed_or_stuck : Option AskKind → List ℕ → Val → Place → Left Val
  ask_listed_or_stuck (Some k) name args at = ask_listed k name args at
  ask_listed_or_stuck None name args at = Stuck

  abbrev pub on_list : List Item → Effects Request ℕ
  on_list items = record {
    get = λ table k at. Stuck;
    scan = λ table lo hi at. Stuck;
    put = λ table k v at. Stuck;
    delete = λ table k at. Stuck;
    call = λ name n. ask_listed_or_stuck (called items name n) name;
    spawn = λ name n. ask_listed_or_stuck (spawned items name n) name;
    await = λ id. ask_listed kind.Await (codes "await") (Text id);
  }

  -- the run asks for more than was recorded, or for another name
  abbrev pub stopped_at : Option Answer → Request → ℕ → Option (Counted FlowEnd)
  stopped_at None q cost = Some (record { run = flow.Asks q; cost = cost })
  stopped_at (Some a) q cost = Some (record { run = flow.Unexpected q.n a.name q.name; cost = cost })

  abbrev pub ended_as : Outcome → ℕ → Option (Counted FlowEnd)
  ended_as o cost = Some (record { run = flow.Done o; cost = cost })

  abbrev pub end_of : Left (Unit {0}) → Option (Counted FlowEnd)
  end_of (Goes a at) = ended_as (Value Null) at.cost
  end_of (Returns v at) = ended_as (Value v) at.cost
  end_of (Failed word at) = ended_as (Failure word) at.cost
  end_of (Asks q at next) = stopped_at (slice_get answers at.world) q at.cost
  end_of Stuck = None
