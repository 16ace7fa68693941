-- What the asks of a workflow come to.
use Rattle.std.proofs.Common.{◌≡◌, ℕ, ◌+◌, List, length, Option, Some, None, Ok, Err, refl, ap, ◌∙◌}
use Rattle.std.specs.Prelude.{OnErr}
use Rattle.std.specs.declared.result.Result.{Result}
use Rattle.r3_value.specs.declared.value.Outcome.{Outcome}
use Rattle.r3_entry.specs.declared.entry.Entry.{Entry}
use Rattle.fn_tree.specs.declared.flow.AskKind.{AskKind}
use Rattle.fn_tree.specs.declared.flow.AskKind.TheVariants as asking
use Rattle.fn_tree.specs.declared.flow.FlowEnd.TheVariants.{Asks}
use Rattle.fn_tree.specs.declared.flow.Request.{Request}
use Rattle.sys_flow.specs.Awaits.{awaited_of}
use Rattle.sys_flow.specs.Children.{child_id}
use Rattle.r3_model.specs.Event as reply
use Rattle.r3_model.specs.Given.{Given, Enters}
use Rattle.r3_model.specs.Language.{Language, Text}
use Rattle.r3_model.specs.Turns.{asked, asks_outside, await_turn, child_or_id, now, text_of}
use Rattle.r3_exec.specs.Turning.{Comes}
use Rattle.r3_exec.specs.declared.turning.Turning.TheVariants as turns

pub on_err : {A E : Type 0} (r : Result A E) (F : Type 0) → F → OnErr r F
on_err (Ok a) F f = tt {0}
on_err (Err e) F f = f

abbrev called_for : Request → AskKind → Option Request
called_for q asking.Txn = None
called_for q asking.Outside = Some q
called_for q asking.Child = None
called_for q asking.Await = None

call_by : (P : Language) (h : List Entry) (id : Text) (q : Request) (k : AskKind) → q.kind ≡ k → asks_outside P h id (Asks q) ≡ called_for q k
call_by P h id q k kind = called_as q q.kind ∙ ap (λ (x : AskKind). called_for q x) kind
  where
    called_as : (r : Request) (x : AskKind) → elim x [ asking.Txn ↦ None | asking.Outside ↦ Some r | asking.Child ↦ None | asking.Await ↦ None ] ≡ called_for r x
    called_as r asking.Txn = refl
    called_as r asking.Outside = refl
    called_as r asking.Child = refl
    called_as r asking.Await = refl

module _ (P : Language) (h : List Entry) (id : Text) (q : Request) where
  abbrev Asked : Type 0
  Asked = Option ℕ → Option Outcome → Given

  pub child_comes : (e : Entry) → q.kind ≡ asking.Child → child_or_id P h id q (child_id id q.n) ≡ Enters e (reply.Entry (length h + 1))
      → Comes P h id (λ snap answer. asked P h id snap answer q.kind q) (asks_outside P h id (Asks q)) (turns.Enters e)
  child_comes e kind is = (λ snap answer. ap (λ (k : AskKind). asked P h id snap answer k q) kind ∙ is, call_by P h id q asking.Child kind)

  pub await_comes : (g : Given) → q.kind ≡ asking.Await → await_turn P h id q (text_of q.args) (awaited_of (now P h id (text_of q.args))) ≡ g
      → ((snap : Option ℕ) (answer : Option Outcome) → asked P h id snap answer q.kind q ≡ g) × (asks_outside P h id (Asks q) ≡ None)
  await_comes given kind is = (λ snap answer. ap (λ (k : AskKind). asked P h id snap answer k q) kind ∙ is, call_by P h id q asking.Await kind)
