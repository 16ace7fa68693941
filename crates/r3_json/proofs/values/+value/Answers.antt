use Rattle.std.proofs.Common.{◌≡◌, ◌+◌, ◌⊎◌, Err, Ok, sym, ap, ◌∙◌, subst, arith}
use Rattle.std.proofs.lemmas.Result.{err_from_is_err_and}
use Rattle.serde_json.specs.View.{items_view}
use Rattle.r3_value.specs.View.{items_of}
use Rattle.r3_json.specs.declared.fault.JsonFault.TheVariants.{Memory}
use Rattle.r3_json.specs.Values.{values_from}
use Rattle.r3_json.proofs.Items.{after, rest_from, grown, stopped, ended}
use Rattle.r3_json.proofs.values.+value.Goals as goal

pub values_of-loop-item-preserved : goal.values_of-loop-item-preserved
values_of-loop-item-preserved t c =
    let js = c.deref-item-items.result.now in
    let i = c.loop-item.item-index in
    grown js i c.item-item.result c.loop-item.values.items c.in_ok-value.value c.loop-item-test.true c.item-item.is c.loop-item.invariant c.in_ok-value.ensures.ok
    ∙ ap (λ vs. after vs (rest_from js (i + 1))) (sym c.in_ok-push.ensures.items)

pub values_of-returns-in_err-value-clause-fault : goal.values_of-returns-in_err-value-clause-fault
values_of-returns-in_err-value-clause-fault t c =
    let p = err_from_is_err_and c.from_residual.result c.from_residual.ensures.1 in
    let e = c.in_err-value.field-0.0 in
    let fault = stopped c.deref-item-items.result.now c.loop-item.item-index c.item-item.result c.loop-item.values.items e c.loop-item-test.true c.item-item.is c.loop-item.invariant c.in_err-value.ensures.fault in
    rw (p.1, p.2) (subst (λ js. (e ≡ Memory) ⊎ (values_from (items_view js) ≡ Err e)) c.deref-item-items.ensures.value fault)

pub values_of-returns-clause-ok : goal.values_of-returns-clause-ok
values_of-returns-clause-ok t c =
    let vs = c.loop-item.values.items in
    let found = ended c.deref-item-items.result.now c.loop-item.item-index vs (omega (arith, c.loop-item-test.false)) c.loop-item.invariant in
    subst (λ js. values_from (items_view js) ≡ Ok (items_of vs)) c.deref-item-items.ensures.value found
