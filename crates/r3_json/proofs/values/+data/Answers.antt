use Rattle.std.proofs.Common.{◌≡◌, suc, take, refl, sym, ap, ◌∙◌, arith}
use Rattle.std.proofs.lemmas.List.{take_all}
use Rattle.serde_json.specs.Data.{array}
use Rattle.serde_json.specs.View.{items_of as items_of_data}
use Rattle.serde_json.proofs.Views.{view-Array}
use Rattle.r3_value.specs.Value.{depth, depths}
use Rattle.r3_value.specs.View.{value_of, items_of}
use Rattle.r3_value.proofs.ItemsLemmas.{depth_le-depths}
use Rattle.r3_json.specs.Values.{data_of, items_data}
use Rattle.r3_json.proofs.Items.{items_data-items_of}
use Rattle.r3_json.proofs.values.+data.Goals as goal

pub data-requires : goal.data-requires
data-requires t c =
    let d : depth (value_of c.args.value.now) ≡ suc (depths (items_of c.items-items.result.now)) = rw (c.in-List.is, c.items-items.ensures.items) refl in
    let b = depth_le-depths c.items-items.result.now c.loop-item.item-index c.item-item.result c.loop-item-test.true c.item-item.is in
    (omega (arith, d, b), tt)

pub returns-after-loop-item : goal.returns-after-loop-item
returns-after-loop-item t c =
    let vs = c.items-items.result.now in
    let all : take c.loop-item.item-index vs ≡ vs = take_all c.loop-item.item-index vs (omega (arith, c.loop-item-test.false)) in
    let listed : array (items_data (items_of vs)) ≡ data_of (value_of c.args.value.now) = rw (c.in-List.is, c.items-items.ensures.items) refl in
    view-Array c.loop-item.array ∙ ap (λ ds. array (items_of_data ds)) c.loop-item.invariant ∙ rw all (ap array (sym (items_data-items_of vs))) ∙ listed
