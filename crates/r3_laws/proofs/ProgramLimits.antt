-- The language of a sound program stays within the limits of entries.
use Rattle.std.specs.Prelude.{List, [], unwrap_or}
use Rattle.fn_tree.specs.declared.program.Item.{Item}
use Rattle.fn_tree.specs.Flow.{flow_of}
use Rattle.fn_tree.specs.Literals.{HoldsValues}
use Rattle.fn_tree.specs.Soundness.{IsSound}
use Rattle.fn_tree.specs.Values.{items_of}
use Rattle.r3_model.specs.Functions.{language_of}
use Rattle.r3_model.specs.Lawful.{IsLimited}
use Rattle.r3_laws.proofs.FlowLimits.{answered-well, flow-well}
use Rattle.r3_laws.proofs.NamedItems.{all-named, arity-named, queues-named, table-named}
use Rattle.r3_laws.proofs.TxnLimits.{among-well, args-vals}

pub programs-limited : (items : List Item) → IsSound items → HoldsValues items → IsLimited (language_of items)
programs-limited items sound holds =
    let named = all-named items sound holds in
    record {
      table_names = table-named items named;
      names = arity-named items named;
      queue_names = queues-named items named;
      ends = λ function args answers is all. answered-well (flow_of items function args) answers (flow-well items named sound.bodies holds function args is) all;
      runs = λ name args m is fits. among-well items named m fits holds [] items sound.bodies holds name (unwrap_or (items_of args) []) (args-vals args is);
    }
