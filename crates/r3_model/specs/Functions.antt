-- The functions of a program, as the machine's language.
use Rattle.std.specs.Prelude.{ℕ, true, false, List, [], ◌∷◌, length, filter_map, Option, Some, None, bytes_eq, unwrap_or, codes}
use Rattle.r3_value.specs.declared.value.Outcome.TheVariants.{Failure}
use Rattle.fn_tree.specs.declared.flow.FlowEnd.{FlowEnd}
use Rattle.fn_tree.specs.declared.flow.FlowEnd.TheVariants.{Done}
use Rattle.fn_tree.specs.declared.look.TxnRun.{TxnRun}
use Rattle.fn_tree.specs.declared.program.Item.{Item}
use Rattle.fn_tree.specs.declared.program.Item.TheVariants as items
use Rattle.fn_tree.specs.Declarations.{any, is_table}
use Rattle.fn_tree.specs.Flow.{flow_meaning}
use Rattle.fn_tree.specs.Transaction.{Counted, txn_meaning}
use Rattle.fn_tree.specs.Values.{items_of}
use Rattle.r3_model.specs.Language.{Text, Language, Queue}

abbrev pub queue_of : Item → Option Queue
queue_of (items.Queue name bound) = Some (record { name = name; bound = bound })
queue_of i = None

-- the number of parameters of a workflow of that name
abbrev pub arity_by : Text → Item → Option ℕ
arity_by name (items.Flow x params body) = elim (bytes_eq x name) [ true ↦ Some (length params) | false ↦ None ]
arity_by name i = None

abbrev pub first_some : {X : Type 0} → Option X → Option X → Option X
first_some (Some x) o = Some x
first_some None o = o

abbrev pub arity_of : List Item → Text → Option ℕ
arity_of [] name = None
arity_of (i ∷ is) name = first_some (arity_by name i) (arity_of is name)

-- A run of a sound program is there, whatever it is run on. (The ends below are those of no run.)
abbrev pub end_of : Option (Counted FlowEnd) → FlowEnd
end_of None = Done (Failure (codes "unknown_function"))
end_of (Some r) = r.run

abbrev pub run_of : Option (Counted TxnRun) → TxnRun
run_of None = record { outcome = Failure (codes "unknown_function"); reads = []; writes = [] }
run_of (Some r) = r.run

-- the language of a program's items
abbrev pub language_of : List Item → Language
language_of is = record {
  has_table = λ name. any (is_table name) is;
  queues = filter_map queue_of is;
  arity = arity_of is;
  flow = λ name args answers. end_of (flow_meaning is name args answers);
  txn = λ name args m. run_of (txn_meaning is m name (unwrap_or (items_of args) []));
}
