-- The machine's workflows and queues, for those of the program.
use Rattle.std.specs.Prelude.{Bool}
use Rattle.sys_queue.specs.Rows as queues
use Rattle.r3_model.specs.Language.{Queue}
use Rattle.r3_model.specs.Rows as machine
use Rattle.r3_plain.specs.declared.declared.Declared.{Declared}
use Rattle.r3_plain.specs.declared.flows.Flow.{Flow}

abbrev pub flow_of : Flow → machine.Flow
flow_of f = record { id = f.id; row = f.row }

abbrev pub declared_of : Declared → Queue
declared_of q = record { name = q.name; bound = q.bound }

abbrev pub is_pending : machine.Flow → Bool
is_pending f = queues.is_pending f.row.status
