use Rattle.r3_value.specs.View.{value_of}
use Rattle.r3_json.proofs.RoundTrip.{has_float-data_of}
use Rattle.r3_json.proofs.values.to_json.Goals as goal

pub returns-clause-no_float : goal.returns-clause-no_float
returns-clause-no_float c = rw c.in_ok-json.ensures (has_float-data_of (value_of c.args.value.now))
