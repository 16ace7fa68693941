use Rattle.r3_json.proofs.RoundTrip as law
use Rattle.r3_json.proofs.laws.reads_back.Goals as goal

pub returns : goal.returns
returns c = law.reads_back
