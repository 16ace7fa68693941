use Rattle.r3_entry.proofs.Append.{version_at_le}
use Rattle.r3_entry.proofs.laws.versions_are_numbers.Goals as goal

pub returns : goal.returns
returns c = λ h q k le. version_at_le h q k le
