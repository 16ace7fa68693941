use Rattle.r3_entry.proofs.Append.{map_at-push, map_at-before, version_at-push}
use Rattle.r3_entry.proofs.laws.one_more_entry.Goals as goal

pub returns : goal.returns
returns c = record { map = map_at-push; before = map_at-before; version = version_at-push }
