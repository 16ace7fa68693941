use Rattle.r3_entry.proofs.EntryWhole.{ordered_parses}
use Rattle.r3_entry.proofs.decoder.writes_in.Goals as goal

pub returns-in-Ok : goal.returns-in-Ok
returns-in-Ok c =
    ordered_parses c.in-Ok.pairs.items c.args.r.now.rest c.pairs_of.new.r.rest c.ordered.result c.in-Ok.ensures.there.0 c.in-Ok.ensures.there.1 c.ordered.ensures
