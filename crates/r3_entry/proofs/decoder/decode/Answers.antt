use Rattle.std.proofs.Common.{◌≡◌, ◌++◌}
use Rattle.r3_entry.specs.Bytes as spell
use Rattle.r3_entry.proofs.EntryWhole.{left_over}
use Rattle.r3_entry.proofs.decoder.decode.Goals as goal

pub returns-then-not-ended-clause-not_entry : goal.returns-then-not-ended-clause-not_entry
returns-then-not-ended-clause-not_entry c = λ e.
    let b : c.args.bytes.now ≡ spell.entry c.in-Ok.entry ++ c.entry_of.new.r.rest = rw c.new-r.ensures.rest at c.in-Ok.ensures.1 in
    left_over c.in-Ok.entry c.args.bytes.now c.entry_of.new.r.rest c.in-Ok.ensures.0 b (λ z. let yes = c.ended.ensures.1 z in cc)
