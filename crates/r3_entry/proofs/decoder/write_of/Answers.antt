use Rattle.std.proofs.lemmas.Result.{err_from_is_err_and}
use Rattle.r3_entry.specs.Bytes as spell
use Rattle.r3_entry.specs.Limits.{IfThere, IsKey, IsCell}
use Rattle.r3_entry.proofs.EntryUnique.{key_unique}
use Rattle.r3_entry.proofs.Parts.{both_misses}
use Rattle.r3_entry.proofs.decoder.write_of.Goals as goal

pub returns-in_err-cell : goal.returns-in_err-cell
returns-in_err-cell c =
    let p = err_from_is_err_and c.from_residual-in_err-cell.result c.from_residual-in_err-cell.ensures.1 in
    rw (p.1, p.2) (both_misses spell.key IsKey (spell.option spell.cell) (IfThere IsCell) key_unique c.in_ok-key.key c.args.r.now.rest c.key_of.new.r.rest c.in_err-cell.field-0.0 c.in_ok-key.ensures.0 c.in_ok-key.ensures.1 c.in_err-cell.ensures)
