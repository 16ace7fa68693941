use Rattle.std.proofs.lemmas.Result.{err_from_is_err_and}
use Rattle.r3_bytes.specs.Spelling.{string}
use Rattle.r3_entry.specs.Limits.{IsId}
use Rattle.r3_entry.proofs.Parts.{both_misses}
use Rattle.r3_entry.proofs.PartsUnique.{id_unique}
use Rattle.r3_entry.proofs.act_fields.fork_ids_of.Goals as goal

pub returns-in_err-from : goal.returns-in_err-from
returns-in_err-from c =
    let p = err_from_is_err_and c.from_residual-in_err-from.result c.from_residual-in_err-from.ensures.1 in
    rw (p.1, p.2) (both_misses string IsId string IsId id_unique c.in_ok-id.id c.args.r.now.rest c.sized_of.new.r.rest c.in_err-from.field-0.0 c.in_ok-id.ensures.0 c.in_ok-id.ensures.1 c.in_err-from.ensures)
