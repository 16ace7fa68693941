use Rattle.std.proofs.Common.{◌≡◌, drop}
use Rattle.std.specs.List.{list_any}
use Rattle.std.specs.Ordering.{eq_by_cmp}
use Rattle.r3_rows.specs.Keys.{key_cmp}
use Rattle.fn_tree.specs.Writes.{Write}
use Rattle.r3_model.specs.Acts.{put_write}
use Rattle.r3_plain.proofs.txns.is_any_put.Given as goal

abbrev pub invariant-puts : goal.invariant-puts
invariant-puts l =
    list_any (λ (p : Write). eq_by_cmp key_cmp l.key (put_write p).0) l.puts
    ≡ list_any (λ (p : Write). eq_by_cmp key_cmp l.key (put_write p).0) (drop l.put-index l.puts)
