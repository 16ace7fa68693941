use Rattle.std.proofs.Common.{◌≡◌, drop, Option}
use Rattle.std.specs.List.{list_any}
use Rattle.std.specs.Ordering.{eq_by_cmp}
use Rattle.r3_rows.specs.Keys.{key_cmp}
use Rattle.r3_rows.specs.declared.rows.Key.{Key}
use Rattle.r3_rows.specs.declared.rows.Cell.{Cell}
use Rattle.fn_tree.specs.Writes.{Write}
use Rattle.r3_model.specs.Acts.{put_write}
use Rattle.r3_plain.proofs.txns.writes_any.Given as goal

abbrev pub invariant-writes : goal.invariant-writes
invariant-writes l =
    list_any (λ (w : Key × Option Cell). list_any (λ (p : Write). eq_by_cmp key_cmp w.0 (put_write p).0) l.puts) l.writes
    ≡ list_any (λ (w : Key × Option Cell). list_any (λ (p : Write). eq_by_cmp key_cmp w.0 (put_write p).0) l.puts) (drop l.write-index l.writes)
