use Rattle.std.proofs.Common.{◌≡◌, IfOk, sym, subst}
use Rattle.std.specs.List.{filter_map}
use Rattle.r3_entry.specs.History.{Map, seen_in}
use Rattle.r3_exec.proofs.Maps.{map_is}
use Rattle.r3_exec.proofs.reads.ExecPast.range.Goals as goal

pub returns : goal.returns
returns c =
    let h = c.requires.index.0.0 in
    let stands = c.requires.index.0.1 in
    subst (λ (m : Map). IfOk c.range_at.result (λ keys. keys.items ≡ filter_map (seen_in c.args.table.now c.args.lo.now c.args.hi.now) m))
    (sym (map_is c.args.self.now.store h c.args.index stands c.requires.index.1))
    (c.range_at.ensures h stands c.requires.index.1)
