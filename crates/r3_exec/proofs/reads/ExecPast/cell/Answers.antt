use Rattle.std.proofs.Common.{◌≡◌, sym, subst}
use Rattle.std.specs.Prelude.{option_and_then}
use Rattle.std.specs.Option.{option_copied}
use Rattle.std.specs.FinMap.{find}
use Rattle.r3_rows.specs.Keys.{key_cmp}
use Rattle.r3_entry.specs.History.{Map, Write}
use Rattle.r3_exec.proofs.Maps.{map_is}
use Rattle.r3_exec.proofs.reads.ExecPast.cell.Goals as goal

pub returns : goal.returns
returns c =
    let h = c.requires.0.0 in
    let stands = c.requires.0.1 in
    subst (λ (m : Map). option_copied c.read_at.result ≡ option_and_then (λ (w : Write). w.1) (find key_cmp c.args.key.now m))
    (sym (map_is c.args.self.now.store h c.args.index stands c.requires.1))
    (c.read_at.ensures h stands c.requires.1)
