use Rattle.std.proofs.Common.{◌≡◌, sym, subst}
use Rattle.std.specs.Option.{option_map_or}
use Rattle.std.specs.FinMap.{find}
use Rattle.r3_rows.specs.Keys.{key_cmp}
use Rattle.r3_entry.specs.History.{Map, Write}
use Rattle.r3_exec.proofs.Maps.{map_is}
use Rattle.r3_exec.proofs.reads.ExecPast.version.Goals as goal

pub returns : goal.returns
returns c =
    let h = c.requires.0.0 in
    let stands = c.requires.0.1 in
    subst (λ (m : Map). c.version_at.result ≡ option_map_or (λ (w : Write). w.0) (find key_cmp c.args.key.now m) 0)
    (sym (map_is c.args.self.now.store h c.args.index stands c.requires.1))
    (c.version_at.ensures h stands c.requires.1)
