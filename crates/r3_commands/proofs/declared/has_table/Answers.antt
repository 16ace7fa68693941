use Rattle.std.proofs.Common.{◌≡◌, true}
use Rattle.fn_tree.specs.Declarations.{any, is_table}
use Rattle.r3_commands.proofs.Names.{short_table}
use Rattle.r3_commands.proofs.declared.has_table.Goals as goal

pub returns-clause-short : goal.returns-clause-short
returns-clause-short c = λ yes.
    let found : any (is_table c.args.table.now) c.args.program.now ≡ true = cc in
    short_table c.args.table.now c.args.program.now c.program.ensures.sound found
