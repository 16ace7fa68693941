use Rattle.std.proofs.Common.{◌≡◌}
use Rattle.r3_model.specs.Functions.{arity_of}
use Rattle.r3_commands.proofs.Names.{short_arity}
use Rattle.r3_commands.proofs.declared.arity.Goals as goal

pub returns-clause-short : goal.returns-clause-short
returns-clause-short c =
    let is : c.arity_in.result ≡ arity_of c.args.program.now c.args.function.now = cc in
    short_arity c.arity_in.result c.args.function.now c.args.program.now c.program.ensures.sound is
