use Rattle.std.proofs.Common.{◌≡◌, true, filter_map, bytes_eq, rules}
use Rattle.std.specs.List.{list_any}
use Rattle.r3_model.specs.Language.{Queue}
use Rattle.r3_model.specs.Functions.{queue_of}
use Rattle.r3_commands.proofs.Names.{short_queue}
use Rattle.r3_commands.proofs.declared.has_queue.Goals as goal

pub returns-clause-short : goal.returns-clause-short
returns-clause-short c = λ yes.
    let found : list_any (λ (q : Queue). bytes_eq q.name c.args.queue.now) (filter_map queue_of c.args.program.now) ≡ true = search rules in
    short_queue c.args.queue.now c.args.program.now c.program.ensures.sound found
