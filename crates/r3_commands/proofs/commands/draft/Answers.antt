use Rattle.r3_model.specs.Functions.{language_of}
use Rattle.r3_commands.proofs.Carried.{load-command, fork-command}
use Rattle.r3_commands.proofs.commands.draft.Goals as goal

pub returns-in-Load : goal.returns-in-Load
returns-in-Load g c =
    load-command (λ h. g.P.Past.stands c.args.past.now h) c.loaded.result (language_of c.args.program.now) c.args.command.now
    _ _ _ _ c.in-Load.is c.as_str.ensures.text c.as_slice.ensures c.loaded.ensures

pub returns-in-Fork : goal.returns-in-Fork
returns-in-Fork g c =
    fork-command (λ h. g.P.Past.stands c.args.past.now h) c.forked.result (language_of c.args.program.now) c.args.command.now
    _ _ _ _ c.in-Fork.is c.as_str-in-Fork.ensures.text c.forked.ensures
