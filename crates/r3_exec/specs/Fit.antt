-- Which commands a caller may give: those that fit, whatever table, queue, function or step they name.
use Rattle.sys_flow.specs.declared.command.Command.{Command}
use Rattle.r3_model.specs.Fits.{IsFit}

-- as a line has it, or a recovery
abbrev pub IsGiven : Command → Type 0
IsGiven command = IsFit command
