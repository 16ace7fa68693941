use Rattle.r3_plain.specs.Words.{state_of}
use Rattle.r3_worked.proofs.Fitting.{fits_later}
use Rattle.r3_worked.proofs.steps.happen.Goals as goal

pub step-requires-clause-fits : goal.step-requires-clause-fits
step-requires-clause-fits c = fits_later (state_of c.args.state.now).history c.args.event c.requires.valid.begins c.requires.fits
