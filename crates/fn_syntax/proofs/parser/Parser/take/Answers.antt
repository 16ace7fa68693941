use Rattle.std.proofs.Common.{◌≡◌, sym, ◌∙◌, true, false}
use Rattle.fn_syntax.specs.Machine.{state_of}
use Rattle.fn_syntax.proofs.MachineLemmas.{misfit_takes, over_takes, goes_takes}
use Rattle.fn_syntax.proofs.parser.Parser.take.Goals as goal

pub returns-then-not-fits : goal.returns-then-not-fits
returns-then-not-fits c =
    let no : c.fits.result ≡ false = c.if-not-fits.true in
    misfit_takes c.args.next _ c.args.symbol c.args.self.now.todo (state_of c.args.self.now) c.in-Some.is c.requires.terminal (sym c.fits.ensures ∙ no)

pub returns-then-is_over : goal.returns-then-is_over
returns-then-is_over c = over_takes c.args.next _ c.args.symbol c.args.self.now.todo (state_of c.args.self.now) c.in-Some.is c.requires.terminal (sym c.is_over.ensures ∙ c.if-is_over.true)

pub returns-in_ok-read-in-Some : goal.returns-in_ok-read-in-Some
returns-in_ok-read-in-Some c =
    let yes : c.fits.result ≡ true = c.if-not-fits.false in
    goes_takes c.args.next _ c.args.symbol c.args.self.now.todo (state_of c.args.self.now) _ c.in-Some.is c.requires.terminal (sym c.fits.ensures ∙ yes) (sym c.is_over.ensures ∙ c.if-is_over.false) c.requires.tame c.in_ok-read-in-Some.ensures.todo c.in_ok-read-in-Some.ensures.state
