use Rattle.ms_script.proofs.PastLines.{behind_equals}
use Rattle.ms_script.proofs.past.fits_behind.Goals as goal

pub returns-in_ok-fits_there-in-Some : goal.returns-in_ok-fits_there-in-Some
returns-in_ok-fits_there-in-Some c = λ s i spelled fits.
    c.in_ok-fits_there-in-Some.ensures i (behind_equals c.args.line.now c.args.tokens.now c.in-Some.rest.now _ s i c.in-Some.ensures.cells spelled fits)
