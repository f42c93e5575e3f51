use Rattle.std.proofs.Common.{sym, subst}
use Rattle.ms_script.proofs.PastLines.{there_told}
use Rattle.ms_script.proofs.past.fits_there.Goals as goal

pub returns-in-Some : goal.returns-in-Some
returns-in-Some c =
    let told = rw c.in-Some.is at c.in_ok-found.ensures in
    λ i h. there_told c.args.m.now c.args.line.now c.args.tokens.now told.0 i c.found_fits.result told.1 h (c.found_fits.ensures told.0 told.2)

pub returns-in-None : goal.returns-in-None
returns-in-None c = let told = rw c.in-None.is at c.in_ok-found.ensures in λ i h. absurd (told i h)
