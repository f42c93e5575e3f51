use Rattle.std.proofs.Common.{[], ◌∷◌, refl}
use Rattle.ms_grammar.specs.Parts.{kept, tail}
use Rattle.ms_line_insts.proofs.phi.entries_end.Goals as goal

pub returns-in_default : goal.returns-in_default
returns-in_default c = λ e fits h. (rw c.in_default.is at c.in_ok-list.ensures) e.0 (kept tail e.1 ∷ []) fits.0 (e.1, refl) fits.1 h

pub returns-in-Some-2 : goal.returns-in-Some-2
returns-in-Some-2 c =
    let a = rw c.in-Some.is at c.in_ok-list.ensures in
    record { fits = (a.some, a.fits); spelt = a.on _ (rw c.in-Some-2.is at c.in_ok-tail.ensures) }

pub returns-in-None : goal.returns-in-None
returns-in-None c =
    λ e fits h.
    (rw c.in-None.is at c.in_ok-tail.ensures) e.1 ((rw c.in-Some.is at c.in_ok-list.ensures).back e.0 (kept tail e.1 ∷ []) fits.0 (e.1, refl) fits.1 h).further
