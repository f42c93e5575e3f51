use Rattle.ms_line_insts.proofs.terms.targets_end.Goals as goal

pub returns-in_default : goal.returns-in_default
returns-in_default c = λ t fits h. (rw c.in_default.is at c.in_ok-if_true.ensures) t.0 _ fits.0 h

pub returns-in_default-2 : goal.returns-in_default-2
returns-in_default-2 c =
    λ t fits h.
    (rw c.in_default-2.is at c.in_ok-if_false.ensures) t.1 _ fits.1 ((rw c.in-Some.is at c.in_ok-if_true.ensures).back t.0 _ fits.0 h).further

pub returns-in-Some-3 : goal.returns-in-Some-3
returns-in-Some-3 c =
    let a = rw c.in-Some.is at c.in_ok-if_true.ensures in
    let b = rw c.in-Some-2.is at c.in_ok-if_false.ensures in
    record { fits = (a.fits, b.fits); spelt = a.on _ (b.on _ (rw c.in-Some-3.is at c.in_ok-tail.ensures)) }

pub returns-in-None : goal.returns-in-None
returns-in-None c =
    λ t fits h.
    let a = (rw c.in-Some.is at c.in_ok-if_true.ensures).back t.0 _ fits.0 h in
    (rw c.in-None.is at c.in_ok-tail.ensures) t.2 ((rw c.in-Some-2.is at c.in_ok-if_false.ensures).back t.1 _ fits.1 a.further).further
