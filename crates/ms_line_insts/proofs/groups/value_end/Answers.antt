use Rattle.ms_line_insts.proofs.groups.value_end.Goals as goal

pub returns-in_default : goal.returns-in_default
returns-in_default c = λ g fits h. (rw c.in_default.is at c.in_ok-val.ensures) g.0 _ fits h

pub returns-in-Some-2 : goal.returns-in-Some-2
returns-in-Some-2 c =
    let a = (rw c.in-Some.is at c.in_ok-val.ensures) in
    record { fits = a.fits; spelt = a.on _ (rw c.in-Some-2.is at c.in_ok-tail.ensures) }

pub returns-in-None : goal.returns-in-None
returns-in-None c = λ g fits h. (rw c.in-None.is at c.in_ok-tail.ensures) g.1 ((rw c.in-Some.is at c.in_ok-val.ensures).back g.0 _ fits h).further
