use Rattle.ms_line_insts.proofs.calls.length_end.Goals as goal

pub returns-in_default : goal.returns-in_default
returns-in_default c = λ e fits h. c.in_default.ensures e.0 _ tt h

pub returns-in-Some-2 : goal.returns-in-Some-2
returns-in-Some-2 c =
    let a = c.in-Some.ensures in
    (a.0, record { fits = tt; spelt = a.1.on _ (rw c.in-Some-2.is at c.in_ok-end.ensures) }, a.2)

pub returns-in-None : goal.returns-in-None
returns-in-None c = λ e fits h. (rw c.in-None.is at c.in_ok-end.ensures) e.1.0 e.1.1 (c.in-Some.ensures.1.back e.0 _ tt h).further
