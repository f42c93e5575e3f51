use Rattle.ms_line_insts.proofs.calls.args_end.Goals as goal

pub returns-in_default : goal.returns-in_default
returns-in_default c = λ a fits h. (rw c.in_default.is at c.in_ok-args.ensures) a.0 _ fits h

pub returns-in-Some-2 : goal.returns-in-Some-2
returns-in-Some-2 c =
    let a = rw c.in-Some.is at c.in_ok-args.ensures in
    record { fits = a.fits; spelt = a.on _ (rw c.in-Some-2.is at c.in_ok-end.ensures) }

pub returns-in-None : goal.returns-in-None
returns-in-None c = λ a fits h. (rw c.in-None.is at c.in_ok-end.ensures) a.1.0 a.1.1 ((rw c.in-Some.is at c.in_ok-args.ensures).back a.0 _ fits h).further
