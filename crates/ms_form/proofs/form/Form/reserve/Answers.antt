use Rattle.ms_form.proofs.form.Form.reserve.Goals as goal

pub returns-in_err-reserve-2-clause-places : goal.returns-in_err-reserve-2-clause-places
returns-in_err-reserve-2-clause-places c = λ counts insts h.
    let here = rw (← c.self.view_is) at h in
    rw c.in_err-reserve-2.ensures.err (record { blocks = here.blocks; slots = here.slots; numbers = here.numbers })

pub returns-clause-places : goal.returns-clause-places
returns-clause-places c = λ counts insts h.
    let here = rw (← c.self.view_is) at h in
    rw c.in_ok-reserve-2.ensures.ok (record { blocks = here.blocks; slots = here.slots; numbers = here.numbers })
