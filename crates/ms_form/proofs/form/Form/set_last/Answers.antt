use Rattle.ms_form.specs.Form.{HasPlaces}
use Rattle.ms_form.proofs.FormLemmas.{places-last}
use Rattle.ms_form.proofs.form.Form.set_last.Goals as goal

pub returns-clause-places : goal.returns-clause-places
returns-clause-places c = λ counts insts h.
    let placed : HasPlaces counts insts c.place_last.new.self = rw c.place_last.ensures (places-last c.args.last c.args.self.now counts insts h) in
    let here = rw (← c.self.view_is) at placed in
    record { blocks = here.blocks; slots = here.slots; numbers = here.numbers }
