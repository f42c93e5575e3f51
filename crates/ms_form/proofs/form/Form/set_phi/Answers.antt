use Rattle.std.proofs.Common.{◌∙◌, length-set}
use Rattle.ms_form.proofs.form.Form.set_phi.Goals as goal

pub returns-clause-places : goal.returns-clause-places
returns-clause-places c = λ counts insts h.
    let here = rw (← c.self.view_is) at h in
    record { blocks = length-set c.self.inside.phis.items c.args.b.0 c.args.on ∙ here.blocks; slots = here.slots; numbers = here.numbers }
