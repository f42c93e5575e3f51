use Rattle.ms_ir.proofs.ModuleLemmas.{whole-put}
use Rattle.ms_ir.proofs.module.Module.put_func.Goals as goal

pub invariant_of-self : goal.invariant_of-self
invariant_of-self c =
    let defined = rw (← c.self.view_is) at c.requires.defined in
    whole-put (record { groups = c.self.inside.groups; items = c.self.inside.items.items; sigs = c.self.inside.sigs.items; bodies = c.self.inside.bodies.items; names = c.self.inside.names }) c.args.f c.args.func defined c.self.invariant
