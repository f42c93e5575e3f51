use Rattle.ms_ir.proofs.ModuleLemmas.{whole-kept}
use Rattle.ms_ir.proofs.module.Module.add_kept.Goals as goal

pub invariant_of-self-2 : goal.invariant_of-self-2
invariant_of-self-2 c =
    let few = rw (← c.self.view_is) at c.requires in
    rw c.in_ok-push.ensures.items (whole-kept (record { groups = c.self.inside.groups; items = c.self.inside.items.items; sigs = c.self.inside.sigs.items; bodies = c.self.inside.bodies.items; names = c.self.inside.names }) c.args.text c.self.invariant few)
