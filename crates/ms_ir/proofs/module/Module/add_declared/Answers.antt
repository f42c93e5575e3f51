use Rattle.std.proofs.Common.{arith}
use Rattle.ms_ir.proofs.ModuleLemmas.{few_names, whole-declared}
use Rattle.ms_ir.proofs.module.Module.add_declared.Goals as goal

pub add_func-requires-clause-few : goal.add_func-requires-clause-few
add_func-requires-clause-few c =
    let few = rw (← c.self.view_is) at c.requires.few in
    let names = few_names (record { groups = c.self.inside.groups; items = c.self.inside.items.items; sigs = c.self.inside.sigs.items; bodies = c.self.inside.bodies.items; names = c.self.inside.names }) c.self.invariant in
    omega (arith, few, names)

pub invariant_of-self-2 : goal.invariant_of-self-2
invariant_of-self-2 c =
    let few = rw (← c.self.view_is) at c.requires.few in
    let new = rw (← c.self.view_is) at c.requires.new in
    rw (
      c.push_reserved.ensures.items,
      c.push_reserved-2.ensures.items,
      c.push_reserved-3.ensures.items,
      c.in_ok-reserve.ensures.items,
      c.in_ok-reserve-2.ensures.items,
      c.in_ok-reserve-3.ensures.items,
      c.in_ok-number.ensures.ok.1,
    ) (whole-declared (record { groups = c.self.inside.groups; items = c.self.inside.items.items; sigs = c.self.inside.sigs.items; bodies = c.self.inside.bodies.items; names = c.self.inside.names }) c.in_ok-number.number c.args.name c.args.text c.args.sig c.self.invariant few new c.in_ok-number.ensures.ok.0)
