use Rattle.std.proofs.Common.{◌∙◌, sym, ap}
use Rattle.std.specs.Option.{option_map}
use Rattle.ms_ir.specs.Func.{insts_at}
use Rattle.ms_print.specs.Walk.{number_of_inst}
use Rattle.ms_print.proofs.WalkLemmas.{nowhere_at, numbered_at, placed_at}
use Rattle.ms_print.proofs.walk.step.Goals as goal

pub unreachable-requires-in-None-node : goal.unreachable-requires-in-None-node
unreachable-requires-in-None-node c =
    let insts = insts_at c.args.func.now.blocks c.args.walk.block.0 in
    let at = numbered_at insts c.args.walk.place c.in-Some.i.0 (ap (option_map number_of_inst) (sym c.in-Some.is) ∙ c.requires.walk) in
    nowhere_at insts c.args.walk.place c.in-Some.i.0 at.0 (c.in-None-node.ensures.found c.args.walk.block.0) at.1 at.2

pub returns-clause-found : goal.returns-clause-found
returns-clause-found c =
    let insts = insts_at c.args.func.now.blocks c.args.walk.block.0 in
    let at = numbered_at insts c.args.walk.place c.in-Some.i.0 (ap (option_map number_of_inst) (sym c.in-Some.is) ∙ c.requires.walk) in
    placed_at insts c.args.walk.place c.in-Some.i.0 at.0 c.in-Some-node.node.now at.1 at.2
    (c.in-Some-node.ensures.each c.args.walk.block.0 c.args.walk.place at.0 (record { block = c.requires.block; found = at.1; numbered = at.2 }))
