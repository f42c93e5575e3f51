use Rattle.std.proofs.Common.{◌≡◌, length, arith}
use Rattle.ms_ir.proofs.FuncLemmas.{insts_at-blocks_of, number_at}
use Rattle.ms_ir.proofs.func.Func.first_inst.Goals as goal

pub returns-in-Some : goal.returns-in-Some
returns-in-Some c =
    let same : length c.self.inside.blocks.items ≡ length c.self.inside.order.lists = omega (arith, c.self.inside.blocks.ok.0) in
    rw (← c.self.view_is, insts_at-blocks_of c.self.inside.nodes.items c.self.inside.blocks.items c.self.inside.order.lists c.args.b.0 same, number_at) c.in-Some.ensures.number

pub returns-in-None : goal.returns-in-None
returns-in-None c =
    let same : length c.self.inside.blocks.items ≡ length c.self.inside.order.lists = omega (arith, c.self.inside.blocks.ok.0) in
    rw (← c.self.view_is, insts_at-blocks_of c.self.inside.nodes.items c.self.inside.blocks.items c.self.inside.order.lists c.args.b.0 same, number_at) c.in-None.ensures.number
