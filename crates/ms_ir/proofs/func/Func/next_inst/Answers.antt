use Rattle.std.proofs.Common.{◌≡◌, ◌∙◌, length, arith, ap, Some}
use Rattle.ms_ir.proofs.FuncLemmas.{insts_at-blocks_of, number_at, placed_at, listed_nowhere}
use Rattle.ms_ir.proofs.func.Func.next_inst.Goals as goal

pub returns-in-Some-clause-there : goal.returns-in-Some-clause-there
returns-in-Some-clause-there c =
    let same : length c.self.inside.blocks.items ≡ length c.self.inside.order.lists = omega (arith, c.self.inside.blocks.ok.0) in
    rw (← c.self.view_is) (λ b place x at.
    let there = placed_at c.self.inside.nodes.items c.self.inside.blocks.items c.self.inside.order.lists b place x same at.found in
    rw (insts_at-blocks_of c.self.inside.nodes.items c.self.inside.blocks.items c.self.inside.order.lists b same, number_at) (c.in-Some.ensures.there b place (there.listed ∙ ap Some at.numbered)))

pub returns-in-None-clause-there : goal.returns-in-None-clause-there
returns-in-None-clause-there c =
    let same : length c.self.inside.blocks.items ≡ length c.self.inside.order.lists = omega (arith, c.self.inside.blocks.ok.0) in
    rw (← c.self.view_is) (λ b place x at.
    let there = placed_at c.self.inside.nodes.items c.self.inside.blocks.items c.self.inside.order.lists b place x same at.found in
    rw (insts_at-blocks_of c.self.inside.nodes.items c.self.inside.blocks.items c.self.inside.order.lists b same, number_at) (c.in-None.ensures.there b place (there.listed ∙ ap Some at.numbered)))

pub returns-in-Some-clause-gone : goal.returns-in-Some-clause-gone
returns-in-Some-clause-gone c =
    let same : length c.self.inside.blocks.items ≡ length c.self.inside.order.lists = omega (arith, c.self.inside.blocks.ok.0) in
    rw (← c.self.view_is) (λ gone. absurd (let none = c.in-Some.ensures.gone (listed_nowhere c.self.inside.nodes.items c.self.inside.blocks.items c.self.inside.order.lists c.args.i.0 same gone) in cc))
