use Rattle.std.proofs.Common.{◌≡◌, length, arith, refl}
use Rattle.ms_ir.proofs.FuncLemmas.{length-blocks_of}
use Rattle.ms_ir.proofs.LocalLemmas.{numbered_by}
use Rattle.ms_ir.proofs.func.Func.numbered.Goals as goal

pub returns : goal.returns
returns c =
    let same : length c.self.inside.blocks.items ≡ length c.self.inside.order.lists = omega (arith, c.self.inside.blocks.ok.0) in
    rw (← c.self.view_is) (numbered_by _ c.self.inside.nodes.items c.self.inside.results.items c.self.inside.blocks.items c.self.inside.order.lists refl same c.self.invariant.5
    c.listed_once.ensures.once c.listed_once.ensures.below (omega (arith, c.self.inside.nodes.ok.0)) (omega (arith, c.self.inside.results.ok.0)) c.listed_once.ensures.few_made (omega (arith, c.listed_once.ensures.few_blocks, length-blocks_of c.self.inside.nodes.items c.self.inside.blocks.items c.self.inside.order.lists, c.self.inside.blocks.ok.0)) (omega arith))
