use Rattle.std.proofs.Common.{◌<◌, length, sym, subst, arith, List}
use Rattle.ms_flow.specs.declared.sources.Source.{Source}
use Rattle.ms_flow.proofs.Listed.{reached_below, list_is}
use Rattle.ms_flow.proofs.flow.Flow.pred.Goals as goal

pub at-source-requires-clause-block : goal.at-source-requires-clause-block
at-source-requires-clause-block c =
    let g = c.self.inside.table in
    let reached = rw (← c.self.view_is) at c.requires.block in
    let below = reached_below g c.self.invariant.closed c.args.b.0 reached in
    let blocks = c.self.invariant.listed.blocks in
    omega arith

pub at-source-requires-clause-place : goal.at-source-requires-clause-place
at-source-requires-clause-place c =
    let g = c.self.inside.table in
    let reached = rw (← c.self.view_is) at c.requires.block in
    let slot = rw (← c.self.view_is) at c.requires.slot in
    let below = reached_below g c.self.invariant.closed c.args.b.0 reached in
    let same = list_is g c.self.inside.sources.lists.items _ c.args.b.0 c.self.invariant.listed below in
    subst (λ (l : List Source). c.args.slot < length l) (sym same) slot
