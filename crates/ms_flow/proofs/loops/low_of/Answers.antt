use Rattle.std.proofs.Common.{◌+◌, ◌∷◌, get_or, sym, subst, arith}
use Rattle.std.proofs.lemmas.List.Elements.{Contains-get_or}
use Rattle.ms_paths.specs.Flow.{HasEdge}
use Rattle.ms_flow.specs.Table.{next_of}
use Rattle.ms_flow.specs.Loops.{IsLeast}
use Rattle.ms_flow.proofs.Lows.{FallsAmong, one_edge_low, all_edges_low}
use Rattle.ms_flow.proofs.loops.low_of.Goals as goal

pub low_over-requires-clause-low : goal.low_over-requires-clause-low
low_over-requires-clause-low c = λ up.
    let g = c.args.table.now in
    let b = c.args.b in
    let to = get_or (next_of g b) c.loop-slot.slot 0 in
    let count = c.count-slot-end.ensures.count in
    let edge : HasEdge g b to = Contains-get_or (next_of g b) c.loop-slot.slot 0 (omega arith) in
    c.requires.behind.have_low to (b ∷ c.requires.reached.0, (edge, c.requires.reached.1)) (omega arith)

pub loop-slot-preserved : goal.loop-slot-preserved
loop-slot-preserved c =
    let g = c.args.table.now in
    let b = c.args.b in
    let k = c.loop-slot.slot in
    subst (IsLeast g (FallsAmong g b (k + 1))) (sym c.min-low.ensures) (one_edge_low g b k c.loop-slot.low c.low_over.result c.loop-slot.invariant c.low_over.ensures)

pub returns : goal.returns
returns c =
    let g = c.args.table.now in
    let count = c.count-slot-end.ensures.count in
    let end = c.loop-slot-test.false in
    all_edges_low g c.args.b c.loop-slot.slot c.loop-slot.low (omega arith) c.loop-slot.invariant
