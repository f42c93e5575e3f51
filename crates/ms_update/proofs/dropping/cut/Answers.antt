use Rattle.std.proofs.Common.{◌≡◌, ◌∙◌, ◌+◌, ◌-◌, ◌^◌, ap, sym, subst, List, length}
use Rattle.std.specs.Prelude.{min}
use Rattle.ms_paths.specs.Flow.{Block as Run, IsClosed, IsReached, IsReducible}
use Rattle.ms_ir.specs.Func.{FuncState}
use Rattle.ms_flow.specs.Table.{edges_of}
use Rattle.ms_flow.specs.Cut.{cut_graph, edges_left, place_before}
use Rattle.ms_update.specs.Dropped.{StoodBefore}
use Rattle.ms_update.proofs.CutEdge.{closed_func, stood_cut, two_next}
use Rattle.ms_update.proofs.dropping.cut.Goals as goal

pub drop_edge-requires-clause-two : goal.drop_edge-requires-clause-two
drop_edge-requires-clause-two c =
    let blocks = c.args.func.now.blocks in
    two_next c.args.flow.now.graph blocks c.args.b.0 c.requires.graph (c.same_paths.ensures.targets blocks c.args.b.0) c.requires.branch

pub returns-clause-graph : goal.returns-clause-graph
returns-clause-graph c =
    c.drop_edge.ensures.graph ∙ ap (λ (g : List Run). cut_graph g c.args.b.0 c.args.slot) c.requires.graph ∙ sym (c.cut_is_told.ensures.function c.args.func.now c.args.b.0 c.args.slot c.requires.branch)
    ∙ ap (λ (f : FuncState). edges_of f.blocks) (sym c.cut_edge.ensures)

pub returns-clause-closed : goal.returns-clause-closed
returns-clause-closed c =
    let blocks = c.args.func.now.blocks in
    let g = c.args.flow.now.graph in
    let two = two_next g blocks c.args.b.0 c.requires.graph (c.same_paths.ensures.targets blocks c.args.b.0) c.requires.branch in
    let closed = rw (← c.requires.graph) at (c.same_paths.ensures.closed blocks c.requires.closed) in
    let same : cut_graph g c.args.b.0 c.args.slot ≡ edges_of c.cut_edge.new.self.blocks =
    ap (λ (h : List Run). cut_graph h c.args.b.0 c.args.slot) c.requires.graph ∙ sym (c.cut_is_told.ensures.function c.args.func.now c.args.b.0 c.args.slot c.requires.branch) ∙ ap (λ (f : FuncState). edges_of f.blocks) (sym c.cut_edge.ensures) in
    closed_func c.cut_edge.new.self.blocks (c.same_paths.ensures.edges c.cut_edge.new.self.blocks) (subst IsClosed same (c.cut_is_told.ensures.closed g c.args.b.0 c.args.slot two closed))

pub returns-clause-reducible : goal.returns-clause-reducible
returns-clause-reducible c =
    let blocks = c.args.func.now.blocks in
    let g = c.args.flow.now.graph in
    let two = two_next g blocks c.args.b.0 c.requires.graph (c.same_paths.ensures.targets blocks c.args.b.0) c.requires.branch in
    subst IsReducible (sym c.drop_edge.ensures.graph) (c.cut_is_told.ensures.reducible g c.args.b.0 c.args.slot two c.requires.reducible)

pub returns-clause-blocks : goal.returns-clause-blocks
returns-clause-blocks c = ap (λ (g : List Run). length g) c.drop_edge.ensures.graph ∙ c.cut_is_told.ensures.blocks c.args.flow.now.graph c.args.b.0 c.args.slot

pub returns-clause-less : goal.returns-clause-less
returns-clause-less c = λ x r.
    let blocks = c.args.func.now.blocks in
    let g = c.args.flow.now.graph in
    let two = two_next g blocks c.args.b.0 c.requires.graph (c.same_paths.ensures.targets blocks c.args.b.0) c.requires.branch in
    c.cut_is_told.ensures.reached g c.args.b.0 c.args.slot x two (subst (λ (h : List Run). IsReached h x) c.drop_edge.ensures.graph r)

pub returns-clause-stood : goal.returns-clause-stood
returns-clause-stood c =
    let blocks = c.args.func.now.blocks in
    let g = c.args.flow.now.graph in
    let b = c.args.b.0 in
    let slot = c.args.slot in
    let two = two_next g blocks b c.requires.graph (c.same_paths.ensures.targets blocks b) c.requires.branch in
    let closed = rw (← c.requires.graph) at (c.same_paths.ensures.closed blocks c.requires.closed) in
    let closed' = c.cut_is_told.ensures.closed g b slot two closed in
    subst (λ (h : List Run). StoodBefore g h (place_before c.drop_edge.new.self.before)) (sym c.drop_edge.ensures.graph)
    (stood_cut g b slot c.drop_edge.new.self.before (c.cut_is_told.ensures.blocks g b slot) closed' (c.sources_told.ensures.edges (cut_graph g b slot) closed') c.drop_edge.ensures.before)

pub returns-clause-steps : goal.returns-clause-steps
returns-clause-steps c = c.drop_edge.ensures.steps ∙ ap (λ (g : List Run). min (c.args.steps.now + edges_left g) (2 ^ 64 - 1)) (sym c.drop_edge.ensures.graph)
