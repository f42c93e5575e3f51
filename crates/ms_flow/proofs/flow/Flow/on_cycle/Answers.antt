use Rattle.std.proofs.Common.{◌≡◌, false, get_or, sym, ◌∙◌, subst, arith}
use Rattle.std.specs.Prelude.{IsTrue, ◌↔◌}
use Rattle.std.proofs.lemmas.List.{get_or_default}
use Rattle.ms_flow.specs.Flow.{FlowState, IsOnCycle}
use Rattle.ms_flow.proofs.flow.Flow.on_cycle.Goals as goal

pub returns : goal.returns
returns c =
    let lt = rw (← c.self.view_is) at c.requires in
    let cycles = c.self.invariant.on_cycles in
    let blocks = cycles.blocks in
    let items = c.self.inside.cyclic.items in
    let same : c.index.result.now ≡ get_or items c.args.b.0 false = c.index.ensures ∙ get_or_default items c.args.b.0 c.index.result.now false (omega arith) in
    let told = cycles.cycles c.args.b.0 lt in
    let P : FlowState → Type 0 = λ s. IsTrue c.index.result.now ↔ IsOnCycle s.graph c.args.b.0 in
    subst P c.self.view_is (λ t. told.0 (sym same ∙ t), λ k. same ∙ told.1 k)
