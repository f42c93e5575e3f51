use Rattle.std.proofs.Common.{ℕ, ◌∙◌, sym, subst}
use Rattle.ms_paths.specs.Flow.{IsReached}
use Rattle.ms_ir.specs.Graph.{graph_of, defs_of}
use Rattle.ms_climb.specs.Answer.{IsLastAt, IsLastBefore}
use Rattle.ms_climb.proofs.Options.{if_ok}
use Rattle.ms_climb.proofs.Answered.{start_last}
use Rattle.ms_climb.proofs.search.last_before.Goals as goal

pub returns : goal.returns
returns g c =
    let func = c.args.formed.now.func.now in
    let E = g.W.Writes.test c.args.counted.now in
    let start = c.start_before-start.result in
    let r = c.requires.reached in
    if_ok (λ a. (b k : ℕ) → IsReached (graph_of func.blocks) b → IsLastAt func.blocks (defs_of func.blocks) b k start → IsLastAt func.blocks E b k a) (IsLastBefore func.blocks E c.args.i.0) c.climb.result
    (λ a h b k x at.
    let place = c.numbered.ensures.one_place r.block r.place b k r.inst x r.at.found at.found in
    let same = place (r.at.numbered ∙ sym at.numbered) in
    let reached : IsReached (graph_of func.blocks) b = subst (IsReached (graph_of func.blocks)) same.0 r.reached in
    h b k reached (start_last func c.args.formed.now.form.now c.requires.formed.form c.numbered.ensures.one_place c.args.i.0 b k x start reached at (c.start_before-start.ensures b k x at)))
    c.climb.ensures
