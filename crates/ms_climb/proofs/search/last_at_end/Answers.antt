use Rattle.std.proofs.Common.{ℕ, length}
use Rattle.ms_paths.specs.Flow.{IsReached}
use Rattle.ms_ir.specs.Graph.{graph_of, defs_of}
use Rattle.ms_ir.specs.Func.{insts_at}
use Rattle.ms_climb.specs.Answer.{IsLastAt, IsLastAtEnd}
use Rattle.ms_climb.proofs.Options.{if_ok}
use Rattle.ms_climb.proofs.Answered.{leaving_some, end_last}
use Rattle.ms_climb.proofs.search.last_at_end.Goals as goal

pub leaving-start-requires : goal.leaving-start-requires
leaving-start-requires g c = leaving_some c.args.formed.now.func.now c.args.formed.now.form.now c.requires.formed.form c.numbered.ensures.one_place c.args.b.0 c.requires.reached

pub returns : goal.returns
returns g c =
    let func = c.args.formed.now.func.now in
    let E = g.W.Writes.test c.args.counted.now in
    let start = c.leaving-start.result in
    let b = c.args.b.0 in
    if_ok (λ a. (x k : ℕ) → IsReached (graph_of func.blocks) x → IsLastAt func.blocks (defs_of func.blocks) x k start → IsLastAt func.blocks E x k a) (IsLastAtEnd func.blocks E b) c.climb.result
    (λ a h. h b (length (insts_at func.blocks b)) c.requires.reached (end_last func c.args.formed.now.form.now c.requires.formed.form c.numbered.ensures.one_place b start c.requires.reached c.leaving-start.ensures))
    c.climb.ensures
