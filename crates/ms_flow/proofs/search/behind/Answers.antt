use Rattle.std.proofs.Common.{◌∙◌, arith, length-set}
use Rattle.ms_paths.specs.Flow.{IsOnEveryPath}
use Rattle.ms_flow.proofs.Paths.{cut_by, told_more}
use Rattle.ms_flow.proofs.search.behind.Goals as goal

pub loop-b-preserved : goal.loop-b-preserved
loop-b-preserved c =
    let g = c.args.table.now in
    let h = c.args.h in
    let b = c.loop-b.b in
    let blocks = c.loop-b.invariant.0 in
    let len = c.len-b-end.ensures.len in (
      length-set c.loop-b.passes.items b c.is_cut.result ∙ blocks,
      told_more (IsOnEveryPath g h) c.loop-b.passes.items b c.is_cut.result (omega arith) c.loop-b.invariant.1
          (cut_by g c.requires.closed h b c.requires.h _ c.visit_without.ensures.walk c.is_cut.result c.is_cut.ensures),
    )

pub returns : goal.returns
returns c =
    let len = c.len-b-end.ensures.len in
    let end = c.loop-b-test.false in
    record { blocks = c.loop-b.invariant.0; behind = λ b lt. c.loop-b.invariant.1 b (omega arith) }
