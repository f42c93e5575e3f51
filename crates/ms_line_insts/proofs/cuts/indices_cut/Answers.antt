use Rattle.std.proofs.Common.{arith, ◌≡◌}
use Rattle.ms_line_insts.specs.Cuts.{HasIndices, HasTail}
use Rattle.ms_line_insts.proofs.CutLemmas.{cut_of, indices_some}
use Rattle.ms_line_insts.proofs.cuts.indices_cut.Goals as goal

pub returns-then-count-gt0 : goal.returns-then-count-gt0
returns-then-count-gt0 c =
    cut_of (HasIndices c.args.line.now) (HasTail c.args.line.now) c.args.line.now c.args.tokens.now c.cut.result.0.now c.cut.result.1.now c.indices_front-count.result c.cut.ensures.whole c.cut.ensures.many c.cut.ensures.front c.cut.ensures.owned c.cut.ensures.behind (c.indices_front-count.ensures.is (omega arith)) (λ run rest e p q. c.indices_front-count.ensures.whole run rest p.0 p.1 e p.2 q)

pub returns-else-count-gt0 : goal.returns-else-count-gt0
returns-else-count-gt0 c =
    λ run rest e p q.
    let none : c.indices_front-count.result ≡ 0 = omega arith in
    indices_some c.args.line.now run p (rw none at (c.indices_front-count.ensures.whole run rest p.0 p.1 e p.2 q))
