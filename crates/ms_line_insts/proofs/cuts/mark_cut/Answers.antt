use Rattle.std.proofs.Common.{arith, ◌≡◌}
use Rattle.ms_line_insts.specs.Front.{Always}
use Rattle.ms_line_insts.specs.Cuts.{BeginsCall}
use Rattle.ms_line_insts.proofs.CutLemmas.{cut_of, call_some}
use Rattle.ms_line_insts.proofs.cuts.mark_cut.Goals as goal

pub returns-then-count-gt0 : goal.returns-then-count-gt0
returns-then-count-gt0 c =
    cut_of (BeginsCall c.args.line.now) Always c.args.line.now c.args.tokens.now c.cut.result.0.now c.cut.result.1.now c.call_mark_front-count.result c.cut.ensures.whole c.cut.ensures.many c.cut.ensures.front c.cut.ensures.owned c.cut.ensures.behind (c.call_mark_front-count.ensures.is (omega arith)) (λ run rest e p q. c.call_mark_front-count.ensures.whole run rest e p)

pub returns-else-count-gt0 : goal.returns-else-count-gt0
returns-else-count-gt0 c =
    λ run rest e p q.
    let none : c.call_mark_front-count.result ≡ 0 = omega arith in
    call_some c.args.line.now run p (rw none at (c.call_mark_front-count.ensures.whole run rest e p))
