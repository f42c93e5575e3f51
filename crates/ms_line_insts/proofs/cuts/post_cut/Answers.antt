use Rattle.ms_line_insts.specs.Cuts.{HasPost, StopsPost}
use Rattle.ms_line_insts.proofs.CutLemmas.{cut_of}
use Rattle.ms_line_insts.proofs.cuts.post_cut.Goals as goal

pub returns : goal.returns
returns c =
    cut_of (HasPost c.args.line.now) (StopsPost c.args.line.now) c.args.line.now c.args.tokens.now c.cut.result.0.now c.cut.result.1.now c.in_ok-count.count c.cut.ensures.whole c.cut.ensures.many c.cut.ensures.front c.cut.ensures.owned c.cut.ensures.behind c.in_ok-count.ensures.are (λ run rest e p q. c.in_ok-count.ensures.whole run rest e p q)
