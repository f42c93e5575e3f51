use Rattle.ms_line_insts.proofs.CutLemmas.{written_found}
use Rattle.ms_line_insts.proofs.cuts.written_cut.Goals as goal

pub returns : goal.returns
returns c =
    written_found c.args.line.now c.args.tokens.now c.cut.result.0.now c.cut.result.1.now c.in_ok-count.count c.cut.ensures.whole c.cut.ensures.many c.cut.ensures.front c.cut.ensures.owned c.cut.ensures.behind c.in_ok-count.ensures.is c.in_ok-count.ensures.whole
