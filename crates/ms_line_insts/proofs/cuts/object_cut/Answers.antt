use Rattle.ms_line_insts.proofs.CutLemmas.{object_none, object_found}
use Rattle.ms_line_insts.proofs.cuts.object_cut.Goals as goal

pub returns-in-Some : goal.returns-in-Some
returns-in-Some c =
    let is = c.in-Some.ensures.is in
    object_found c.args.line.now c.args.tokens.now c.cut.result.0.now c.cut.result.1.now c.in-Some.count c.cut.ensures.whole c.cut.ensures.many c.cut.ensures.front c.cut.ensures.owned c.cut.ensures.behind (is.1, is.2) c.in-Some.ensures.whole

pub returns-in-None : goal.returns-in-None
returns-in-None c =
    object_none c.args.line.now c.args.tokens.now c.in-None.ensures.whole
