use Rattle.ms_line_insts.proofs.CutLemmas.{member_found, member_none}
use Rattle.ms_line_insts.proofs.cuts.member_cut.Goals as goal

pub returns-in-Some : goal.returns-in-Some
returns-in-Some c =
    let are = rw c.in-Some.is at c.in_ok-count.ensures.are in
    member_found c.args.line.now c.args.tokens.now c.cut.result.0.now c.cut.result.1.now c.in-Some.count c.cut.ensures.whole c.cut.ensures.many c.cut.ensures.front c.cut.ensures.owned c.cut.ensures.behind are.1 (rw c.in-Some.is at c.in_ok-count.ensures.whole)

pub returns-in-None : goal.returns-in-None
returns-in-None c =
    member_none c.args.line.now c.args.tokens.now (rw c.in-None.is at c.in_ok-count.ensures.whole)
