use Rattle.ms_line_insts.proofs.ArgLemmas.{count_told, count_none}
use Rattle.ms_line_insts.proofs.args.count_front.Goals as goal

pub returns-in-Some-count_at : goal.returns-in-Some-count_at
returns-in-Some-count_at c =
    count_told c.args.line.now c.args.tokens.now c.in-Some.first c.in-Some.rest.now c.in-Some.ensures.cells c.in-Some.ensures.behind c.in-Some-count_at.found c.in-Some-count_at.ensures

pub returns-in-None : goal.returns-in-None
returns-in-None c =
    count_none c.args.line.now c.args.tokens.now c.in-Some.first c.in-Some.rest.now c.in-Some.ensures.cells c.in-None.ensures
