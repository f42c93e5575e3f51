use Rattle.ms_line_insts.proofs.Geps.{indices_found, indices_no_lead, indices_none, indices_no_tail}
use Rattle.ms_line_insts.proofs.memory.indices_end.Goals as goal

pub returns-in_default : goal.returns-in_default
returns-in_default c = indices_no_lead c.args.line.now c.args.tokens.now c.in_default.ensures

pub returns-in_default-indices_cut : goal.returns-in_default-indices_cut
returns-in_default-indices_cut c = indices_none c.args.line.now c.args.tokens.now c.in-Some.at_index.now c.in-Some.ensures c.in_default-indices_cut.ensures

pub returns-in-Some-2 : goal.returns-in-Some-2
returns-in-Some-2 c =
    indices_found c.args.line.now c.args.tokens.now c.in-Some.at_index.now c.in-Some-indices_cut.indices.now c.in-Some-indices_cut.at_tail.now c.in-Some-2.tail c.in-Some.ensures c.in-Some-indices_cut.ensures (rw c.in-Some-2.is at c.in_ok-tail.ensures)

pub returns-in-None : goal.returns-in-None
returns-in-None c =
    indices_no_tail c.args.line.now c.args.tokens.now c.in-Some.at_index.now c.in-Some-indices_cut.indices.now c.in-Some-indices_cut.at_tail.now c.in-Some.ensures c.in-Some-indices_cut.ensures (rw c.in-None.is at c.in_ok-tail.ensures)
