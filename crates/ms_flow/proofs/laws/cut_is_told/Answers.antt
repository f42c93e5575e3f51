use Rattle.ms_flow.proofs.Cuts.{cut_blocks, cut_function, cut_edges, cut_closed, cut_reached, cut_reducible}
use Rattle.ms_flow.proofs.Sums.{one_count}
use Rattle.ms_flow.proofs.Kepts.{cut_fewer, cut_stood}
use Rattle.ms_flow.proofs.laws.cut_is_told.Goals as goal

pub returns-clause-blocks : goal.returns-clause-blocks
returns-clause-blocks c = cut_blocks

pub returns-clause-function : goal.returns-clause-function
returns-clause-function c = cut_function

pub returns-clause-edges : goal.returns-clause-edges
returns-clause-edges c = cut_edges

pub returns-clause-closed : goal.returns-clause-closed
returns-clause-closed c = cut_closed

pub returns-clause-reached : goal.returns-clause-reached
returns-clause-reached c = cut_reached

pub returns-clause-reducible : goal.returns-clause-reducible
returns-clause-reducible c = cut_reducible c.part_form.ensures.reducible

pub returns-clause-fewer : goal.returns-clause-fewer
returns-clause-fewer c = cut_fewer

pub returns-clause-stood : goal.returns-clause-stood
returns-clause-stood c = cut_stood

pub returns-clause-count : goal.returns-clause-count
returns-clause-count c = one_count
