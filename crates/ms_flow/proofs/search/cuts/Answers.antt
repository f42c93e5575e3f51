use Rattle.ms_flow.proofs.Paths.{cut_by}
use Rattle.ms_flow.proofs.search.cuts.Goals as goal

pub returns-clause-cuts : goal.returns-clause-cuts
returns-clause-cuts c = cut_by c.args.table.now c.requires.closed c.args.h c.args.b c.requires.h _ c.visit_without.ensures.walk c.is_cut.result c.is_cut.ensures
