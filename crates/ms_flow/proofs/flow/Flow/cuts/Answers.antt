use Rattle.ms_flow.proofs.flow.Flow.cuts.Goals as goal

pub returns-clause-cuts : goal.returns-clause-cuts
returns-clause-cuts c = rw (← c.self.view_is) c.cuts.ensures.cuts
