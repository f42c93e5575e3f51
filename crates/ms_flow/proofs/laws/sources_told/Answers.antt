use Rattle.ms_flow.proofs.Listed.{source_all, source_told, sources_order}
use Rattle.ms_flow.proofs.laws.sources_told.Goals as goal

pub returns : goal.returns
returns c = record { edges = source_told; all = source_all; order = sources_order }
