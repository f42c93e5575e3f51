use Rattle.ms_alias.proofs.Cuts.{cut_ready}
use Rattle.ms_cache.proofs.Cut.{cut_roots, cut_locs}
use Rattle.ms_cache.proofs.Fewer.{cut_bases, cut_captured, cut_turning}
use Rattle.ms_cache.proofs.laws.cut_kept.Goals as goal

pub returns-clause-ready : goal.returns-clause-ready
returns-clause-ready c = cut_ready

pub returns-clause-roots : goal.returns-clause-roots
returns-clause-roots c = cut_roots

pub returns-clause-locations : goal.returns-clause-locations
returns-clause-locations c = cut_locs

pub returns-clause-bases : goal.returns-clause-bases
returns-clause-bases c = cut_bases

pub returns-clause-captured : goal.returns-clause-captured
returns-clause-captured c = cut_captured

pub returns-clause-turning : goal.returns-clause-turning
returns-clause-turning c = cut_turning
