use Rattle.std.proofs.Common.{subst}
use Rattle.std.specs.Prelude.{MatchOption, Contains}
use Rattle.ms_cache.specs.Stays.{query_of, NotKept}
use Rattle.ms_whole.specs.Whole.{WholeState}
use Rattle.ms_whole.proofs.whole.Whole.found.Goals as goal

pub returns-clause-found : goal.returns-clause-found
returns-clause-found c =
    subst (λ (s : WholeState). MatchOption c.get.result (NotKept s.kept (query_of c.args.i c.args.loc.now)) (λ a. Contains s.kept (query_of c.args.i c.args.loc.now, a))) c.self.view_is c.get.ensures.found
