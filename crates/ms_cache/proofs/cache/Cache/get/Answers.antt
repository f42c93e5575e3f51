use Rattle.std.proofs.Common.{sym}
use Rattle.ms_cache.specs.Stays.{query_of}
use Rattle.ms_cache.proofs.Keys.{found_kept, not_kept}
use Rattle.ms_cache.proofs.cache.Cache.get.Goals as goal

pub returns-in-Some-clause-found : goal.returns-in-Some-clause-found
returns-in-Some-clause-found c =
    rw (← c.self.view_is) (found_kept c.self.inside.answers.entries (query_of c.args.i c.args.loc.now) c.in-Some.access.now (sym c.in-Some.ensures.value))

pub returns-in-None-clause-found : goal.returns-in-None-clause-found
returns-in-None-clause-found c =
    rw (← c.self.view_is) (not_kept c.self.inside.answers.entries (query_of c.args.i c.args.loc.now) (sym c.in-None.ensures.value))
