use Rattle.std.proofs.Common.{◌∙◌}
use Rattle.indexmap.proofs.CallerLemmas.{insert_entry-new}
use Rattle.ms_cache.specs.Same.{same_query}
use Rattle.ms_cache.specs.Stays.{query_of}
use Rattle.ms_cache.proofs.Keys.{once_told, not_found}
use Rattle.ms_cache.proofs.cache.Cache.put.Goals as goal

pub invariant_of-self-2 : goal.invariant_of-self-2
invariant_of-self-2 c = once_told c.insert.new.self.entries c.in_ok-insert.ensures.unique

pub returns-clause-ok : goal.returns-clause-ok
returns-clause-ok c =
    let q = query_of c.args.i c.args.loc in
    let new = rw (← c.self.view_is) at c.requires in
    rw (← c.self.view_is) (c.in_ok-insert.ensures.entries ∙ insert_entry-new same_query c.self.inside.answers q c.args.access (not_found c.self.inside.answers.entries q new))

pub returns-clause-once : goal.returns-clause-once
returns-clause-once c = once_told c.insert.new.self.entries c.in_ok-insert.ensures.unique
